use Rattle.std.proofs.Common.{◌∙◌, ap, refl, ◌-◌, ◌/◌, ◌%◌, ◌^◌, ℕ, replicate, slice_set}
use Rattle.marks.specs.Bits.{mark_at}
use Rattle.marks.proofs.Ones.{ones-whole, ones-some}
use Rattle.marks.proofs.words.ones.Goals as goal

pub returns-then-rest-eq0-clause-each : goal.returns-then-rest-eq0-clause-each
returns-then-rest-eq0-clause-each c = λ k.
    ap (λ ws. mark_at ws k) (c.in_ok-words.ensures ∙ ap (λ n. replicate n 18446744073709551615) c.words_for.ensures) ∙ ones-whole c.args.len k c.if-rest-eq0.true

pub returns-clause-each : goal.returns-clause-each
returns-clause-each c = λ k.
    let last : ℕ = 18446744073709551615 / 2 ^ (64 - c.args.len % 64) in
    ap (λ ws. mark_at (slice_set ws (c.args.len / 64) last) k) (c.in_ok-words.ensures ∙ ap (λ n. replicate n 18446744073709551615) c.words_for.ensures) ∙ ones-some c.args.len k last refl c.if-rest-eq0.false
