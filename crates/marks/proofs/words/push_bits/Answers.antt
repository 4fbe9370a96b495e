use Rattle.std.proofs.Common.{◌≡◌, ◌∙◌, ◌+◌, ◌++◌, ◌-◌, ◌<◌, ◌^◌, [], ◌∷◌, ap, sym, arith, bit_and, w64}
use Rattle.std.specs.Int.{trailing_zeros}
use Rattle.std.proofs.lemmas.List.{append_assoc, append-nil}
use Rattle.marks.specs.Bits.{set_bits}
use Rattle.marks.proofs.Runs.{lowest, set_bits-zero}
use Rattle.marks.proofs.words.push_bits.Goals as goal

pub loop-left-preserved : goal.loop-left-preserved
loop-left-preserved c =
    let left = c.loop-left.left in
    let some : 0 < left = omega (arith, c.loop-left-test.true) in
    let small : left < 2 ^ 64 = omega (arith, c.loop-left.auto.left-fits) in
    ap (λ l. l ++ set_bits 64 c.args.base (bit_and left (left - 1))) c.in_ok-push.ensures.items ∙ append_assoc c.loop-left.found.items ((c.args.base + trailing_zeros w64 left) ∷ []) (set_bits 64 c.args.base (bit_and left (left - 1)))
    ∙ ap (λ l. c.loop-left.found.items ++ l) (sym (lowest 64 c.args.base left some small)) ∙ c.loop-left.invariant

pub returns : goal.returns
returns c =
    let none : c.loop-left.left ≡ 0 = omega (arith, c.loop-left-test.false) in
    sym (append-nil c.loop-left.found.items) ∙ ap (λ l. c.loop-left.found.items ++ l) (sym (ap (set_bits 64 c.args.base) none ∙ set_bits-zero 64 c.args.base)) ∙ c.loop-left.invariant
