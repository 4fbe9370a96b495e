use Rattle.std.proofs.Common.{◌≡◌, ◌∙◌, ◌/◌, ◌%◌, ◌*◌, ◌^◌, ◌<◌, ap, arith, slice_set, slice_index, bit_or, if◌then◌else◌, length}
use Rattle.std.specs.Int.Bits.{or_zero_r}
use Rattle.std.proofs.lemmas.Grind.{common_steps}
use Rattle.std.proofs.lemmas.List.{set-get_or}
use Rattle.marks.specs.Bits.{mark_at}
use Rattle.marks.proofs.WordBits.{mark-set}
use Rattle.marks.proofs.words.set_if.Goals as goal

pub returns-clause-set : goal.returns-clause-set
returns-clause-set c = λ is k.
    let ws = c.args.words.now.items in
    let at = c.args.place / 64 in
    let inside : at < length ws = omega (arith, c.requires) in
    let read : c.index.result.now ≡ slice_index ws at = grind (arith, common_steps, c.index.ensures, inside) in
    let bit : c.bit_if-bit.result ≡ 1 * 2 ^ (c.args.place % 64) % 18446744073709551616 = c.bit_if-bit.ensures ∙ ap (λ b. if b then 1 * 2 ^ (c.args.place % 64) % 18446744073709551616 else 0) is in
    ap (λ w. mark_at (slice_set ws at (bit_or w c.bit_if-bit.result)) k) read ∙ ap (λ b. mark_at (slice_set ws at (bit_or (slice_index ws at) b)) k) bit ∙ mark-set ws c.args.place c.requires k

pub returns-clause-kept : goal.returns-clause-kept
returns-clause-kept c = λ is.
    let ws = c.args.words.now.items in
    let at = c.args.place / 64 in
    let inside : at < length ws = omega (arith, c.requires) in
    let read : c.index.result.now ≡ slice_index ws at = grind (arith, common_steps, c.index.ensures, inside) in
    let bit : c.bit_if-bit.result ≡ 0 = c.bit_if-bit.ensures ∙ ap (λ b. if b then 1 * 2 ^ (c.args.place % 64) % 18446744073709551616 else 0) is in
    ap (λ w. slice_set ws at (bit_or w c.bit_if-bit.result)) read ∙ ap (λ b. slice_set ws at (bit_or (slice_index ws at) b)) bit
    ∙ ap (slice_set ws at) (or_zero_r (slice_index ws at)) ∙ set-get_or ws at 0
