use Rattle.marks.specs.Bits.{marked_from}
use Rattle.std.proofs.Common.{◌∙◌, ◌+◌, ◌*◌, ap, refl, arith, count_ones, slice_index}
use Rattle.marks.proofs.Runs.{counted-word, length-marked}
use Rattle.marks.proofs.words.count.Goals as goal

pub overflow_add-total : goal.overflow_add-total
overflow_add-total c =
    let ws = c.args.words.now in
    let at = c.loop-at.at in
    omega (arith, c.requires, c.loop-at.invariant, c.loop-at-test.true, counted-word ws at (slice_index ws at) refl (c.type_inv.words at).fits, length-marked ws 0 (64 * (at + 1)))

pub loop-at-init : goal.loop-at-init
unfolding marked_from
loop-at-init c = refl

pub loop-at-preserved : goal.loop-at-preserved
loop-at-preserved c =
    let ws = c.args.words.now in
    let at = c.loop-at.at in
    ap (λ n. n + count_ones (slice_index ws at)) c.loop-at.invariant ∙ counted-word ws at (slice_index ws at) refl (c.type_inv.words at).fits
