use Rattle.std.proofs.Common.{◌≡◌, ◌∙◌, ◌<◌, ap, sym, arith, ℕ, Bool, true, false, ◌&&◌, ◌+◌, if◌then◌else◌, nat_lt, slice_index, slice_index_or}
use Rattle.std.proofs.lemmas.Bool.Decides.{nat_tests}
use Rattle.std.proofs.lemmas.List.{ext_get_or}
use Rattle.marks.specs.Lists.{zip_with}
use Rattle.segment.proofs.Joins.{length-zip}
use Rattle.search.proofs.Bools.{get_or-zip}
use Rattle.search.proofs.counts.add.Goals as goal

before : (k at : ℕ) → k < at → nat_lt k at ≡ true
before k at lt = grind (arith, nat_tests, lt)

pub returns : goal.returns
returns c =
    let olds = c.args.counts.now.items in
    let marks = c.args.marks.now in
    let add = λ (n : ℕ) (b : Bool). if b then n + 1 else n in
    ext_get_or 0 c.loop-at.counts.items (zip_with add olds marks) (c.loop-at.invariant.whole ∙ sym (length-zip add olds marks (sym c.requires.whole) ∙ c.requires.whole))
    (λ k lt. c.loop-at.invariant.each k
    ∙ ap (λ b. if (b && slice_index_or marks k false) then slice_index olds k + 1 else slice_index olds k) (before k c.loop-at.at (omega (arith, lt, c.loop-at.invariant.whole, c.loop-at-test.false, c.len-at-end.ensures)))
    ∙ sym (get_or-zip add olds marks k 0 false 0 (omega (arith, lt, c.loop-at.invariant.whole)) (sym c.requires.whole)))
