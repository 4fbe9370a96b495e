use Rattle.std.proofs.Common.{◌≡◌, ◌∙◌, ap, arith, take, length, min}
use Rattle.std.specs.List.{range_with_len}
use Rattle.std.proofs.lemmas.List.{take_min}
use Rattle.std.proofs.lemmas.List.FromFn.{length-range_with_len}
use Rattle.search.proofs.Wholes.{range-more, range-first}
use Rattle.search.proofs.whole.first_numbers.Goals as goal

-- one number more
pub loop-place-preserved : goal.loop-place-preserved
loop-place-preserved c = c.in_ok-push.ensures.items ∙ range-more c.loop-place.place c.loop-place.first.items c.loop-place.invariant

pub returns-clause-first : goal.returns-clause-first
returns-clause-first c =
    let n = c.args.count in
    let end : c.loop-place.place ≡ min c.args.wanted (length (range_with_len 0 n)) = omega (arith, length-range_with_len 0 n, c.min-end.ensures) in
    c.loop-place.invariant ∙ range-first c.loop-place.place n (omega (arith, c.min-end.ensures)) ∙ ap (λ k. take k (range_with_len 0 n)) end ∙ take_min c.args.wanted (range_with_len 0 n)
