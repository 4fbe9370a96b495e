use Rattle.std.proofs.Common.{◌≡◌, ◌≤◌, false, ap, subst, sym, IfOk}
use Rattle.std.proofs.lemmas.Result.{IfOk-weaker}
use Rattle.engine.specs.Published.{MergeData, Segments, mergeable_count}
use Rattle.replica.specs.Logged.{Logged}
use Rattle.replica.specs.Searched.{IsNextMerge}
use Rattle.replica.proofs.MergeLaws.{few-left}
use Rattle.replica.proofs.copy.Copy.merge_next.Goals as goal

-- a merge that was begun at these segments is put in place
pub returns-in_ok-merged-in-Some-clause-few : goal.returns-in_ok-merged-in-Some-clause-few
returns-in_ok-merged-in-Some-clause-few g c =
    let old = c.self.inside.state in
    let m = c.in_ok-merged-in-Some.field-0 in
    let begun : IsNextMerge 16 old.segments c.in-Some.merging = rw c.in-Some.is at c.in_ok-merging.ensures.some in
    let next : IsNextMerge 16 old.segments m = subst (λ (x : MergeData). IsNextMerge 16 old.segments x) (sym c.in_ok-merged-in-Some.ensures) begun in
    subst (λ (s : Segments). IfOk c.swap_merged.result (λ b. b ≡ false → mergeable_count s.published ≤ 16)) (ap (λ (l : Logged). l.segments) c.self.view_is)
    (IfOk-weaker c.swap_merged.result _ _ (λ b swap. few-left old c.swap_merged.new.self m b next swap) c.swap_merged.ensures.swapped)
