use Rattle.std.proofs.Common.{subst}
use Rattle.engine.specs.Contents.{segments_of}
use Rattle.replica.specs.Searched.{Searched, IsNextMerge}
use Rattle.replica.proofs.Searching.{next_merge}
use Rattle.replica.proofs.state.State.begin_next_merge.Goals as goal

pub returns-in_ok-begin_merge_of-in-Some-clause-some : goal.returns-in_ok-begin_merge_of-in-Some-clause-some
returns-in_ok-begin_merge_of-in-Some-clause-some c =
    let told = c.in_ok-numbers.ensures in
    let m = c.in_ok-begin_merge_of-in-Some.field-0 in
    subst (λ (s : Searched). IsNextMerge 16 s.segments m) c.self.view_is
    (next_merge 16 (segments_of c.self.inside.engine) m c.in-Some.numbers.items (rw c.in-Some.is at told.some) (rw c.in-Some.is at told.there) (rw c.in-Some.is at told.few) (rw c.in-Some.is at told.fit)
    (rw c.deref.ensures.value at c.in_ok-begin_merge_of-in-Some.ensures))
