use Rattle.std.proofs.Common.{◌≡◌, ◌≤◌, ◌∙◌, ap, arith, sym}
use Rattle.std.specs.Arc.{arc_value}
use Rattle.op.specs.Documents.{Documents, documents}
use Rattle.op.specs.Records.{shown}
use Rattle.engine.specs.Answer.{SnapshotData}
use Rattle.engine.specs.Changes.{ChangesData, LeadsOn}
use Rattle.engine.specs.Parts.{merged, without}
use Rattle.engine.specs.Published.{IsFronted}
use Rattle.engine.specs.declared.read.part_list.PartList.{PartList}
use Rattle.engine.proofs.BegunLaws.{still-begun}
use Rattle.engine.proofs.engine.Engine.finish_refresh.Goals as goal

-- searches show the documents up to the point of the changes, and a merge that was begun may be finished still
pub invariant_of-self-3 : goal.invariant_of-self-3
invariant_of-self-3 c =
    let inside = c.self.inside in
    let before = inside.showing in
    let after = c.in-Some-2.showing in
    let leads : LeadsOn inside.history.records inside.point c.in-Some.begun = rw (← c.in-Some.ensures.value) at c.self.invariant.2 in
    let at : c.point-point.result ≡ c.in-Some.begun.point = c.point-point.ensures ∙ ap (λ (x : ChangesData). x.point) c.given.ensures in
    let under : Documents → SnapshotData = λ ds. record { mapping = arc_value inside.mapping; documents = ds } in
    let shows : after.snapshot ≡ under (merged c.in-Some.begun.documents (without c.in-Some.begun.ids (documents (shown inside.history.records inside.point)))) = rw c.in-Some-2.is at c.in_ok-showing.ensures.snapshot in
    let same = leads.same ∙ ap (λ n. documents (shown inside.history.records n)) (sym at) in
    let fronted : IsFronted before.next before.published after.published = rw c.in-Some-2.is at c.in_ok-showing.ensures.numbers in
    let rises : before.next ≤ after.next = rw c.in-Some-2.is at c.in_ok-showing.ensures.rises in (
      record { in_range = omega (arith, at, leads.within); same = shows ∙ ap under same },
      omega (arith, at, leads.more, c.self.invariant.1),
      rw c.take.ensures.after tt,
      still-begun (λ l. (arc_value {X = PartList} l).published) inside.merging before.next after.next before.published after.published fronted rises c.self.invariant.3,
      rw c.take.ensures.after tt,
    )
