use Rattle.std.proofs.Common.{◌≡◌, ◌||◌, ◌∙◌, false, map, subst, sym}
use Rattle.doc.specs.Id.{is_id}
use Rattle.engine.specs.Answer.{SnapshotData}
use Rattle.engine.specs.IdFilter.{has_bit}
use Rattle.engine.specs.Shown.{shown_view}
use Rattle.engine.proofs.IdFilterLaws.{none-has}
use Rattle.engine.proofs.ChosenLaws.{none_is}
use Rattle.engine.proofs.read.block.Block.has.Goals as goal

-- no document has it
pub returns-in-Err : goal.returns-in-Err
returns-in-Err c = λ f t.
    let items = c.self.inside.documents.items in
    let id = c.args.id.now in
    let absent = rw (c.deref.ensures.value, c.id.ensures) at c.in-Err.ensures.absent in
    subst (λ (s : SnapshotData). map t s.documents ≡ map (λ d. t d || is_id d.0 id) s.documents) c.self.view_is (none_is shown_view id t items absent)

-- nor has one the id whose bit isn't set
pub returns-then-not-may_have : goal.returns-then-not-may_have
returns-then-not-may_have c = λ f t.
    let items = c.self.inside.documents.items in
    let id = c.args.id.now in
    let out : has_bit c.self.inside.ids id ≡ false = sym c.may_have.ensures ∙ c.if-not-may_have.true in
    let absent = none-has c.self.inside.ids id out items c.self.invariant.ids in
    subst (λ (s : SnapshotData). map t s.documents ≡ map (λ d. t d || is_id d.0 id) s.documents) c.self.view_is (none_is shown_view id t items absent)
