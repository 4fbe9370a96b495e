use Rattle.std.proofs.Common.{◌≡◌, ◌||◌, ◌∙◌, false, true, ap, map, subst, set, sym}
use Rattle.doc.specs.Id.{is_id}
use Rattle.engine.specs.Answer.{SnapshotData}
use Rattle.engine.specs.IdFilter.{has_bit}
use Rattle.engine.specs.Shown.{shown_view}
use Rattle.engine.proofs.PartLaws.{true_T}
use Rattle.engine.proofs.IdFilterLaws.{none-has}
use Rattle.engine.proofs.ChosenLaws.{set_at, none_is}
use Rattle.engine.proofs.read.block.Block.mark_id.Goals as goal

-- the place of the id is marked
pub returns-in-Ok : goal.returns-in-Ok
returns-in-Ok c = λ t was.
    let items = c.self.inside.documents.items in
    let id = c.args.id.now in
    let within = rw c.deref.ensures.value at c.in-Ok.ensures.within in
    let found = rw (c.deref.ensures.value, c.id.ensures) at c.in-Ok.ensures.found in
    c.set.ensures
    ∙ subst (λ (s : SnapshotData). c.args.marks.now ≡ map t s.documents → set c.args.marks.now c.in-Ok.at true ≡ map (λ d. t d || is_id d.0 id) s.documents) c.self.view_is
    (λ is. ap (λ bs. set bs c.in-Ok.at true) is ∙ set_at shown_view id t items c.in-Ok.at (true_T _ c.self.invariant.sorted) within found) was

-- no document has it
pub returns-in_default : goal.returns-in_default
returns-in_default c = λ t was.
    let items = c.self.inside.documents.items in
    let id = c.args.id.now in
    let absent = rw (c.deref.ensures.value, c.id.ensures) at c.in_default.ensures.absent in
    subst (λ (s : SnapshotData). c.args.marks.now ≡ map t s.documents → c.args.marks.now ≡ map (λ d. t d || is_id d.0 id) s.documents) c.self.view_is
    (λ is. is ∙ none_is shown_view id t items absent) was

-- nor has one the id whose bit isn't set
pub returns-then-not-may_have : goal.returns-then-not-may_have
returns-then-not-may_have c = λ t was.
    let items = c.self.inside.documents.items in
    let id = c.args.id.now in
    let out : has_bit c.self.inside.ids id ≡ false = sym c.may_have.ensures ∙ c.if-not-may_have.true in
    let absent = none-has c.self.inside.ids id out items c.self.invariant.ids in
    subst (λ (s : SnapshotData). c.args.marks.now ≡ map t s.documents → c.args.marks.now ≡ map (λ d. t d || is_id d.0 id) s.documents) c.self.view_is
    (λ is. is ∙ none_is shown_view id t items absent) was
