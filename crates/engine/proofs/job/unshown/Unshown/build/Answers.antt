use Rattle.std.proofs.Common.{◌≡◌, ◌∙◌, ap, map, subst, sym, true, List}
use Rattle.std.specs.Prelude.{All}
use Rattle.std.specs.Arc.{arc_value}
use Rattle.doc.specs.Id.{Id}
use Rattle.op.specs.Documents.{Documents, documents}
use Rattle.engine.specs.Answer.{SnapshotData}
use Rattle.engine.specs.Changes.{ids_on, ChangesData}
use Rattle.engine.specs.Entry.{entry_view}
use Rattle.engine.specs.Lessened.{IsLessened}
use Rattle.engine.specs.Parts.{has_id, is_among}
use Rattle.engine.proofs.job.unshown.Unshown.build.Goals as goal

-- its documents are those of the operations, and what is left is what is left of the parts of that moment
pub note-requires : goal.note-requires
note-requires g c =
    let ids : c.in_ok-ids.ids.items ≡ c.given-changes.result.now.ids = c.in_ok-ids.ensures ∙ ap ids_on c.deref-3.ensures.value ∙ c.in_ok-ops.ensures.ids in
    let made : (arc_value c.in_ok-block-2.block).documents ≡ c.given-changes.result.now.documents =
    ap (λ (s : SnapshotData). s.documents) (c.in_ok-block-2.ensures.ok ∙ c.in_ok-block.ensures)
    ∙ ap (map entry_view) c.deref-2.ensures.value
    ∙ c.in_ok-entries.ensures
    ∙ ap documents c.deref.ensures.value
    ∙ c.in_ok-ops.ensures.documents in
    let all_ids = ids ∙ ap (λ (x : ChangesData). x.ids) c.given-changes.ensures in
    record {
      ids = all_ids;
      only = λ id has. subst (λ (is : List Id). is_among is id ≡ true) (sym ids) (c.in_ok-ops.ensures.are.only id (subst (λ (ds : Documents). has_id id ds ≡ true) made has));
      documents = made ∙ ap (λ (x : ChangesData). x.documents) c.given-changes.ensures;
      before = c.in_ok-parts.ensures.before ∙ c.parts.ensures ∙ ap (λ (x : ChangesData). x.published) c.given-changes.ensures;
      are = subst (λ (is : List Id). All (IsLessened is) c.in_ok-parts.parts.items) (c.deref-4.ensures.value ∙ all_ids) c.in_ok-parts.ensures.are;
    }
