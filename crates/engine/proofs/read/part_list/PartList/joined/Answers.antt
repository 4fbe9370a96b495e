use Rattle.std.proofs.Common.{◌≡◌, ◌∙◌, true, ap, sym, subst, map, List}
use Rattle.std.specs.FinMap.Entries.{is_sorted}
use Rattle.doc.specs.Id.{id_cmp}
use Rattle.op.specs.Documents.{Documents}
use Rattle.engine.specs.Entry.{entry_view}
use Rattle.engine.specs.Parts.{PartData, documents_of_parts, woven}
use Rattle.engine.proofs.PartLaws.{T_true}
use Rattle.engine.proofs.ApartLaws.{in_order-woven}
use Rattle.engine.proofs.read.part_list.PartList.joined.Goals as goal

pub of-requires-clause-sorted : goal.of-requires-clause-sorted
of-requires-clause-sorted c =
    let ps = c.self.inside.parts.items in
    let all = ap (map entry_view) c.deref-4.ensures.value ∙ c.in_ok-entries.ensures ∙ ap (λ (qs : List PartData). woven (documents_of_parts qs)) c.deref.ensures.value in
    subst (λ (ds : Documents). is_sorted id_cmp ds ≡ true) (sym all) (T_true _ (in_order-woven (documents_of_parts ps) c.self.invariant.apart.sorted))
