use Rattle.std.proofs.Common.{◌≡◌, ◌∙◌, true, ap, sym, subst, map}
use Rattle.std.specs.FinMap.Entries.{is_sorted}
use Rattle.doc.specs.Id.{id_cmp}
use Rattle.op.specs.Documents.{Documents}
use Rattle.engine.specs.Entry.{entry_view}
use Rattle.engine.specs.Parts.{documents_of_parts}
use Rattle.engine.proofs.PartLaws.{T_true}
use Rattle.engine.proofs.ApartLaws.{in_order-woven}
use Rattle.engine.proofs.job.swapping.part_showing.Goals as goal

pub of-requires-clause-sorted : goal.of-requires-clause-sorted
of-requires-clause-sorted c =
    subst (λ (ds : Documents). is_sorted id_cmp ds ≡ true) (sym (ap (map entry_view) c.deref-2.ensures.value ∙ c.in_ok-live.ensures)) (T_true _ (in_order-woven (documents_of_parts c.args.parts.now) c.requires.order))
