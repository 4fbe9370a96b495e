use Rattle.std.proofs.Common.{◌≡◌, true, sym, subst}
use Rattle.std.specs.FinMap.Entries.{is_sorted}
use Rattle.doc.specs.Id.{id_cmp}
use Rattle.op.specs.Documents.{Documents}
use Rattle.op.proofs.DocumentLaws.{is_sorted-documents}
use Rattle.engine.specs.Slot.{ops}
use Rattle.engine.proofs.read.part_list.PartList.of.Goals as goal

-- documents of operations are in order
pub over-requires-clause-sorted : goal.over-requires-clause-sorted
over-requires-clause-sorted g c =
    subst (λ (ds : Documents). is_sorted id_cmp ds ≡ true) (sym c.in_ok-documents.ensures) (is_sorted-documents (ops c.args.slots.now))
