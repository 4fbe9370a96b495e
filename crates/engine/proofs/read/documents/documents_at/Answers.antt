use Rattle.std.proofs.Common.{◌≡◌, ◌∙◌, ap, sym, subst, true, map, None, if◌then◌else◌}
use Rattle.std.specs.FinMap.Entries.{is_sorted}
use Rattle.doc.specs.Id.{id_cmp}
use Rattle.op.specs.Documents.{Documents, document_at}
use Rattle.op.specs.Operations.{last_on}
use Rattle.op.specs.Records.{operations}
use Rattle.engine.specs.Entry.{entry_view}
use Rattle.engine.specs.Latest.{left_all}
use Rattle.engine.specs.Parts.{is_among}
use Rattle.engine.proofs.LatestLaws.{found-among, found-by, sorted-by}
use Rattle.engine.proofs.read.documents.documents_at.Goals as goal

-- the last operations on the ids leave the documents there
pub returns-clause-sorted : goal.returns-clause-sorted
returns-clause-sorted c =
    let same : map entry_view c.in_ok-entries.entries.items ≡ left_all c.in_ok-latest.latest.items = c.in_ok-entries.ensures ∙ ap left_all c.deref.ensures.value in
    subst (λ (ds : Documents). is_sorted id_cmp ds ≡ true) (sym same) (sorted-by _ c.in_ok-latest.latest.items c.in_ok-latest.ensures)

pub returns-clause-found : goal.returns-clause-found
returns-clause-found c = λ id.
    let os = operations c.args.history.now.records in
    let same : map entry_view c.in_ok-entries.entries.items ≡ left_all c.in_ok-latest.latest.items = c.in_ok-entries.ensures ∙ ap left_all c.deref.ensures.value in
    ap (λ (ds : Documents). document_at ds id) same
    ∙ found-by (λ i. if is_among c.args.ids.now i then last_on os i else None) c.in_ok-latest.latest.items c.in_ok-latest.ensures id
    ∙ found-among os id (is_among c.args.ids.now id)
