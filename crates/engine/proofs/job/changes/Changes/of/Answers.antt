use Rattle.std.proofs.Common.{◌≡◌, ◌∙◌, ap, arith, length, sym, None, if◌then◌else◌}
use Rattle.std.specs.Arc.{arc_value}
use Rattle.doc.specs.Id.{Id}
use Rattle.op.specs.Documents.{document_at, document_of, documents}
use Rattle.op.specs.Operations.{op_at}
use Rattle.op.specs.Records.{operations, shown}
use Rattle.op.proofs.DocumentLaws.{document_at-documents, is_sorted-documents}
use Rattle.op.proofs.RecordLaws.{shown-all}
use Rattle.engine.specs.Changes.{ids_on}
use Rattle.engine.specs.Kept.{HistoryData}
use Rattle.engine.specs.OperationIndex.{operations_in}
use Rattle.engine.specs.Parts.{is_among}
use Rattle.engine.proofs.LatestLaws.{found-among}
use Rattle.engine.proofs.RefreshLaws.{only_among, refreshed}
use Rattle.engine.proofs.RisenLaws.{last-behind, op_at-front, others-behind}
use Rattle.engine.proofs.job.changes.Changes.of.Goals as goal

-- the documents stand at the ids alone
pub invariant_of-result : goal.invariant_of-result
invariant_of-result c =
    let rs = c.args.history.now.records in
    let ops = operations_in (arc_value c.in-Some.records).items in
    let behind = rw c.in-Some.is at c.in_ok-records.ensures.behind in
    let at : (id : Id) → document_at (documents ops) id ≡ (if is_among (ids_on ops) id then document_at (documents (operations rs)) id else None) =
    λ id. document_at-documents ops id ∙ ap document_of (last-behind (shown rs c.args.point) (operations rs) ops behind id) ∙ found-among (operations rs) id (is_among (ids_on ops) id) in
    record { sorted = is_sorted-documents ops; only = only_among (operations rs) (ids_on ops) (documents ops) at }

-- with the others as they were they are the documents of all records
pub returns-clause-leads : goal.returns-clause-leads
returns-clause-leads c =
    let rs = c.args.history.now.records in
    let ops = operations_in (arc_value c.in-Some.records).items in
    let old = shown rs c.args.point in
    let behind = rw c.in-Some.is at c.in_ok-records.ensures.behind in
    let all : c.len.result ≡ length rs = c.len.ensures ∙ ap (λ (h : HistoryData). length h.records) c.share.ensures.same in
    let at : (id : Id) → document_at (documents ops) id ≡ (if is_among (ids_on ops) id then document_at (documents (operations rs)) id else None) =
    λ id. document_at-documents ops id ∙ ap document_of (last-behind old (operations rs) ops behind id) ∙ found-among (operations rs) id (is_among (ids_on ops) id) in
    record {
      more = omega (arith, all, c.requires.within);
      within = omega (arith, all);
      stay = λ o before. ap (λ os. op_at os o.seq) (ap (shown rs) all ∙ shown-all rs ∙ behind) ∙ op_at-front old ops o.seq o before;
      same = refreshed (operations rs) old (ids_on ops) (documents ops) (is_sorted-documents ops) at (others-behind old (operations rs) ops behind) ∙ ap documents (sym (ap (shown rs) all ∙ shown-all rs));
    }
