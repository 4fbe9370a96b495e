use Rattle.op.proofs.DocumentLaws.{is_sorted-documents}
use Rattle.op.proofs.laws.documents_are_sorted.Goals as goal

pub returns : goal.returns
returns c = is_sorted-documents
