use Rattle.op.proofs.DocumentLaws.{document_at-documents}
use Rattle.op.proofs.laws.last_operation_decides.Goals as goal

pub returns : goal.returns
returns c = document_at-documents
