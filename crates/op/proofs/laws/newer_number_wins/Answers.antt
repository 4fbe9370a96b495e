use Rattle.std.proofs.Common.{◌∙◌, ap}
use Rattle.op.specs.Documents.{documents, document_at}
use Rattle.op.proofs.DocumentLaws.{document_at-documents-placed}
use Rattle.op.proofs.OperationLaws.{add-free}
use Rattle.op.proofs.laws.newer_number_wins.Goals as goal

pub returns : goal.returns
returns c = λ os o id free up. ap (λ (ps : _). document_at (documents ps) id) (add-free os o free) ∙ document_at-documents-placed os o id free up
