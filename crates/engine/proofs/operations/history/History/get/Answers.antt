use Rattle.std.proofs.Common.{sym, ap, ◌∙◌}
use Rattle.op.specs.Records.{operations}
use Rattle.op.specs.Documents.{document_of}
use Rattle.op.proofs.DocumentLaws.{document_at-documents}
use Rattle.engine.proofs.operations.history.History.get.Goals as goal

-- the document is that of the last operation on the id
pub returns-in-Some : goal.returns-in-Some
returns-in-Some c = let last = c.in-Some.ensures in c.document_of.ensures ∙ ap document_of last ∙ sym (document_at-documents (operations c.args.self.now.records) c.args.id.now)

pub returns-in-None : goal.returns-in-None
returns-in-None c = let last = c.in-None.ensures in ap document_of last ∙ sym (document_at-documents (operations c.args.self.now.records) c.args.id.now)
