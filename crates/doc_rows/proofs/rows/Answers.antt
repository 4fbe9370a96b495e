use Rattle.doc_rows.proofs.Computed.{row_mappings, row_documents, row_depths}
use Rattle.doc_rows.proofs.rows.Goals as goal

pub returns : goal.returns
returns c = record { mappings = row_mappings; documents = row_documents; depths = row_depths }
