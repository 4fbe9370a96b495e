-- A document where it stands.
-- For proofs alone: no public contract rests on it.
use Rattle.doc.specs.Id.{Id}
use Rattle.op.specs.Documents.{Document}
use Rattle.engine.specs.declared.read.documents.Entry.{Entry}

-- the document, without where its text lies
abbrev pub document_in : Entry → Document
document_in e = record { seq = e.seq; term = e.term; version = e.version; source = e.source.now }

abbrev pub entry_view : Entry → Id × Document
entry_view e = (e.id.now, document_in e)
