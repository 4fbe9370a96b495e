-- A document that was found.
use Rattle.op.specs.Documents.{Document}
use Rattle.engine.specs.declared.operations.history.Found.{Found}

-- the document, without where its text lies
abbrev pub found_document : Found → Document
found_document f = record { seq = f.seq; term = f.term; version = f.version; source = f.source.now }
