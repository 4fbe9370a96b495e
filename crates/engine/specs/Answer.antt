-- What a search answers.
use Rattle.std.specs.Prelude.{ℕ, Bool, List, map, filter, take, drop, length}
use Rattle.doc.specs.Id.{Id}
use Rattle.doc.specs.Mapping.{MappingData}
use Rattle.op.specs.declared.operation.Op.{Op}
use Rattle.op.specs.Documents.{Document, Documents, documents}
use Rattle.query.specs.Page.{PageData}
use Rattle.query.specs.Query.{Query}
use Rattle.query.specs.Meaning.{means}

-- documents, and the mapping that they are read under
pub record SnapshotData : Type 0 where
  pub mapping : MappingData
  pub documents : Documents

-- how many documents were found, and those of the page, each with its text
pub record Answer : Type 0 where
  pub total : ℕ
  pub hits : List (Id × List ℕ)

-- whether the query means the document
abbrev pub is_found : MappingData → Query → Id × Document → Bool
is_found m q d = means m d.1.source q

-- the documents that the query means, in byte order of their ids
abbrev pub found : SnapshotData → Query → Documents
found s q = filter (is_found s.mapping q) s.documents

-- the id of a document with its text
abbrev pub hit : Id × Document → Id × List ℕ
hit d = (d.0, d.1.source)

-- the part of the hits that the page asks for
abbrev pub on_page : PageData → Documents → Documents
on_page page ds = take page.size (drop page.from ds)

-- what a search among these documents answers
abbrev pub answer_of : SnapshotData → Query → PageData → Answer
answer_of s q page = record { total = length (found s q); hits = map hit (on_page page (found s q)) }

-- what a search of operations answers
abbrev pub answer : MappingData → List Op → Query → PageData → Answer
answer m os q page = answer_of (record { mapping = m; documents = documents os }) q page
