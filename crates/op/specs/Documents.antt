-- The documents that operations make.
use Rattle.std.specs.Prelude.{ℕ, not, List, [], Option, Some, None, fold}
use Rattle.std.specs.FinMap.Entries.{put, find, where_key}
use Rattle.op.specs.declared.operation.Op.{Op}
use Rattle.op.specs.declared.operation.Body.{Body}
use Rattle.op.specs.declared.operation.Body.TheVariants.{Index, Delete, NoOp}
use Rattle.doc.specs.Id.{Id, id_cmp, is_id}

-- a document: the number, term and version of the operation that wrote it, and its text
pub record Document : Type 0 where
  pub seq : ℕ
  pub term : ℕ
  pub version : ℕ
  pub source : List ℕ

-- documents by id, the ids in byte order
abbrev pub Documents : Type 0
Documents = List (Id × Document)

-- the document with this id
abbrev pub document_at : Documents → Id → Option Document
document_at ds id = find id_cmp id ds

-- the documents after what an operation does: Index sets, Delete removes, NoOp leaves
abbrev pub done : Documents → Op → Body → Documents
done ds o (Index id source) = put id_cmp id (record { seq = o.seq; term = o.term; version = o.version; source = source }) ds
done ds o (Delete id) = where_key id_cmp (λ i. not (is_id i id)) ds
done ds o NoOp = ds

-- the documents after one more operation
abbrev pub applied : Documents → Op → Documents
applied ds o = done ds o o.body

-- the documents of operations in ascending order of their numbers
abbrev pub documents : List Op → Documents
documents os = fold applied [] os

-- the document that an operation leaves: that of an Index
abbrev pub left_by : Op → Body → Option Document
left_by o (Index id source) = Some (record { seq = o.seq; term = o.term; version = o.version; source = source })
left_by o (Delete id) = None
left_by o NoOp = None

-- the document that the last operation on an id leaves
abbrev pub document_of : Option Op → Option Document
document_of None = None
document_of (Some o) = left_by o o.body
