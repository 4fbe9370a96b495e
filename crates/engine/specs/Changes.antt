-- What came after what searches show.
-- For proofs alone: no public contract rests on it.
use Rattle.std.specs.Prelude.{◌≡◌, ◌≤◌, ◌++◌, ℕ, true, All, List, [], ◌∷◌, length}
use Rattle.std.specs.FinMap.Entries.{is_sorted}
use Rattle.doc.specs.Id.{Id, id_cmp}
use Rattle.op.specs.declared.operation.Body.{Body}
use Rattle.op.specs.declared.operation.Body.TheVariants.{Index, Delete, NoOp}
use Rattle.op.specs.declared.operation.Op.{Op}
use Rattle.op.specs.declared.record.Record.{Record}
use Rattle.op.specs.Documents.{Documents, documents}
use Rattle.op.specs.Records.{shown}
use Rattle.engine.specs.Answer.{SnapshotData}
use Rattle.engine.specs.Lessened.{all_before, IsLessened}
use Rattle.engine.specs.Parts.{has_id, is_among, merged, without}
use Rattle.engine.specs.Published.{Published}
use Rattle.engine.specs.declared.job.lessened.Lessened.{Lessened}
use Rattle.engine.specs.SnapshotChange.{StayShown}

-- the id that an operation is on, where it is on one
abbrev pub id_on : Body → List Id
id_on (Index id source) = id ∷ []
id_on (Delete id) = id ∷ []
id_on NoOp = []

-- the ids that operations are on
abbrev pub ids_on : List Op → List Id
ids_on [] = []
ids_on (o ∷ os) = id_on o.body ++ ids_on os

-- of how many records they are, the ids that were written, the documents that stand there, and segments that searches looked through
pub record ChangesData : Type 0 where
  pub point : ℕ
  pub ids : List Id
  pub documents : Documents
  pub published : List Published

-- the documents stand at the ids, in their order
pub record AreAt (ids : List Id) (ds : Documents) : Type 0 where
  pub sorted : is_sorted id_cmp ds ≡ true
  pub only : (id : Id) → has_id id ds ≡ true → is_among ids id ≡ true

-- they lead from the documents of so many records to those of more
pub record LeadsOn (rs : List Record) (point : ℕ) (c : ChangesData) : Type 0 where
  pub more : point ≤ c.point
  pub within : c.point ≤ length rs
  pub stay : StayShown rs point c.point
  pub same : merged c.documents (without c.ids (documents (shown rs point))) ≡ documents (shown rs c.point)

-- a refresh that puts them in place has their documents, and what is left of those segments
pub record IsReady (c : ChangesData) (block : SnapshotData) (written : List Id) (ls : List Lessened) : Type 0 where
  pub ids : written ≡ c.ids
  pub only : (id : Id) → has_id id block.documents ≡ true → is_among written id ≡ true
  pub documents : block.documents ≡ c.documents
  pub before : all_before ls ≡ c.published
  pub are : All (IsLessened c.ids) ls
