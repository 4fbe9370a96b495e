-- A change that makes a new snapshot, in two halves: made ready, then made.
use Rattle.std.specs.Prelude.{ℕ, List, Option, Some, None}
use Rattle.doc.specs.Mapping.{MappingData}
use Rattle.op.specs.declared.record.Record.{Record}
use Rattle.op.specs.Documents.{Documents}
use Rattle.engine.specs.Answer.{SnapshotData}
use Rattle.engine.specs.Contents.{Contents, EngineData, Shows}
use Rattle.engine.specs.Published.{Published, Segments}

-- the segments before the change; new records if there are any, what searches show, of how many records, through which segments, what is live in each, and the
-- number of the next one
pub record StagedData : Type 0 where
  pub before : Segments
  pub records : Option (List Record)
  pub snapshot : SnapshotData
  pub point : ℕ
  pub published : List Published
  pub live : List Documents
  pub next : ℕ

abbrev pub records_of : List Record → Option (List Record) → List Record
records_of rs None = rs
records_of rs (Some new) = new

-- the engine after the change
abbrev pub put_in : EngineData → StagedData → EngineData
put_in e s = record e { records = records_of e.records s.records; point = s.point; published = s.published; live = s.live; next = s.next }

-- the snapshot is that of these contents after the change
abbrev pub IsStagedFrom : Contents → StagedData → Type 0
IsStagedFrom c s = Shows c.mapping (records_of c.records s.records) s.point s.snapshot

-- documents of the first so many records that searches don't show, and the mapping that they are read under
pub record UnshownData : Type 0 where
  pub mapping : MappingData
  pub documents : Documents
  pub point : ℕ
