-- An engine as contracts see it.
use Rattle.std.specs.Prelude.{◌≡◌, ◌≤◌, ℕ, List, [], ◌∷◌, length}
use Rattle.doc.specs.Mapping.{MappingData}
use Rattle.op.specs.declared.record.Record.{Record}
use Rattle.op.specs.Documents.{Documents, documents}
use Rattle.op.specs.Records.{operations, shown}
use Rattle.engine.specs.Answer.{SnapshotData}
use Rattle.engine.specs.Published.{Published, Segments, IsBegun}

-- the mapping, the records, and how many of them searches show
pub record Contents : Type 0 where
  pub mapping : MappingData
  pub records : List Record
  pub point : ℕ

-- an engine: its contents, the segments that searches look through, the newest first, what is live in each, and the number of the next one
pub record EngineData : Type 0 where
  pub mapping : MappingData
  pub records : List Record
  pub point : ℕ
  pub published : List Published
  pub live : List Documents
  pub next : ℕ

-- the engine of records, which searches show through one segment, whose number is 0
abbrev pub opened_engine : MappingData → List Record → EngineData
opened_engine m rs = record {
  mapping = m;
  records = rs;
  point = length rs;
  published = (record { number = 0; mapping = m; documents = documents (operations rs) }) ∷ [];
  live = documents (operations rs) ∷ [];
  next = 1;
}

-- its contents
abbrev pub contents_of : EngineData → Contents
contents_of e = record { mapping = e.mapping; records = e.records; point = e.point }

-- its segments
abbrev pub segments_of : EngineData → Segments
segments_of e = record { mapping = e.mapping; published = e.published; live = e.live; next = e.next }

-- what searches show, the segments that they look through, what is live in each, and the number of the next one
pub record ShowingData : Type 0 where
  pub snapshot : SnapshotData
  pub published : List Published
  pub live : List Documents
  pub next : ℕ

-- the segments that they look through
abbrev pub segments_shown : ShowingData → Segments
segments_shown s = record { mapping = s.snapshot.mapping; published = s.published; live = s.live; next = s.next }

-- a merge that was begun before may be finished after
abbrev pub KeepsBegun : ShowingData → ShowingData → Type 0
KeepsBegun old new = (taken : List Published) → IsBegun old.next old.published taken → IsBegun new.next new.published taken

-- searches show the documents of the records up to the point
pub record Shows (m : MappingData) (rs : List Record) (point : ℕ) (s : SnapshotData) : Type 0 where
  pub in_range : point ≤ length rs
  pub same : s ≡ record { mapping = m; documents = documents (shown rs point) }
