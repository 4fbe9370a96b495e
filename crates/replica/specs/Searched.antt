-- A copy with the segments that searches of it look through.
use Rattle.std.specs.Prelude.{◌≡◌, ◌↔◌, ◌<◌, ◌≤◌, ℕ, Bool, true, false, List, [], ◌∷◌, length, max}
use Rattle.doc.specs.Mapping.{MappingData}
use Rattle.op.specs.declared.record.Record.{Record}
use Rattle.op.specs.Documents.{documents}
use Rattle.op.specs.Records.{operations}
use Rattle.engine.specs.Contents.{EngineData}
use Rattle.engine.specs.Live.{live_of, woven, GoTogether}
use Rattle.engine.specs.Published.{Published, Segments, MergeData, mergeable_count, next_after, numbered, taken_of, AreGone, IsSwapped}
use Rattle.engine.specs.SnapshotChange.{IsNumbered, IsRefreshed, OnlyOps, ShowsMore}
use Rattle.engine.specs.Staged.{StagedData, put_in}
use Rattle.replica.specs.Copy.{Copy}

-- a copy, and the segments
pub record Searched : Type 0 where
  pub copy : Copy
  pub segments : Segments

-- its engine as contracts see it
abbrev pub engine_of : Searched → EngineData
engine_of s = record { mapping = s.copy.mapping; records = s.copy.records; point = s.copy.point; published = s.segments.published; live = s.segments.live; next = s.segments.next }

-- all records in one segment of this number
abbrev pub one_segment : MappingData → List Record → ℕ → Published
one_segment m rs n = record { number = n; mapping = m; documents = documents (operations rs) }

-- what searches look through once a copy is opened
abbrev pub first_segments : MappingData → List Record → Segments
first_segments m rs = record { mapping = m; published = one_segment m rs 0 ∷ []; live = documents (operations rs) ∷ []; next = 1 }

-- the segments after a change that is ready
abbrev pub staged_segments : Segments → StagedData → Segments
staged_segments s staged = record s { published = staged.published; live = staged.live; next = staged.next }

-- a refresh: at most one segment comes, and after operations alone there are just those of what was written and the old ones in which a document is live
pub record ShowsAll (old new : EngineData) : Type 0 where
  pub numbered : IsNumbered old new
  pub refreshed : OnlyOps old → IsRefreshed old new

-- a restart: one segment of all records, of the next number
pub record ShowsAnew (old new : Segments) (rs : List Record) : Type 0 where
  pub published : new.published ≡ one_segment old.mapping rs old.next ∷ []
  pub next : new.next ≡ next_after old.next

-- a refresh that was made ready for the copy as it is now
pub record IsRefreshOf (s : Searched) (staged : StagedData) : Type 0 where
  pub before : staged.before ≡ s.segments
  pub all : staged.point ≡ length s.copy.records
  pub shows : ShowsAll (engine_of s) (put_in (engine_of s) staged)

-- a restart with these records that was made ready for the copy as it is now
pub record IsReopeningOf (s : Searched) (staged : StagedData) (rs : List Record) : Type 0 where
  pub before : staged.before ≡ s.segments
  pub all : staged.point ≡ length rs
  pub shows : ShowsAnew s.segments (staged_segments s.segments staged) rs

-- searches show so many of the records, and no fewer than before; nothing else of the copy has changed
pub record IsRefreshTo (point : ℕ) (old new : Searched) : Type 0 where
  pub copy : new.copy ≡ record old.copy { point = point }
  pub shows : ShowsMore point (engine_of old) (engine_of new)

-- a merge of segments that go well into one, where a merge may take more than so few
pub record IsNextMerge (few : ℕ) (s : Segments) (m : MergeData) : Type 0 where
  pub many : max 1 few < mergeable_count s.published
  pub numbers : List ℕ
  pub is : m ≡ record { taken = taken_of (numbered numbers s.published); mapping = s.mapping; documents = woven (live_of numbers s.published s.live) }
  pub some : 2 ≤ length (numbered numbers s.published)
  pub ten : length numbers ≤ 10
  pub fit : GoTogether numbers s.published s.live

-- a merge was put in place of those of its segments that are there, or none is there, and the segments stay
pub record IsSwapOf (m : MergeData) (old new : Searched) (is_there : Bool) : Type 0 where
  pub copy : new.copy ≡ old.copy
  pub answer : (is_there ≡ true) ↔ (AreGone old.segments.published m.taken → m.taken ≡ [])
  pub swapped : is_there ≡ true → (m.taken ≡ [] → ⊥) → IsSwapped m.taken old.segments new.segments
  pub none : m.taken ≡ [] → new.segments ≡ old.segments
  pub stays : is_there ≡ false → new.segments ≡ old.segments

-- a merge of many segments was made and put in place
pub record HasMergedNext (old new : Searched) : Type 0 where
  pub merge : MergeData
  pub is_next : IsNextMerge 16 old.segments merge
  pub swap : IsSwapOf merge old new true
