-- What a change leaves.
use Rattle.std.specs.Prelude.{◌≡◌, ◌≤◌, ℕ, Bool, true, false, List, [], ◌∷◌, Some, length, All, drop, filter}
use Rattle.std.specs.List.{list_any, AllPass}
use Rattle.std.specs.FinMap.Entries.{where_key}
use Rattle.doc.specs.Id.{Id, id_cmp}
use Rattle.op.specs.declared.operation.Op.{Op}
use Rattle.op.specs.declared.record.Record.{Record}
use Rattle.op.specs.declared.record.Record.TheVariants.{Op as Kept, Resync, Recover}
use Rattle.op.specs.Documents.{documents}
use Rattle.op.specs.Operations.{is_on, op_at}
use Rattle.op.specs.Records.{IsRecord, operations, shown}
use Rattle.engine.specs.Contents.{Contents, EngineData, contents_of}
use Rattle.engine.specs.Live.{changed_live, changed_segments, is_live, AreLive}
use Rattle.engine.specs.Published.{Published, next_after, AreBelow, IsFronted}
use Rattle.engine.specs.declared.job.staged.SnapshotChange.{SnapshotChange}
use Rattle.engine.specs.declared.job.staged.SnapshotChange.TheVariants.{Refresh, Reopen}

-- a refresh shows all records, new records are all shown
abbrev pub changed : Contents → SnapshotChange → Contents
changed c Refresh = record c { point = length c.records }
changed c (Reopen rs) = record c { records = rs.items; point = length rs.items }

-- new records are records
abbrev pub IsSnapshotChange : SnapshotChange → Type 0
IsSnapshotChange Refresh = Unit {0}
IsSnapshotChange (Reopen rs) = All IsRecord rs.items

-- whether a record is one operation
abbrev pub is_op : Record → Bool
is_op (Kept g o) = true
is_op (Resync term g tail) = false
is_op (Recover term all) = false

-- only operations came after the point
abbrev pub OnlyOps : EngineData → Type 0
OnlyOps e = AllPass is_op (drop e.point e.records)

-- whether a record is an operation on the id
abbrev pub is_write : Id → Record → Bool
is_write id (Kept g o) = is_on id o
is_write id (Resync term g tail) = false
is_write id (Recover term all) = false

-- whether a record after the point is an operation on the id
abbrev pub is_written : EngineData → Id → Bool
is_written e id = list_any (is_write id) (drop e.point e.records)

-- the next segment: the documents at those ids
abbrev pub next_segment : EngineData → Published
next_segment e = record { number = e.next; mapping = e.mapping; documents = where_key id_cmp (is_written e) (documents (operations e.records)) }

-- after operations there are just those of the next segment and the old ones in which a document is live
pub record IsRefreshed (old new : EngineData) : Type 0 where
  pub published : new.published ≡ changed_segments (is_written old) (next_segment old) old.published old.live
  pub live : new.live ≡ filter is_live (changed_live (is_written old) (next_segment old) old.live)

-- at most one segment comes, and bears the next number, which is never given again, unless it is the greatest
pub record IsNumbered (old new : EngineData) : Type 0 where
  pub numbers : IsFronted old.next old.published new.published
  pub rises : old.next ≤ new.next
  pub below : AreBelow new.next new.published

-- the segments after a change: a refresh over operations alone drops those in which no document is live any more, and new records have one of their own
abbrev pub ArePublished : EngineData → SnapshotChange → EngineData → Type 0
ArePublished old Refresh new = IsNumbered old new × (OnlyOps old → IsRefreshed old new)
ArePublished old (Reopen rs) new = (new.published ≡ (record { number = old.next; mapping = old.mapping; documents = documents (operations rs.items) }) ∷ []) × (new.next ≡ next_after old.next)

-- each operation that searches show of so many records they show of the others, too
abbrev pub StayShown : List Record → (before after : ℕ) → Type 0
StayShown rs before after = (o : Op) → op_at (shown rs before) o.seq ≡ Some o → op_at (shown rs after) o.seq ≡ Some o

-- searches show so many records, and no fewer than before, through at most one segment more
pub record ShowsMore (point : ℕ) (old new : EngineData) : Type 0 where
  pub contents : contents_of new ≡ record (contents_of old) { point = point }
  pub more : old.point ≤ point
  pub within : point ≤ length old.records
  pub stay : StayShown old.records old.point point
  pub numbered : IsNumbered old new
  pub live : AreLive new.live
