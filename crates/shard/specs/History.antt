-- The history of an index of one copy: what its copy and its master were after each command.
use Rattle.std.specs.Prelude.{◌≡◌, ◌⊎◌, ◌≤◌, ℕ, false, List, [], ◌∷◌, ◌++◌, length}
use mathlib.Core.List.{IsPrefix}
use Rattle.chronicle.specs.Written.{Line}
use Rattle.doc.specs.Mapping.{MappingData}
use Rattle.master.specs.Logged as ruler
use Rattle.replica.specs.Logged.{Logged, IsLogged}
use Rattle.front.specs.Command.{Command}
use Rattle.front.specs.Reply.{Reply}
use Rattle.engine.specs.Answer.{SnapshotData}
use Rattle.engine.specs.SnapshotChange.{StayShown}
use Rattle.shard.specs.Ready.{IsServed}
use Rattle.op.specs.Documents.{documents}
use Rattle.op.specs.Records.{shown}
use Rattle.replica.specs.Copy.{Copy}

-- which index it is: the line of its history, its name and its mapping
pub record Index : Type 0 where
  pub line : Line
  pub name : List ℕ
  pub mapping : MappingData

-- what an index is between two commands
pub record Stand : Type 0 where
  pub copy : Logged
  pub master : ruler.Logged

-- a command led from one stand to the next. The mapping stays, and if the copy is open then, its log keeps exactly its records
pub record Follows (s t : Stand) : Type 0 where
  pub command : Command
  pub reply : Reply
  pub served : IsServed s.copy s.master command reply t.copy t.master
  pub logged : IsLogged t.copy
  pub mapping : t.copy.copy.mapping ≡ s.copy.copy.mapping

-- searches look through other segments; nothing else has changed
pub record DiffersInSegments (s t : Stand) : Type 0 where
  pub copy : t.copy ≡ record s.copy { segments = t.copy.segments }
  pub master : t.master ≡ s.master

-- searches of an open copy show more of its records; nothing else has changed
pub record DiffersInPoint (s t : Stand) : Type 0 where
  pub now_open : s.copy.closed ≡ false
  pub copy : t.copy ≡ record s.copy { copy = record s.copy.copy { point = t.copy.copy.point }; segments = t.copy.segments }
  pub more : s.copy.copy.point ≤ t.copy.copy.point
  pub within : t.copy.copy.point ≤ length s.copy.copy.records
  pub stay : StayShown s.copy.copy.records s.copy.copy.point t.copy.copy.point
  pub logged : IsLogged t.copy
  pub master : t.master ≡ s.master

-- a command led from one stand to the next, or segments were merged, or a refresh shows what was there when it began
abbrev pub LeadsTo : Stand → Stand → Type 0
LeadsTo s t = Follows s t ⊎ DiffersInSegments s t ⊎ DiffersInPoint s t

-- each follows from the one before it
abbrev pub RunsOn : Stand → List Stand → Type 0
RunsOn s [] = Unit {0}
RunsOn s (t ∷ ts) = LeadsTo s t × RunsOn t ts

abbrev pub IsHistory : List Stand → Type 0
IsHistory [] = ⊥
IsHistory (s ∷ ts) = IsLogged s.copy × RunsOn s ts

-- each copy has this mapping
abbrev pub AreUnder : MappingData → List Stand → Type 0
AreUnder m [] = Unit {0}
AreUnder m (t ∷ ts) = (t.copy.copy.mapping ≡ m) × AreUnder m ts

-- this is the last of the list
pub record EndsIn (t : Stand) (ts : List Stand) : Type 0 where
  pub before : List Stand
  pub is : ts ≡ before ++ t ∷ []

-- the new list is the old one with one more stand, to which the last one led
pub record IsNext (old new : List Stand) : Type 0 where
  pub at : Stand
  pub next : Stand
  pub ends : EndsIn at old
  pub goes_on : LeadsTo at next
  pub is : new ≡ old ++ next ∷ []

-- the history extends what was known, up to some place. From there the command led to the next place, which is the last that is known then
pub record IsDone (old : List Stand) (c : Command) (r : Reply) (new : List Stand) : Type 0 where
  pub start : List Stand
  pub at : Stand
  pub next : Stand
  pub goes_on : IsPrefix old start
  pub ends : EndsIn at start
  pub served : IsServed at.copy at.master c r next.copy next.master
  pub is : new ≡ start ++ next ∷ []
  pub legal : IsHistory new

-- at the end of the history the command has this reply and changes nothing
pub record IsReplyAt (ts : List Stand) (c : Command) (r : Reply) : Type 0 where
  pub at : Stand
  pub ends : EndsIn at ts
  pub served : IsServed at.copy at.master c r at.copy at.master

-- the history extends what was known, up to a place where the command has this reply and changes nothing
pub record IsLooked (old : List Stand) (c : Command) (r : Reply) (new : List Stand) : Type 0 where
  pub goes_on : IsPrefix old new
  pub replied : IsReplyAt new c r
  pub legal : IsHistory new

-- the reply is that of the index at a place of its history. The place isn't before what was known, and is known then
abbrev pub IsTold : List Stand → Command → Reply → List Stand → Type 0
IsTold old c r new = IsDone old c r new ⊎ IsLooked old c r new

-- what searches of a copy see: its records up to its refresh point
abbrev pub seen_of : Copy → SnapshotData
seen_of c = record { mapping = c.mapping; documents = documents (shown c.records c.point) }

-- searches see this of the index: its copy is open, and the log keeps exactly the copy's records
pub record IsSeenOf (s : SnapshotData) (t : Stand) : Type 0 where
  pub now_open : t.copy.closed ≡ false
  pub logged : IsLogged t.copy
  pub sees : s ≡ seen_of t.copy.copy

-- searches see this at the end of the history
pub record IsSeenAt (s : SnapshotData) (ts : List Stand) : Type 0 where
  pub at : Stand
  pub ends : EndsIn at ts
  pub seen : IsSeenOf s at
