-- The nodes of a world, with their logs.
use Rattle.std.specs.Prelude.{◌≡◌, ◌==◌, ◌≤◌, IfSome, if◌then◌else◌, ℕ, Bool, false, List, [], ◌∷◌, ◌++◌, map, Option, Some, None, Result, Ok, Err}
use Rattle.std.specs.List.{AllByRecursion}
use Rattle.op.specs.declared.operation.Op.{Op}
use Rattle.op.specs.declared.message.Msg.{Msg}
use Rattle.op.specs.Documents.{documents}
use Rattle.op.specs.Records.{shown}
use Rattle.replica.specs.Copy.{Copy}
use Rattle.engine.specs.Published.{MergeData, mergeable_count, taken_of}
use Rattle.replica.specs.Logged.{Logged, searched}
use Rattle.replica.specs.Searched.{Searched, HasMergedNext, IsSwapOf}
use Rattle.replica.specs.Step.{Step}
use Rattle.world.specs.World.{World}
use Rattle.master.specs.declared.fault.MasterFault.{MasterFault}
use Rattle.master.specs.declared.state.Decision.{Decision}
use Rattle.world.specs.declared.event.EventAnswer.{EventAnswer}
use Rattle.world.specs.declared.event.EventAnswer.TheVariants.{Answered, Refused}

-- the copies, without their logs
abbrev pub copies_of : List Logged → List Copy
copies_of ls = map (λ (l : Logged). l.copy) ls

-- the copies, and the segments that searches look through
abbrev pub nodes_of : List Logged → List Searched
nodes_of ls = map searched ls

-- a world, and its copies with the segments that searches look through
pub record WorldData : Type 0 where
  pub world : World
  pub nodes : List Searched

-- the copy with an id
abbrev pub node_in : List Searched → ℕ → Option Searched
node_in [] id = None
node_in (s ∷ ss) id = if s.copy.id == id then Some s else node_in ss id

-- the copies with this one in the place of that with its id
abbrev pub with_node : List Searched → Searched → List Searched
with_node [] s = []
with_node (t ∷ ts) s = if t.copy.id == s.copy.id then s ∷ ts else t ∷ with_node ts s

-- a merge of all segments of a copy, or of none where there is only one, or where one bears the greatest number
abbrev pub merge_of : Searched → MergeData
merge_of s = record { taken = taken_of s.segments.published; mapping = s.copy.mapping; documents = documents (shown s.copy.records s.copy.point) }

-- a merge was put in place at the copy with an id, or none of its segments is there any more; the others are as they were
pub record IsSwapAt (id : ℕ) (m : MergeData) (old new : List Searched) (is_there : Bool) : Type 0 where
  pub at : Searched
  pub after : Searched
  pub found : node_in old id ≡ Some at
  pub swapped : IsSwapOf m at after is_there
  pub left : new ≡ with_node old after

-- a merge of many segments was made and put in place at the copy with an id; the others are as they were
pub record HasMergedAt (id : ℕ) (old new : List Searched) : Type 0 where
  pub at : Searched
  pub after : Searched
  pub found : node_in old id ≡ Some at
  pub merged : HasMergedNext at after
  pub left : new ≡ with_node old after

-- where there is a copy with an id, searches of it look through few segments that a merge may take
abbrev pub HasFewSegments : ℕ → List Searched → Type 0
HasFewSegments id ss = IfSome (node_in ss id) (λ s. mergeable_count s.segments.published ≤ 16)

-- no log has failed
abbrev pub AreOpen : List Logged → Type 0
AreOpen ls = AllByRecursion (λ (l : Logged). l.closed ≡ false) ls

-- what a step of a copy makes of it, of the messages and of the acknowledged operations, and its answer
pub record Local : Type 0 where
  pub copy : Copy
  pub messages : List Msg
  pub acknowledged : List Op
  pub answer : EventAnswer

abbrev pub local_step : Copy → List Msg → List Op → Step → Local
local_step c ms os (Ok s) = record { copy = s.copy; messages = ms ++ s.sent; acknowledged = os ++ s.acknowledged; answer = Answered s.answer s.sent s.acknowledged }
local_step c ms os (Err e) = record { copy = c; messages = ms; acknowledged = os; answer = Refused e }

-- a list with one more, where there is one
abbrev pub with_one : {A : Type 0} → List A → Option A → List A
with_one xs None = xs
with_one xs (Some x) = xs ++ x ∷ []

-- what is added where a decision was made, and nothing where it wasn't
abbrev pub IsFollowed : (made result : Result Decision MasterFault) → Decision → Option Logged → (copies after : List Logged) (messages told : List Msg) → Type 0
IsFollowed (Ok made) result decision copy copies after messages told = (result ≡ Ok decision) × (after ≡ with_one copies copy) × (told ≡ with_one messages made.sent)
IsFollowed (Err e) result decision copy copies after messages told = (result ≡ Err e) × (after ≡ copies) × (told ≡ messages)
