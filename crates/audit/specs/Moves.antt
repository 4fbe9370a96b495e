-- What each node did, and the lists of events that are made of it.
use Rattle.std.specs.Prelude.{◌≡◌, ℕ, suc, ◌<◌, Bool, true, false, ◌==◌, if◌then◌else◌, List, [], ◌∷◌, slice_get, length, Some, is_some}
use Rattle.doc.specs.Mapping.{MappingData}
use Rattle.op.specs.declared.message.Msg.{Msg}
use Rattle.replica.specs.declared.input.Input.{Input}
use Rattle.replica.specs.declared.input.Input.TheVariants.{Write as Client, Bulk as ClientBulk, Take, Report as Reporting, Refresh as Refreshing, Get as Getting, Restart as Restarting}
use Rattle.master.specs.declared.state.Request.{Request}
use Rattle.master.specs.declared.state.Request.TheVariants.{Promote as Promotion, Allocate as Allocation, Synced, Fail}
use Rattle.world.specs.declared.event.Event.{Event}
use Rattle.world.specs.declared.event.Event.TheVariants.{Write as Writes, Bulk, Get, Refresh, Restart, Deliver, Report, Promote, Allocate, TornWrite, TornBulk, TornDelivery}
use Rattle.journal.specs.declared.moves.Move.{Move}
use Rattle.journal.specs.declared.moves.Move.TheVariants.{Asks as asks, Does as does, Tears as tears}
use Rattle.world.specs.World.{World, copy_in, message_at, request_of, new_world, world_step, world_after}

-- what each node did, in order; node 0 is the master, node i is copy i
abbrev pub Moves : Type 0
Moves = ℕ → List Move

-- the event of a move; k is the number of its message, where it has one
abbrev pub event_of : ℕ → ℕ → Move → Event
event_of i k (asks (Promotion c)) = Promote c
event_of i k (asks Allocation) = Allocate
event_of i k (asks (Synced term r)) = Deliver k
event_of i k (asks (Fail term r)) = Deliver k
event_of i k (does (Client write)) = Writes i write
event_of i k (does (ClientBulk ws)) = Bulk i ws
event_of i k (does (Take m)) = Deliver k
event_of i k (does (Reporting r)) = Report i r
event_of i k (does Refreshing) = Refresh i
event_of i k (does (Getting id)) = Get i id
event_of i k (does Restarting) = Restart i
event_of i k (tears (Client write) kept) = TornWrite i write kept
event_of i k (tears (ClientBulk ws) kept) = TornBulk i ws kept
event_of i k (tears (Take m) kept) = TornDelivery k kept
event_of i k (tears (Reporting r) kept) = Restart i
event_of i k (tears Refreshing kept) = Restart i
event_of i k (tears (Getting id) kept) = Restart i
event_of i k (tears Restarting kept) = Restart i

-- message k makes this request of the master
abbrev pub IsWord : World → ℕ → Request → Type 0
IsWord w k request = (m : Msg) × (message_at w k ≡ Some m) × (m.to ≡ 0) × (request_of m.term m.content ≡ Some request)

-- what a request needs: a word of a copy was sent
abbrev pub IsAsked : World → ℕ → Request → Type 0
IsAsked w k (Promotion c) = Unit {0}
IsAsked w k Allocation = Unit {0}
IsAsked w k (Synced term r) = IsWord w k (Synced term r)
IsAsked w k (Fail term r) = IsWord w k (Fail term r)

-- what an input needs: a message was sent, to this node
abbrev pub IsTold : World → ℕ → ℕ → Input → Type 0
IsTold w i k (Take m) = (message_at w k ≡ Some m) × (m.to ≡ i)
IsTold w i k (Client write) = Unit {0}
IsTold w i k (ClientBulk ws) = Unit {0}
IsTold w i k (Reporting r) = Unit {0}
IsTold w i k Refreshing = Unit {0}
IsTold w i k (Getting id) = Unit {0}
IsTold w i k Restarting = Unit {0}

-- only a write, a bulk and a message keep records
abbrev pub may_tear : Input → Bool
may_tear (Client write) = true
may_tear (ClientBulk ws) = true
may_tear (Take m) = true
may_tear (Reporting r) = false
may_tear Refreshing = false
may_tear (Getting id) = false
may_tear Restarting = false

-- the node is a copy, and there
abbrev pub IsThere : World → ℕ → Type 0
IsThere w i = ((i == 0) ≡ false) × (is_some (copy_in w.copies i) ≡ true)

-- a move can come next in a world
abbrev pub CanGo : World → ℕ → ℕ → Move → Type 0
CanGo w i k (asks request) = ((i == 0) ≡ true) × IsAsked w k request
CanGo w i k (does input) = IsThere w i × IsTold w i k input
CanGo w i k (tears input kept) = IsThere w i × (may_tear input ≡ true) × IsTold w i k input

-- how many moves of each node are in a list of events, and one more of node i
abbrev pub Counts : Type 0
Counts = ℕ → ℕ

abbrev pub more : Counts → ℕ → Counts
more p i j = if i == j then suc (p j) else p j

-- the next move of node i, which can come with message k
abbrev pub IsNext : Moves → World → Counts → ℕ → ℕ → Move → Type 0
IsNext moves w p i k m = (slice_get (moves i) (p i) ≡ Some m) × CanGo w i k m

-- the events lead from these counts to those, each the next move of a node
abbrev pub Leads : Moves → World → Counts → List Event → Counts → Type 0
Leads moves w p [] q = (i : ℕ) → p i ≡ q i
Leads moves w p (e ∷ es) q = (i k : ℕ) × (m : Move) × IsNext moves w p i k m × (e ≡ event_of i k m) × Leads moves (world_step w e).world (more p i) es q

-- the list of events is made of these moves, in a new world of n copies
abbrev pub IsMade : MappingData → ℕ → Moves → List Event → Type 0
IsMade mapping n moves es = Leads moves (new_world mapping n) (λ i. 0) es (λ i. length (moves i))

-- no move of any node can come next
abbrev pub IsStuck : Moves → World → Counts → Type 0
IsStuck moves w p = (i k : ℕ) (m : Move) → IsNext moves w p i k m → ⊥

-- ---- what comes of merging

-- after some list of events no move of any node can come next; node is the least that isn't at its end
pub record IsHaltedFrom (w : World) (moves : Moves) (node at : ℕ) : Type 0 where
  pub events : List Event
  pub counts : Counts
  pub leads : Leads moves w (λ i. 0) events counts
  pub stuck : IsStuck moves (world_after w events) counts
  pub place : at ≡ counts node
  pub unfinished : counts node < length (moves node)
  pub least : (j : ℕ) → j < node → counts j ≡ length (moves j)

abbrev pub IsHalted : MappingData → ℕ → Moves → ℕ → ℕ → Type 0
IsHalted mapping n moves node at = IsHaltedFrom (new_world mapping n) moves node at
