-- What a move needs: its node, and a message where it has one.
-- For proofs alone: no contract of the audit rests on it.
use Rattle.std.specs.Prelude.{◌≡◌, ℕ, Bool, true, false, ◌==◌, Some}
use Rattle.op.specs.declared.message.Msg.{Msg}
use Rattle.replica.specs.declared.input.Input.{Input}
use Rattle.replica.specs.declared.input.Input.TheVariants.{Write as Client, Bulk as ClientBulk, Take, Report as Reporting, Refresh as Refreshing, Get as Getting, Restart as Restarting}
use Rattle.master.specs.declared.state.Request.{Request}
use Rattle.master.specs.declared.state.Request.TheVariants.{Promote as Promotion, Allocate as Allocation, Synced, Fail}
use Rattle.journal.specs.declared.moves.Move.{Move}
use Rattle.journal.specs.declared.moves.Move.TheVariants.{Asks as asks, Does as does, Tears as tears}
use Rattle.audit.specs.Moves.{IsThere, may_tear}
use Rattle.world.specs.World.{World, message_at, request_of}

abbrev pub is_word : Request → Bool
is_word (Promotion c) = false
is_word Allocation = false
is_word (Synced term r) = true
is_word (Fail term r) = true

abbrev pub is_taking : Input → Bool
is_taking (Take m) = true
is_taking (Client write) = false
is_taking (ClientBulk ws) = false
is_taking (Reporting r) = false
is_taking Refreshing = false
is_taking (Getting id) = false
is_taking Restarting = false

-- whether it needs a message
abbrev pub needs : Move → Bool
needs (asks request) = is_word request
needs (does input) = is_taking input
needs (tears input kept) = is_taking input

abbrev pub IsTaken : Msg → Input → Type 0
IsTaken x (Take m) = x ≡ m
IsTaken x (Client write) = ⊥
IsTaken x (ClientBulk ws) = ⊥
IsTaken x (Reporting r) = ⊥
IsTaken x Refreshing = ⊥
IsTaken x (Getting id) = ⊥
IsTaken x Restarting = ⊥

-- the message is one that it needs
abbrev pub Lets : Msg → Move → Type 0
Lets x (asks request) = (x.to ≡ 0) × (request_of x.term x.content ≡ Some request)
Lets x (does input) = IsTaken x input
Lets x (tears input kept) = IsTaken x input

abbrev pub IsTo : ℕ → Input → Type 0
IsTo i (Take m) = m.to ≡ i
IsTo i (Client write) = Unit {0}
IsTo i (ClientBulk ws) = Unit {0}
IsTo i (Reporting r) = Unit {0}
IsTo i Refreshing = Unit {0}
IsTo i (Getting id) = Unit {0}
IsTo i Restarting = Unit {0}

-- what else it needs: its node is there, and its message to it
abbrev pub IsReady : World → ℕ → Move → Type 0
IsReady w i (asks request) = (i == 0) ≡ true
IsReady w i (does input) = IsThere w i × IsTo i input
IsReady w i (tears input kept) = IsThere w i × (may_tear input ≡ true) × IsTo i input

-- message k is one that the move needs
abbrev pub IsLet : World → ℕ → Move → Type 0
IsLet w k m = (x : Msg) × (message_at w k ≡ Some x) × Lets x m
