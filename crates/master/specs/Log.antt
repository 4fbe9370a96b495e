-- The log of the master: its header is `RSM1`, and each frame is an entry that its table takes.
use Rattle.std.specs.Prelude.{ℕ, ◌+◌, List, [], ◌∷◌, length, Option, Some, None, Result, Ok, Err, codes}
use Rattle.doc.specs.Outcome.{◌>>=◌}
use Rattle.translog.specs.Fault.{Fault, damaged}
use Rattle.translog.specs.Frames.{contents_in}
use Rattle.master.specs.declared.entry.Entry.{Entry}
use Rattle.master.specs.declared.entry.Entry.TheVariants.{Begin, Promote, Allocate, Add, Remove}
use Rattle.master.specs.declared.state.State.{State}
use Rattle.master.specs.declared.state.Request.TheVariants as request
use Rattle.master.specs.Decide.{MasterStep, master_step}
use Rattle.master.specs.Entry.{entry_of}
use Rattle.master.specs.State.{begun}

abbrev pub header : List ℕ
header = codes "RSM1"

abbrev pub state_after : MasterStep → Option State
state_after (Ok d) = Some d.state
state_after (Err e) = None

-- the state after an entry, where the table takes it in the term of the master
abbrev pub next_state : State → Option Entry → Option State
next_state m None = None
next_state m (Some (Begin copies)) = None
next_state m (Some (Promote id)) = state_after (master_step m (request.Promote id))
next_state m (Some Allocate) = state_after (master_step m request.Allocate)
next_state m (Some (Add id)) = state_after (master_step m (request.Synced m.term id))
next_state m (Some (Remove id)) = state_after (master_step m (request.Fail m.term id))

-- the state that the first entry begins with
abbrev pub first_state : Option Entry → Option State
first_state (Some (Begin copies)) = Some (begun copies)
first_state (Some (Promote id)) = None
first_state (Some Allocate) = None
first_state (Some (Add id)) = None
first_state (Some (Remove id)) = None
first_state None = None

-- what isn't taken is damaged
abbrev pub or_damaged : ℕ → Option State → Result State Fault
or_damaged offset (Some m) = Ok m
or_damaged offset None = Err (damaged offset)

-- the state that frames from an offset on leave
unfoldable pub replayed : ℕ → State → List (List ℕ) → Result State Fault
replayed offset m [] = Ok m
replayed offset m (content ∷ contents) = or_damaged offset (next_state m (entry_of content)) >>= λ n. replayed (offset + (4 + length content)) n contents

-- the state that frames leave, the first of which begins; a log without frames is damaged where the first would stand
unfoldable pub state_of : List (List ℕ) → Result State Fault
state_of [] = Err (damaged 4)
state_of (content ∷ contents) = or_damaged 4 (first_state (entry_of content)) >>= λ m. replayed (4 + (4 + length content)) m contents

-- the state that a log's bytes keep, or what is wrong with them
unfoldable pub kept_state : List ℕ → Result State Fault
kept_state bytes = contents_in header bytes >>= state_of
