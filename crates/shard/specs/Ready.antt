-- How a copy is made ready for a command: a closed copy is reopened, and a copy that has to write becomes the primary.
use Rattle.std.specs.Prelude.{◌≡◌, ◌≢◌, ◌⊎◌, ◌&&◌, ℕ, Bool, true, false, not, Some, Ok, Err}
use Rattle.op.specs.declared.message.Msg.{Msg}
use Rattle.translog.specs.Device.{count_after}
use Rattle.translog.specs.Fault.{Fault}
use Rattle.master.specs.declared.fault.MasterFault.{MasterFault}
use Rattle.master.specs.declared.fault.MasterFault.TheVariants as master
use Rattle.master.specs.declared.state.Decision.{Decision}
use Rattle.master.specs.declared.state.Request.TheVariants.{Promote}
use Rattle.master.specs.Decide.{master_step}
use Rattle.master.specs.Log.{kept_state}
use Rattle.master.specs.Logged as ruler
use Rattle.master.specs.Logged.{IsDone, IsRefused}
use Rattle.replica.specs.declared.fault.CopyFault.{CopyFault}
use Rattle.replica.specs.declared.fault.CopyFault.TheVariants as copy
use Rattle.replica.specs.declared.input.Input.TheVariants.{Restart, Take}
use Rattle.replica.specs.declared.output.Output.{Output}
use Rattle.replica.specs.declared.role.Role.{Role}
use Rattle.replica.specs.declared.role.Role.TheVariants.{Empty, Replica, Primary}
use Rattle.replica.specs.Logged.{Logged, IsLogged, IsRefusal, IsReopened, IsSame}
use Rattle.replica.specs.Step.{copy_step, stepped}
use Rattle.front.specs.Command.{Command, write, bulk, get, search, count, refresh, promote}
use Rattle.front.specs.declared.reply.Refusal.TheVariants.{NoMemory}
use Rattle.front.specs.Reply.{Reply, refused}
use Rattle.shard.specs.Answering.{IsAnswered}

abbrev pub is_write : Command → Bool
is_write (write w) = true
is_write (bulk ws) = true
is_write (get id) = false
is_write (search q page) = false
is_write (count q) = false
is_write refresh = false
is_write (promote copy) = false

abbrev pub is_primary : Role → Bool
is_primary Empty = false
is_primary Replica = false
is_primary (Primary lead) = true

-- ---- a copy that is closed

-- the copy has the records that its log keeps
pub record IsOpen (s t : Logged) : Type 0 where
  pub output : Output
  pub found : IsReopened s t output
  pub stays_open : t.closed ≡ false

-- the copy couldn't be opened, for a reason other than lack of memory
pub record IsUnopened (s t : Logged) : Type 0 where
  pub fault : CopyFault
  pub cause : fault ≢ copy.NoMemory
  pub refusal : IsRefusal s t (copy_step s.copy Restart) fault

-- a closed copy restarts or can't be opened; an open copy stays as it is
pub record IsReopening (s t : Logged) : Type 0 where
  pub stays : s.closed ≡ false → t ≡ s
  pub restarts : s.closed ≡ true → IsOpen s t ⊎ IsUnopened s t

-- ---- the master

-- an open master stays as it is; a closed one is opened, and has the state that its log keeps
pub record IsAwake (m n : ruler.Logged) : Type 0 where
  pub now_open : n.closed ≡ false
  pub stays : m.closed ≡ false → n ≡ m
  pub opened : m.closed ≡ true → kept_state m.log ≡ Ok n.state

-- a closed master couldn't be opened: its device failed again, or its log isn't a master's
pub record IsShut (m n : ruler.Logged) : Type 0 where
  pub was_closed : m.closed ≡ true
  pub stays_closed : n.closed ≡ true
  pub state : n.state ≡ m.state
  pub cause : (n.failures ≡ count_after true m.failures) ⊎ ((f : Fault) × (kept_state m.log ≡ Err f))

-- an open master has made copy r the primary, and sends this message
pub record IsPromotion (r : ℕ) (m n : ruler.Logged) (message : Msg) : Type 0 where
  pub decision : Decision
  pub done : IsDone m n (Promote r) decision (master_step m.state (Promote r))
  pub sent : decision.sent ≡ Some message

-- an open master has refused to make copy r the primary, for a reason other than lack of memory
pub record IsDenial (r : ℕ) (m n : ruler.Logged) : Type 0 where
  pub fault : MasterFault
  pub cause : fault ≢ master.NoMemory
  pub refused : IsRefused fault m n (master_step m.state (Promote r))

-- the master, opened first if it was closed, has made copy r the primary, and sends this message
pub record IsTold (r : ℕ) (m n : ruler.Logged) (message : Msg) : Type 0 where
  pub awake : ruler.Logged
  pub opened : IsAwake m awake
  pub promotion : IsPromotion r awake n message

-- the master, opened first if it was closed, has refused to make copy r the primary
pub record IsDenied (r : ℕ) (m n : ruler.Logged) : Type 0 where
  pub awake : ruler.Logged
  pub opened : IsAwake m awake
  pub denial : IsDenial r awake n

-- memory ran out before a closed master was open: it keeps what it kept
pub record IsShutStill (m n : ruler.Logged) : Type 0 where
  pub was_closed : m.closed ≡ true
  pub stays_closed : n.closed ≡ true
  pub state : n.state ≡ m.state
  pub keeps : kept_state n.log ≡ kept_state m.log

-- memory ran out before the master, opened first if it was closed, decided anything
pub record IsUndecided (m n : ruler.Logged) : Type 0 where
  pub awake : ruler.Logged
  pub opened : IsAwake m awake
  pub same : ruler.IsSame awake n

-- the master has made copy r the primary, and sends some message
pub record HasTold (r : ℕ) (m n : ruler.Logged) : Type 0 where
  pub message : Msg
  pub told : IsTold r m n message

-- memory ran out before the master sent a message: it has decided nothing
abbrev pub IsUnasked : ruler.Logged → ruler.Logged → Type 0
IsUnasked m n = IsShutStill m n ⊎ IsUndecided m n

-- memory ran out before copy r could lead: the master has decided nothing, or the copy couldn't take its message
abbrev pub IsUnheard : ℕ → ruler.Logged → ruler.Logged → Type 0
IsUnheard r m n = IsUnasked m n ⊎ HasTold r m n

-- the master sends no message: it couldn't be opened, or it refused
abbrev pub IsUntold : ℕ → ruler.Logged → ruler.Logged → Type 0
IsUntold r m n = IsShut m n ⊎ IsDenied r m n

-- ---- a copy that has to lead

-- the copy has taken a message
pub record HasTaken (s t : Logged) (message : Msg) : Type 0 where
  pub output : Output
  pub step : copy_step s.copy (Take message) ≡ Ok (stepped t.copy output)
  pub stays_open : t.closed ≡ false

-- the copy has refused the message, for a reason other than lack of memory
pub record HasRefused (s t : Logged) (message : Msg) : Type 0 where
  pub fault : CopyFault
  pub cause : fault ≢ copy.NoMemory
  pub refusal : IsRefusal s t (copy_step s.copy (Take message)) fault

abbrev pub IsTaking : Logged → Logged → Msg → Type 0
IsTaking s t message = HasTaken s t message ⊎ HasRefused s t message

-- the copy has taken or refused the message by which the master made it the primary
pub record IsPromoted (s t : Logged) (m n : ruler.Logged) : Type 0 where
  pub message : Msg
  pub told : IsTold s.copy.id m n message
  pub taking : IsTaking s t message

-- the copy is as it was, since the master has no message for it
pub record IsUnled (s t : Logged) (m n : ruler.Logged) : Type 0 where
  pub stays : t ≡ s
  pub untold : IsUntold s.copy.id m n

-- whether a copy has to be promoted before it answers: it has to write, is open, and isn't the primary
abbrev pub has_to_lead : Bool → Logged → Bool
has_to_lead writes s = writes && not (is_primary s.copy.role) && not s.closed

-- a copy that has to lead takes or refuses the master's message, or gets none; otherwise the copy and the master stay as they are
pub record IsLeading (writes : Bool) (s t : Logged) (m n : ruler.Logged) : Type 0 where
  pub stays : has_to_lead writes s ≡ false → (t ≡ s) × (n ≡ m)
  pub leads : has_to_lead writes s ≡ true → IsPromoted s t m n ⊎ IsUnled s t m n

-- ---- a command

-- the copy once it is ready for the command, and the master then. While the copy is open, its log keeps exactly its records
pub record IsReady (writes : Bool) (s u : Logged) (m n : ruler.Logged) : Type 0 where
  pub between : Logged
  pub reopened : IsReopening s between
  pub logged : IsLogged between
  pub led : IsLeading writes between u m n

-- memory ran out before the copy was ready: the copy is as it was, or reopened; the master is as it was, or memory ran out during the copy's promotion
pub record IsUnready (s u : Logged) (m n : ruler.Logged) : Type 0 where
  pub between : Logged
  pub reopened : (between ≡ s) ⊎ IsReopening s between
  pub same : IsSame between u
  pub master : (n ≡ m) ⊎ IsUnheard between.copy.id m n

-- the copy was made ready, and then answered the command
pub record IsAsked (s : Logged) (m : ruler.Logged) (c : Command) (r : Reply) (t : Logged) (n : ruler.Logged) : Type 0 where
  pub asked : Logged
  pub ready : IsReady (is_write c) s asked m n
  pub logged : IsLogged asked
  pub answered : IsAnswered asked c r t

-- memory ran out before the copy was ready, and the reply says so
pub record IsWanting (s : Logged) (m : ruler.Logged) (r : Reply) (t : Logged) (n : ruler.Logged) : Type 0 where
  pub reply : r ≡ refused NoMemory
  pub unready : IsUnready s t m n

-- the reply to a command, and the copy and the master after it
pub record IsServed (s : Logged) (m : ruler.Logged) (c : Command) (r : Reply) (t : Logged) (n : ruler.Logged) : Type 0 where
  pub served : IsAsked s m c r t n ⊎ IsWanting s m r t n
