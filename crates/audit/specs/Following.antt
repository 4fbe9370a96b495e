-- What is known of a copy that follows its journal.
use Rattle.std.specs.Prelude.{◌≡◌, ℕ, ◌+◌, ◌||◌, nat_lt, true, length, [], Option, Some, None}
use Rattle.replica.specs.declared.input.Input.{Input}
use Rattle.replica.specs.declared.output.Output.{Output}
use Rattle.replica.specs.Copy.{Copy}
use Rattle.replica.specs.Logged.{is_restart}
use Rattle.replica.specs.Step.{copy_step}
use Rattle.audit.specs.declared.following.Cut.{Cut}
use Rattle.journal.specs.Journal.{Shut, Standing, is_point, left_by}

-- the log that failed in a step, as the journal knows it
abbrev pub shut_by : Copy → Cut → Shut
shut_by c f = record { place = f.place; input = f.input; other = (left_by c (copy_step c f.input)).records }

abbrev pub shut_of : Copy → Option Cut → Option Shut
shut_of c None = None
shut_of c (Some f) = Some (shut_by c f)

-- the copy as its journal says, where this step's log failed
abbrev pub standing_of : Copy → Option Cut → Standing
standing_of c cut = record { copy = c; shut = shut_of c cut }

-- a step whose log may fail: a restart, or one that adds records, `added` of them
pub record MayFail (c : Copy) (input : Input) (added : ℕ) : Type 0 where
  pub may : (is_restart input || nat_lt 0 added) ≡ true
  pub adds : length (left_by c (copy_step c input)).records ≡ length c.records + added

-- a restart answers one of two numbers of records, and nothing else
pub record IsReport (n m : ℕ) (output : Output) : Type 0 where
  pub point : (is_point output.answer n || is_point output.answer m) ≡ true
  pub sent : output.sent ≡ []
  pub acknowledged : output.acknowledged ≡ []
  pub members : output.members ≡ 0
