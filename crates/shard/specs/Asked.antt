-- A command as a copy takes it.
use Rattle.std.specs.Prelude.{◌≡◌, List, [], ◌∷◌, map, Option, Some, None, Result, Ok, Err}
use Rattle.doc.specs.Outcome.{◌>>=◌}
use Rattle.query.specs.View.{query_view}
use Rattle.replica.specs.declared.input.Write as kept
use Rattle.replica.specs.declared.input.Input.TheVariants as input
use Rattle.replica.specs.Copy.{Copy}
use Rattle.replica.specs.Step.{copy_step, members_of}
use Rattle.replica.specs.Writes.{AreOfOneBulk}
use Rattle.front.specs.declared.command.Command as declared
use Rattle.front.specs.declared.command.Command.TheVariants as variant
use Rattle.front.specs.declared.command.Write.{Write}
use Rattle.front.specs.Command.{Command, write, bulk, get, search, count, refresh, promote}
use Rattle.shard.specs.declared.asked.Form.{Form}
use Rattle.shard.specs.declared.asked.Form.TheVariants as form
use Rattle.shard.specs.Answering as answering
use Rattle.shard.specs.Answering.{bulk_reply_of, write_of}

-- the command that was noted
abbrev pub command_in : List declared.Command → declared.Command
command_in [] = variant.Refresh
command_in (c ∷ cs) = c

-- the writes of a bulk, as a copy takes them; none if they are no bulk; or memory ran out for them
abbrev pub AreTaken : {E : Type 0} → List Write → Result (Option (List kept.Write)) E → Type 0
AreTaken ws (Ok (Some taken)) = taken ≡ map write_of ws
AreTaken ws (Ok None) = AreOfOneBulk (map write_of ws) → ⊥
AreTaken ws (Err e) = Unit {0}

-- the command is a bulk, of these writes
pub record IsBulkOf {E : Type 0} (c : Command) (made : Result (Option (List kept.Write)) E) : Type 0 where
  pub writes : List Write
  pub is : c ≡ bulk writes
  pub taken : AreTaken writes made

-- the form in which a copy takes a command
abbrev pub IsTakenAs : Command → Form → Type 0
IsTakenAs c (form.Write w) = c ≡ write w
IsTakenAs c (form.Bulk made) = IsBulkOf c made
IsTakenAs c (form.Get id) = c ≡ get id
IsTakenAs c (form.Search body) = c ≡ search (query_view body.query) body.page
IsTakenAs c (form.Count query) = c ≡ count (query_view query)
IsTakenAs c form.Refresh = c ≡ refresh
IsTakenAs c (form.Promote copy) = c ≡ promote copy

-- one step of the copy, which does the writes of a bulk
abbrev pub bulk_taken : Copy → List kept.Write → answering.Asked
bulk_taken c ws = copy_step c (input.Bulk ws) >>= λ s. Ok (s.copy, bulk_reply_of (members_of s.copy.role) s.answer)
