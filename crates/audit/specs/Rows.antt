-- The worked rows of the audit.
use Rattle.std.specs.Prelude.{◌≡◌, ℕ, pos, negsuc, false, List, [], ◌∷◌, None, Ok}
use Rattle.doc.specs.Mapping.{MappingData}
use Rattle.op.specs.declared.operation.Op.{Op}
use Rattle.op.specs.declared.operation.Body.TheVariants.{Index as Indexed}
use Rattle.op.specs.declared.message.Content.TheVariants.{Op as Operation, Ack}
use Rattle.op.specs.declared.message.Msg.{Msg}
use Rattle.replica.specs.declared.input.Input.TheVariants.{Write as Client, Take}
use Rattle.replica.specs.declared.input.OpType.TheVariants.{Index}
use Rattle.replica.specs.declared.output.Answer.{Answer}
use Rattle.replica.specs.declared.output.Answer.TheVariants.{Wrote, Taken, Repeated}
use Rattle.replica.specs.declared.output.Outcome.TheVariants.{Created}
use Rattle.replica.specs.Copy.{begun}
use Rattle.world.specs.declared.event.Event.TheVariants.{Deliver}
use Rattle.journal.specs.declared.journal.Deed.{Deed}
use Rattle.world.specs.Lines.{a, n1, n2, put}
use Rattle.world.specs.World.{new_world, world_of}
use Rattle.journal.specs.declared.journal.Journal.{Journal}
use Rattle.journal.specs.declared.journal.Journal.TheVariants.{OfMaster as of_master, OfCopy as of_copy}
use Rattle.audit.specs.Audit.{IsMadeOf, IsMissing, IsUncaused, IsDiffering}

abbrev pub empty : MappingData
empty = record { strict = false; fields = [] }

abbrev pub first_op : List ℕ → Op
first_op source = record { seq = 0; term = 1; version = 1; body = Indexed a source }

abbrev pub op_message : List ℕ → Msg
op_message source = record { from = 1; to = 2; term = 1; content = Operation (negsuc 0) (first_op source) }

abbrev pub ack_message : Msg
ack_message = record { from = 2; to = 1; term = 1; content = Ack (pos 0) (pos 0) }

abbrev pub writes : Deed
writes = record { pass = 0; input = Client (record { id = a; kind = Index n1 None }); answer = Ok (record { answer = Wrote (record { seq = 0; term = 1; version = 1; outcome = Created }); sent = op_message n1 ∷ []; acknowledged = []; members = 2 }) }

abbrev pub hears : Deed
hears = record { pass = 0; input = Take ack_message; answer = Ok (record { answer = Taken; sent = []; acknowledged = first_op n1 ∷ []; members = 2 }) }

abbrev pub takes : List ℕ → Answer → Deed
takes source answer = record { pass = 0; input = Take (op_message source); answer = Ok (record { answer = answer; sent = ack_message ∷ []; acknowledged = []; members = 0 }) }

abbrev pub journals : List Deed → List ℕ → Answer → List Journal
journals one source answer = of_master (new_world empty 2).master [] ∷ of_copy (begun 1 2 empty) one ∷ of_copy (begun 2 2 empty) (takes source answer ∷ []) ∷ []

-- as it is, without copy 1's last entry, with another source in copy 2's entry, with another answer there, and without the copies' journals
pub record Row_audit : Type 0 where
  pub whole : IsMadeOf empty 2 (journals (writes ∷ hears ∷ []) n1 Taken) (put 1 a n1 ∷ Deliver 1 ∷ Deliver 2 ∷ [])
  pub acknowledged : (world_of empty 2 (put 1 a n1 ∷ Deliver 1 ∷ Deliver 2 ∷ [])).acknowledged ≡ first_op n1 ∷ []
  pub shorter : IsMadeOf empty 2 (journals (writes ∷ []) n1 Taken) (put 1 a n1 ∷ Deliver 1 ∷ [])
  pub none : (world_of empty 2 (put 1 a n1 ∷ Deliver 1 ∷ [])).acknowledged ≡ []
  pub uncaused : IsUncaused empty (journals (writes ∷ hears ∷ []) n2 Taken) 1 1
  pub differs : IsDiffering empty (journals (writes ∷ hears ∷ []) n1 Repeated) 2 0
  pub missing : IsMissing empty (of_master (new_world empty 2).master [] ∷ []) 1 0
  pub both : IsDiffering empty (journals (writes ∷ hears ∷ []) n2 Repeated) 2 0
