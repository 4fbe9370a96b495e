use Rattle.std.proofs.Common.{◌≡◌, ◌∙◌, true, ℤ, sym, ap, subst, SFits, w64, rules}
use Rattle.std.proofs.lemmas.Int.{to_z-of_z}
use Rattle.op.specs.declared.message.Content.{Content}
use Rattle.op.specs.declared.record.Record.TheVariants.{Resync as Resynced, Recover as Recovered}
use Rattle.op.specs.Rules.{is_record}
use Rattle.op.proofs.RulesLaws.{record_is}
use Rattle.doc.specs.Outcome.{Gives}
use Rattle.replica.specs.Fault.{fault_of}
use Rattle.replica.specs.Planned.{handled_step}
use Rattle.replica.specs.Shape.{is_shaped}
use Rattle.replica.specs.Step.{settled, take_op}
use Rattle.replica.proofs.state.State.take_content.Goals as goal

pub take_resync-requires : goal.take_resync-requires
take_resync-requires c =
    let shape : is_record (Resynced c.args.term c.in-Resync.known c.in-Resync.tail) ≡ true = ap (λ (k : Content). is_shaped c.args.self.now.copy.id c.args.term k) (sym c.in-Resync.is) ∙ c.requires in
    let fits : SFits w64 c.in-Resync.known = search rules in
    rw (to_z-of_z w64 c.in-Resync.known fits) (record_is (Resynced c.args.term c.in-Resync.known c.in-Resync.tail) shape)

pub take_recover-requires : goal.take_recover-requires
take_recover-requires c =
    let shape : is_record (Recovered c.args.term c.in-Recover.all) ≡ true = ap (λ (k : Content). is_shaped c.args.self.now.copy.id c.args.term k) (sym c.in-Recover.is) ∙ c.requires in
    record_is (Recovered c.args.term c.in-Recover.all) shape

pub returns-in-Op-clause-gives : goal.returns-in-Op-clause-gives
returns-in-Op-clause-gives c =
    let s = c.args.self.now.copy in
    let fits : SFits w64 c.in-Op.known = search rules in
    rw c.in-Op.is (subst (λ (g : ℤ). Gives fault_of (handled_step s) c.take_op.result (settled (take_op s c.args.from g c.in-Op.op s.role))) (to_z-of_z w64 c.in-Op.known fits) c.take_op.ensures.gives)

pub returns-in-Resync-clause-gives : goal.returns-in-Resync-clause-gives
returns-in-Resync-clause-gives c =
    let fits : SFits w64 c.in-Resync.known = search rules in
    rw c.in-Resync.is (simp to_z-of_z at c.take_resync.ensures.gives)
