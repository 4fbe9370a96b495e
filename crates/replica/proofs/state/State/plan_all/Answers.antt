use Rattle.std.proofs.Common.{ap}
use Rattle.replica.specs.declared.output.Output.{Output}
use Rattle.replica.proofs.Drafting.{all_planned}
use Rattle.replica.proofs.state.State.plan_all.Goals as goal

pub returns-clause-planned : goal.returns-clause-planned
returns-clause-planned c =
    let p = c.into_planned in
    all_planned c.args.self.now.copy c.in_ok-draft-2.draft p.result c.in_ok-draft-2.ensures.drafted c.in_ok-draft-2.ensures.few p.ensures.records p.ensures.known p.ensures.role (ap (λ (o : Output). o.members) p.ensures.output)
