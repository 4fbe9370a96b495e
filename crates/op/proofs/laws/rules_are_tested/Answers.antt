use Rattle.op.proofs.RulesLaws.{record_is, record_test}
use Rattle.op.proofs.laws.rules_are_tested.Goals as goal

pub returns : goal.returns
returns c = λ r. (record_is r, record_test r)
