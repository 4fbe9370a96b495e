use Rattle.doc.specs.Document.{all_values}
use Rattle.query.proofs.QueryLaws.{is_complement}
use Rattle.query.proofs.laws.must_not_is_the_complement.Goals as goal

pub returns : goal.returns
returns c = λ m source q. is_complement m.fields (all_values m source) q
