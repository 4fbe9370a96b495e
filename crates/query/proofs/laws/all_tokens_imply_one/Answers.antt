use Rattle.doc.specs.Document.{all_values}
use Rattle.analysis.specs.Terms.{terms_at}
use Rattle.query.proofs.QueryLaws.{one_of_all}
use Rattle.query.proofs.laws.all_tokens_imply_one.Goals as goal

pub returns : goal.returns
returns c = λ m source field tokens yes. one_of_all (terms_at m.fields (all_values m source) field) tokens yes
