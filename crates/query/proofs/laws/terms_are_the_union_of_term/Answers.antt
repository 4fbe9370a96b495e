use Rattle.doc.specs.Document.{all_values}
use Rattle.analysis.specs.Terms.{terms_at}
use Rattle.query.proofs.QueryLaws.{exchanged}
use Rattle.query.proofs.laws.terms_are_the_union_of_term.Goals as goal

pub returns : goal.returns
returns c = λ m source field vs. exchanged (terms_at m.fields (all_values m source) field) vs
