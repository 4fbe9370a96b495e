use Rattle.doc.specs.Document.{all_values}
use Rattle.analysis.specs.Terms.{terms_at}
use Rattle.query.proofs.Values.{one_of_distinct, tokens_once}
use Rattle.query.proofs.laws.a_value_counts_once.Goals as goal

pub returns-clause-terms : goal.returns-clause-terms
returns-clause-terms c = λ m source field vs. one_of_distinct vs (terms_at m.fields (all_values m source) field)

pub returns-clause-tokens : goal.returns-clause-tokens
returns-clause-tokens c = λ m source field operator vs. tokens_once operator (terms_at m.fields (all_values m source) field) vs
