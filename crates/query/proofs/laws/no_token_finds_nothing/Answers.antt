use Rattle.std.proofs.Common.{refl}
use Rattle.doc.specs.Document.{all_values}
use Rattle.analysis.specs.Terms.{terms_at}
use Rattle.query.proofs.QueryLaws.{none_of_none}
use Rattle.query.proofs.laws.no_token_finds_nothing.Goals as goal

pub returns : goal.returns
returns c = record {
  or = λ m source field. none_of_none (terms_at m.fields (all_values m source) field);
  and = λ m source field. refl;
}
