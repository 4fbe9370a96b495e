use Rattle.doc.specs.Document.{all_values}
use Rattle.query.proofs.QueryLaws.{is_must, is_filter}
use Rattle.query.proofs.laws.one_must_is_that_query.Goals as goal

pub returns : goal.returns
returns c = record {
  must = λ m source q. is_must m.fields (all_values m source) q;
  filter = λ m source q. is_filter m.fields (all_values m source) q;
}
