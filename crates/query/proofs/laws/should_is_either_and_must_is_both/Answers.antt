use Rattle.doc.specs.Document.{all_values}
use Rattle.query.proofs.QueryLaws.{is_either, is_both}
use Rattle.query.proofs.laws.should_is_either_and_must_is_both.Goals as goal

pub returns : goal.returns
returns c = record {
  should = λ m source p q. is_either m.fields (all_values m source) p q;
  must = λ m source p q. is_both m.fields (all_values m source) p q;
}
