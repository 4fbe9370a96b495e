use Rattle.doc.specs.Document.{all_values}
use Rattle.query.proofs.QueryLaws.{is_exists}
use Rattle.query.proofs.laws.no_bounds_is_exists.Goals as goal

pub returns : goal.returns
returns c = λ m source field is_long. is_exists m.fields (all_values m source) field is_long
