use Rattle.query.proofs.Sizes.{read_small}
use Rattle.query.proofs.laws.a_query_that_is_read_is_small.Goals as goal

pub returns : goal.returns
returns c = record {
  clauses = λ m d q read. (read_small m d q read).0;
  depth = λ m d q read. (read_small m d q read).1;
}
