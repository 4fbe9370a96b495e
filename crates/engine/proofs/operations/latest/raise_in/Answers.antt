use Rattle.std.proofs.Common.{rules}
use Rattle.engine.specs.OperationIndex.{number_at}
use Rattle.engine.proofs.NotedLaws.{raised-at}
use Rattle.engine.proofs.operations.latest.raise_in.Goals as goal

-- the greater of the two is written at the entry
pub returns-clause-ok : goal.returns-clause-ok
returns-clause-ok c = λ w.
    let at_entry = (c.in_ok-table.ensures.update.0 c.max.result).0 (record { 0 = w }) in
    let raised = raised-at (λ u. number_at c.args.table.now u) c.in_ok-copy.field-0 w c.args.seq c.max.result c.or_insert-last.result.now _ _ at_entry c.max.ensures c.or_insert-last.ensures.value c.in_ok-table.ensures.value in
    search rules
