use Rattle.engine.proofs.IndexLaws.{newer, none_newer}
use Rattle.engine.proofs.operations.operation_index.OperationIndex.has_newer.Goals as goal

-- the number at the id is that of the last on it
pub returns-in-Some : goal.returns-in-Some
returns-in-Some c = newer _ _ _ c.in-Some.ensures.number

pub returns-in-None : goal.returns-in-None
returns-in-None c = none_newer _ _ c.in-None.ensures.number
