use Rattle.std.proofs.Common.{◌∙◌, ap}
use Rattle.engine.specs.Latest.{left_all}
use Rattle.engine.proofs.LatestLaws.{documents-latest}
use Rattle.engine.proofs.read.documents.documents_made.Goals as goal

-- what the last operations leave
pub returns : goal.returns
returns c = c.in_ok-entries.ensures ∙ ap left_all c.deref.ensures.value ∙ documents-latest c.args.operations.now c.in_ok-latest.latest.items c.in_ok-latest.ensures
