use Rattle.std.proofs.Common.{◌∙◌, ap, sym}
use Rattle.checkpoint.specs.Numbers.{run}
use Rattle.checkpoint.proofs.Windows.{run_of}
use Rattle.checkpoint.proofs.tracker.Tracker.count.Goals as goal

pub returns-clause-count : goal.returns-clause-count
returns-clause-count c = sym (run_of c.self.inside.count c.self.inside.words c.self.invariant.gap) ∙ ap run c.self.view_is
