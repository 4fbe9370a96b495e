use Rattle.std.proofs.Common.{sym}
use Rattle.segment.proofs.Joins.{or-end}
use Rattle.segment.proofs.segment.unite_if.Goals as goal

-- nothing is added
pub returns-else-passes : goal.returns-else-passes
returns-else-passes c = rw c.if-passes.false (sym (or-end c.args.marks.now c.args.others.now (sym c.requires)))
