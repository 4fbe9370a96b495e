use Rattle.master.proofs.master.Master.begin.Goals as goal

pub returns-in-Ok-clause-left : goal.returns-in-Ok-clause-left
returns-in-Ok-clause-left g c = rw c.over-frames.ensures.device at c.in-Ok.ensures.left
