use Rattle.translog.proofs.frames.Frames.open.Goals as goal

pub returns-in-Ok-clause-opened : goal.returns-in-Ok-clause-opened
returns-in-Ok-clause-opened g c = rw (c.over-frames.ensures.header, c.over-frames.ensures.device) at c.in-Ok.ensures.opened
