use Rattle.translog.proofs.FramesLaws.{opened_of}
use Rattle.translog.proofs.frames.Frames.reopen.Goals as goal

pub returns-clause-opened : goal.returns-clause-opened
returns-clause-opened g c =
    let read = c.in_ok-contents.ensures in
    let mended = c.in_ok-mend.ensures in
    opened_of _ _ _ _ _ _ c.in_ok-contents.torn _ _ _ read.header read.held read.torn mended.ok mended.counts read.counts
