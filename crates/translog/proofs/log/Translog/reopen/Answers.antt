use Rattle.translog.proofs.KeptLaws.{left_by}
use Rattle.translog.proofs.PieceReading.{reopened}
use Rattle.translog.proofs.log.Translog.reopen.Goals as goal

pub returns-clause-whole : goal.returns-clause-whole
returns-clause-whole g c =
    let read = c.in_ok-records.ensures in
    let mended = c.in_ok-mend.ensures in
    reopened _ _ _ _ c.in_ok-records.torn _ _ read.held read.torn mended.ok mended.groups

pub returns-clause-left : goal.returns-clause-left
returns-clause-left g c =
    let read = c.in_ok-records.ensures in
    left_by _ _ _ _ c.in_ok-records.torn _ read.held read.torn c.in_ok-mend.ensures.ok
