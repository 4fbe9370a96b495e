use Rattle.std.proofs.Common.{◌≡◌, List, [], inr, subst, arith}
use Rattle.std.proofs.lemmas.Bool.Decides.{nat_tests}
use Rattle.op.specs.declared.record.Record.{Record}
use Rattle.translog.specs.Kept.{IsTranslog}
use Rattle.translog.proofs.KeptLaws.{left_by}
use Rattle.translog.proofs.PieceReading.{reopened}
use Rattle.replica.proofs.LogLaws.{failed_as, no_records, unread}
use Rattle.replica.proofs.copy.starting.begun.Goals as goal

pub returns-in-Err-clause-unread : goal.returns-in-Err-clause-unread
returns-in-Err-clause-unread g c = rw c.from-in-Err.ensures (inr (unread _ c.in-Err.fault c.in-Err.ensures.found))

pub returns-in-Ok-mend-clause-whole : goal.returns-in-Ok-mend-clause-whole
returns-in-Ok-mend-clause-whole g c =
    let whole = reopened _ _ _ _ c.in-Ok.torn _ _ c.in-Ok.ensures.held c.in-Ok.ensures.torn c.in-Ok-mend.ensures.ok c.in-Ok-mend.ensures.groups in
    let none : c.in-Ok.records.items ≡ [] = no_records c.in-Ok.records.items (grind (arith, nat_tests, c.is_empty-is_empty.ensures, c.if-not-is_empty.false)) in
    subst (λ (rs : List Record). IsTranslog (g.D.LogDevice.bytes c.mend.new.self.device) rs c.mend.new.self.groups) none whole

pub returns-in-Ok-mend-clause-left : goal.returns-in-Ok-mend-clause-left
returns-in-Ok-mend-clause-left g c = left_by _ _ _ _ c.in-Ok.torn _ c.in-Ok.ensures.held c.in-Ok.ensures.torn c.in-Ok-mend.ensures.ok

-- the log could not be mended
pub returns-in-Err-mend-clause-refused : goal.returns-in-Err-mend-clause-refused
returns-in-Err-mend-clause-refused g c = rw (c.from.ensures, failed_as c.in-Err-mend.fault) (rw (c.in-Ok.ensures.held, c.in-Ok.ensures.counts) at c.in-Err-mend.ensures.refused)
