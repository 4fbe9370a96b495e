use Rattle.std.proofs.Common.{ℕ, List, ap, subst}
use Rattle.replica.specs.Fault.{of_log}
use Rattle.replica.specs.Logged.{IsUnread}
use Rattle.replica.proofs.LogLaws.{unread}
use Rattle.replica.proofs.copy.Copy.open.Goals as goal

-- the log that gave no records is that of the device
pub returns-in-Err-clause-unread : goal.returns-in-Err-clause-unread
returns-in-Err-clause-unread g c = rw c.unread.ensures.fault (subst (λ (bytes : List ℕ). IsUnread bytes (of_log c.in-Err.fault)) (ap g.D.LogDevice.bytes c.over-log.ensures) (unread _ c.in-Err.fault c.in-Err.ensures.found))
