use Rattle.audit.proofs.Rows.{row_audit}
use Rattle.audit.proofs.laws.rows.Goals as goal

pub returns : goal.returns
returns c = row_audit
