use Rattle.replica.proofs.Versions.{version_rises}
use Rattle.replica.proofs.laws.a_version_never_falls.Goals as goal

pub returns : goal.returns
returns c = version_rises
