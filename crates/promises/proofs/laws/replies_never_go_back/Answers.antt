use Rattle.promises.proofs.Places.{never_back}
use Rattle.promises.proofs.laws.replies_never_go_back.Goals as goal

pub returns : goal.returns
returns c = never_back
