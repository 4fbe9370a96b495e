use Rattle.clients.proofs.Runs.{all_kept}
use Rattle.clients.proofs.laws.conversation_is_kept.Goals as goal

pub returns : goal.returns
returns g c = (λ rule. all_kept rule g.S.Service.answers g.S.Resumable.knows)
