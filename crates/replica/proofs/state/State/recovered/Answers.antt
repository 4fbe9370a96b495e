use Rattle.std.proofs.Common.{◌≡◌, ap}
use Rattle.replica.specs.Copy.{Copy}
use Rattle.replica.proofs.Following.{recover_found}
use Rattle.replica.specs.Searched.{Searched}
use Rattle.replica.proofs.state.State.recovered.Goals as goal

pub returns-clause-gives : goal.returns-clause-gives
returns-clause-gives c =
    let s = c.args.self.now.copy in
    let known : c.self.inside.known ≡ s.known = ap (λ (x : Copy). x.known) (ap (λ (v : Searched). v.copy) c.self.view_is) in
    rw (c.follower_output.ensures, c.in_ok-sent.ensures, c.as_slice.ensures, known) (recover_found s c.args.from c.args.term c.args.all c.requires)
