use Rattle.std.proofs.Common.{◌≡◌, true, ap, subst}
use Rattle.std.specs.Prelude.{IfOk}
use Rattle.replica.specs.Logged.{searched}
use Rattle.replica.specs.Searched.{Searched, IsRefreshTo}
use Rattle.replica.proofs.copy.Copy.finish_refresh.Goals as goal

pub returns-clause-done : goal.returns-clause-done
returns-clause-done g c =
    subst (λ (s : Searched). IfOk c.finish_refresh.result (λ b. b ≡ true → IsRefreshTo c.args.prebuilt.point s c.finish_refresh.new.self)) (ap searched c.self.view_is) c.finish_refresh.ensures.done
