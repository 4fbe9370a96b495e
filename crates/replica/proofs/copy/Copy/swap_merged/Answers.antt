use Rattle.std.proofs.Common.{ap, subst}
use Rattle.std.specs.Prelude.{IfOk}
use Rattle.replica.specs.Logged.{searched}
use Rattle.replica.specs.Searched.{Searched, IsSwapOf}
use Rattle.replica.proofs.copy.Copy.swap_merged.Goals as goal

pub returns-clause-swapped : goal.returns-clause-swapped
returns-clause-swapped g c = subst (λ (s : Searched). IfOk c.swap_merged.result (IsSwapOf c.args.merged s c.swap_merged.new.self)) (ap searched c.self.view_is) c.swap_merged.ensures.swapped
