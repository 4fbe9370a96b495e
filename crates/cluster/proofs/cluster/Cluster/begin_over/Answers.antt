use Rattle.std.proofs.Common.{◌≡◌, [], ◌∷◌}
use Rattle.ruled.specs.declared.entry.MasterEntry.TheVariants.{Opened as Starts}
use Rattle.cluster.proofs.Opened.{of_ok, passed_through}
use Rattle.cluster.proofs.cluster.Cluster.begin_over.Goals as goal

pub returns-in-Ok-clause-journals : goal.returns-in-Ok-clause-journals
returns-in-Ok-clause-journals g c = passed_through (λ k. k.journals) c.over.result c.launch_over.result c.args.setting.journals c.over.ensures.journals c.launch_over.ensures.journals c.launch_over.ensures.whole

pub returns-in-Ok-clause-devices : goal.returns-in-Ok-clause-devices
returns-in-Ok-clause-devices g c = passed_through (λ k. k.devices) c.over.result c.launch_over.result c.args.setting.devices c.over.ensures.devices c.launch_over.ensures.devices c.launch_over.ensures.whole

pub returns-in-Ok-clause-past : goal.returns-in-Ok-clause-past
returns-in-Ok-clause-past g c =
    of_ok c.launch_over.result c.args.master c.in-Ok.master (λ k m. k.past ≡ Starts m.state ∷ []) c.in-Ok.is
    (passed_through (λ k. k.past) c.over.result c.launch_over.result (Starts c.in-Ok.master.state ∷ []) c.over.ensures.past c.launch_over.ensures.past c.launch_over.ensures.whole)
