use Rattle.cluster.proofs.Opened.{given_last, started_ok}
use Rattle.cluster.proofs.cluster.Cluster.start.Goals as goal

pub returns-clause-opened : goal.returns-clause-opened
returns-clause-opened g c =
    let bytes = g.D.LogDevice.bytes c.in-Ok.device in
    let given = given_last (g.V.Devices.gave c.args.devices) (g.V.Devices.gave c.device.new.self) 0 bytes c.in-Ok.ensures.given in
    started_ok (λ k. g.V.Devices.gave k.devices) (λ k. k.crew.began.items) (λ k. k.past) c.begin.result (g.V.Devices.gave c.device.new.self) c.args.label.mapping c.args.copies bytes given c.begin.ensures.gave c.begin.ensures.opened
