use Rattle.std.proofs.Common.{Some, None, subst}
use Rattle.cluster.specs.Opening.{BeganWith}
use Rattle.cluster.proofs.Opened.{given_last, opened_ok}
use Rattle.cluster.proofs.cluster.Cluster.open.Goals as goal

pub returns-in-Ok-Some-default-clause-opened : goal.returns-in-Ok-Some-default-clause-opened
returns-in-Ok-Some-default-clause-opened g c =
    let bytes = g.D.LogDevice.bytes c.in_ok-device.device in
    let given = given_last (g.V.Devices.gave c.args.devices) (g.V.Devices.gave c.master_device.new.devices) 0 bytes c.in_ok-device.ensures in
    opened_ok (λ k. g.V.Devices.gave k.devices) (λ k. k.crew.began.items) (λ k. k.unopened.items) (λ k. k.unled) (λ k. k.past) c.reopen.result (g.V.Devices.gave c.master_device.new.devices) c.args.label.mapping c.args.copies
    (Some c.in-Ok-Some-default.count) bytes (g.D.LogDevice.bytes c.in-Ok-Some-default.device) given c.in-Ok-Some-default.ensures.held (subst (BeganWith bytes) c.in-Ok-Some-default.field-0-0-is c.in-Ok-Some-default.ensures.count)
    c.reopen.ensures.gave c.reopen.ensures.opened

pub returns-in-Ok-None-default-clause-opened : goal.returns-in-Ok-None-default-clause-opened
returns-in-Ok-None-default-clause-opened g c =
    let bytes = g.D.LogDevice.bytes c.in_ok-device.device in
    let given = given_last (g.V.Devices.gave c.args.devices) (g.V.Devices.gave c.master_device.new.devices) 0 bytes c.in_ok-device.ensures in
    opened_ok (λ k. g.V.Devices.gave k.devices) (λ k. k.crew.began.items) (λ k. k.unopened.items) (λ k. k.unled) (λ k. k.past) c.begin.result (g.V.Devices.gave c.master_device.new.devices) c.args.label.mapping c.args.copies
    None bytes (g.D.LogDevice.bytes c.in-Ok-None-default.device) given c.in-Ok-None-default.ensures.held (subst (BeganWith bytes) c.in-Ok-None-default.field-0-0-is c.in-Ok-None-default.ensures.count)
    c.begin.ensures.gave c.begin.ensures.opened
