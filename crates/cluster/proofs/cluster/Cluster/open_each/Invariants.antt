use Rattle.std.specs.Prelude.{◌≡◌, take}
use mathlib.Core.List.{IsPrefix}
use Rattle.cluster.specs.Opened.{AreTried}
use Rattle.cluster.proofs.cluster.Cluster.open_each.Given as goal

-- the copies with the ids so far were opened, where they could be
abbrev pub invariant-loop-id : goal.invariant-loop-id
invariant-loop-id g l =
    (l.self.journals ≡ l.fn.self.journals)
    × (l.self.label ≡ l.fn.self.label)
    × (l.self.past ≡ l.fn.self.past)
    × IsPrefix (g.V.Devices.gave l.fn.self.devices) (g.V.Devices.gave l.self.devices)
    × AreTried (g.V.Devices.gave l.self.devices) l.self.label.mapping l.count (take l.id-index l.id-items) l.self.crew.began.items l.self.unopened.items l.opened.items
    × (l.self.unled ≡ l.fn.self.unled)
