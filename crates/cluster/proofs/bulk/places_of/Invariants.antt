use Rattle.std.proofs.Common.{take}
use Rattle.cluster.specs.Bulks.{AreSettledAt}
use Rattle.cluster.proofs.bulk.places_of.Given as goal

-- the items so far have their places
abbrev pub invariant-loop-item : goal.invariant-loop-item
invariant-loop-item g l = AreSettledAt l.entries (take l.item-index l.items) l.places.items
