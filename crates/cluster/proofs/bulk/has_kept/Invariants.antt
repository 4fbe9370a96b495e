use Rattle.std.proofs.Common.{◌≡◌, drop}
use Rattle.cluster.specs.Bulks.{has_kept}
use Rattle.cluster.proofs.bulk.has_kept.Given as goal

-- the items that are left decide
abbrev pub invariant-loop-item : goal.invariant-loop-item
invariant-loop-item l = has_kept (drop l.item-index l.items) ≡ has_kept l.items
