use Rattle.std.proofs.Common.{◌≡◌, ◌++◌, drop, if◌then◌else◌}
use Rattle.std.specs.FinMap.Entries.{put}
use Rattle.std.specs.Ordering.{nat_cmp}
use Rattle.replica.proofs.acks.Acks.with.Given as goal

-- those so far go on with the copies that are left, and with the new one until it is placed
abbrev pub invariant-loop-other : goal.invariant-loop-other
invariant-loop-other l = l.items.items ++ (if l.placed then drop l.other-index l.other-items else put nat_cmp l.id l.numbers (drop l.other-index l.other-items)) ≡ put nat_cmp l.id l.numbers l.other-items
