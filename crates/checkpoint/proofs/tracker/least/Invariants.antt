use Rattle.std.proofs.Common.{◌≡◌, ◌≤◌, ◌^◌, drop, map}
use Rattle.std.specs.Prelude.{IfSome}
use Rattle.checkpoint.specs.Numbers.{run, least, least_with}
use Rattle.checkpoint.proofs.tracker.least.Given as goal

-- the sets that are left decide, with the least so far
abbrev pub invariant-loop-tracker : goal.invariant-loop-tracker
invariant-loop-tracker l = record {
  least : least_with l.found (map run (drop l.tracker-index l.trackers)) ≡ least (map run l.trackers);
  small : IfSome l.found (λ n. n ≤ 2 ^ 63);
}
