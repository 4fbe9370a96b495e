use Rattle.std.proofs.Common.{◌≤◌, ◌^◌, arith}
use Rattle.std.specs.Prelude.{IfSome}
use Rattle.std.proofs.lemmas.Grind.{common_steps}
use Rattle.checkpoint.proofs.Sets.{least-fold}
use Rattle.checkpoint.proofs.tracker.least.Goals as goal
use Rattle.checkpoint.proofs.tracker.least.Goals.{in-Some, in-None}

pub loop-tracker-preserved : goal.loop-tracker-preserved
loop-tracker-preserved c = elim c.match-found.branch [
  | in-Some w ↦
      let small : IfSome c.match-found.found (λ n. n ≤ 2 ^ 63) = rw w.found-is (omega (arith, w.min.ensures, c.count-count.ensures.small)) in
      record { least = grind (arith, common_steps, least-fold, c.loop-tracker.invariant.least); small = small }
  | in-None w ↦
      let small : IfSome c.match-found.found (λ n. n ≤ 2 ^ 63) = rw w.found-is c.count-count.ensures.small in
      record { least = grind (arith, common_steps, least-fold, c.loop-tracker.invariant.least); small = small }
]
