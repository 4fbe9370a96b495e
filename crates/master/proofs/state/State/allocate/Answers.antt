use Rattle.std.proofs.Common.{arith}
use Rattle.std.proofs.lemmas.Bool.Decides.{nat_tests}
use Rattle.master.specs.Decide.{unless}
use Rattle.master.proofs.Given.{length-ids_below}
use Rattle.master.proofs.state.State.allocate.Goals as goal
use Rattle.master.proofs.state.State.allocate.Goals.{then-saturating_sub-ge-MOST_COPIES-via-then-saturating_sub-ge-MOST_COPIES, then-saturating_sub-ge-MOST_COPIES-via-else-saturating_sub-ge-MOST_COPIES+then-self-gt-GREATEST_ID}

pub returns-then-saturating_sub-ge-MOST_COPIES-clause-step : goal.returns-then-saturating_sub-ge-MOST_COPIES-clause-step
unfolding unless
returns-then-saturating_sub-ge-MOST_COPIES-clause-step c =
    let given = length-ids_below c.args.self.now.next in
    elim c.then-saturating_sub-ge-MOST_COPIES.branch [
      | then-saturating_sub-ge-MOST_COPIES-via-then-saturating_sub-ge-MOST_COPIES w ↦ grind (arith, nat_tests, given, c.saturating_sub.ensures, c.len.ensures)
      | then-saturating_sub-ge-MOST_COPIES-via-else-saturating_sub-ge-MOST_COPIES+then-self-gt-GREATEST_ID w ↦ grind (arith, nat_tests, given, c.saturating_sub.ensures, c.len.ensures)
    ]

pub returns-clause-step : goal.returns-clause-step
unfolding unless
returns-clause-step c =
    let given = length-ids_below c.args.self.now.next in
    grind (arith, nat_tests, given, c.saturating_sub.ensures, c.len.ensures, c.in_ok-copied.ensures, c.told.ensures)
