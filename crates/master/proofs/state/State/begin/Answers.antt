use Rattle.std.proofs.Common.{arith}
use Rattle.master.proofs.Orders.{order-ids}
use Rattle.master.proofs.state.State.begin.Goals as goal

pub returns-clause-sound : goal.returns-clause-sound
returns-clause-sound c = rw c.in_ok-up_to.ensures record {
  some = omega arith;
  ids = omega arith;
  terms = omega arith;
  order = order-ids c.args.copies;
}
