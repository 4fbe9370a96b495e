use Rattle.master.proofs.Faults.{fails_as}
use Rattle.master.proofs.Orders.{order-with}
use Rattle.master.proofs.state.State.synced.Goals as goal

pub returns-in-Err-clause-step : goal.returns-in-Err-clause-step
returns-in-Err-clause-step c = fails_as c.in-Err.fault _ (c.in-Err.ensures.err _ _)

pub returns-clause-sound : goal.returns-clause-sound
returns-clause-sound c = record {
  some = rw c.in_ok-copied.ensures c.requires.some;
  ids = rw c.in_ok-copied.ensures c.requires.ids;
  terms = rw c.in_ok-copied.ensures c.requires.terms;
  order = rw c.in_ok-with.ensures (order-with c.args.self.now.in_sync c.args.id c.requires.order);
}
