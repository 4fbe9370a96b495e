use Rattle.std.proofs.Common.{◌==◌, arith, true, false}
use Rattle.master.specs.Decide.{set_of}
use Rattle.master.specs.State.{IsAscending}
use Rattle.master.proofs.Orders.{order-without}
use Rattle.master.proofs.state.State.promote.Goals as goal

pub returns-clause-sound : goal.returns-clause-sound
returns-clause-sound c = record {
  some = c.requires.some;
  ids = c.requires.ids;
  terms = omega (arith, c.if-self-ge-GREATEST_TERM.false);
  order = rw c.in_ok-in_sync.ensures (elim (c.args.self.now.primary == c.args.id) as (λ b. IsAscending (set_of c.args.self.now c.args.id b)) [
    | true ↦ c.requires.order
    | false ↦ order-without c.args.self.now.in_sync c.args.self.now.primary c.requires.order
  ]);
}
