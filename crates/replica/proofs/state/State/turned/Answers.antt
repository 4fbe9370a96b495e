use Rattle.std.proofs.Common.{refl}
use Rattle.replica.proofs.Settling.{turned_gives, turned_stands}
use Rattle.replica.proofs.state.State.turned.Goals as goal

pub returns-clause-gives : goal.returns-clause-gives
returns-clause-gives c = rw (c.into_settled.ensures, c.in_ok-led.ensures.led, c.next_seq.ensures.next) (turned_gives c.args.self.now.copy c.args.lead c.args.sent)

pub returns-clause-settling : goal.returns-clause-settling
returns-clause-settling c =
    let s = c.args.self.now.copy in
    rw (c.into_settled.ensures, c.in_ok-led.ensures.led, c.next_seq.ensures.next) (record {
      standing = turned_stands s c.args.lead c.args.sent c.in_ok-led.ensures.standing c.requires (rw c.next_seq.ensures.next at c.next_seq.ensures.small);
      members = refl;
    })
