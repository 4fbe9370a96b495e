use Rattle.std.proofs.Common.{◌≤◌, ◌^◌}
use Rattle.op.specs.Operations.{next_seq}
use Rattle.replica.specs.Copy.{operations}
use Rattle.replica.proofs.Promoting.{promotion_found, promotion_planned}
use Rattle.replica.proofs.state.State.promoted.Goals as goal

pub returns-clause-gives : goal.returns-clause-gives
returns-clause-gives c =
    let s = c.args.self.now.copy in
    rw (c.keeping.ensures, c.into_settled.ensures, c.in_ok-led.ensures.led, c.new_lead.ensures, c.next_seq.ensures.next, c.in_ok-sent.ensures, c.resync_record-kept.ensures, c.requires.is_tail)
    (promotion_found s c.args.term c.args.set c.next_seq.ensures.up)

pub returns-clause-planned : goal.returns-clause-planned
returns-clause-planned c =
    let s = c.args.self.now.copy in
    let small : next_seq (operations s) ≤ 2 ^ 63 = rw c.next_seq.ensures.next at c.next_seq.ensures.small in
    rw (c.keeping.ensures, c.into_settled.ensures, c.in_ok-led.ensures.led, c.new_lead.ensures, c.next_seq.ensures.next, c.in_ok-sent.ensures, c.resync_record-kept.ensures, c.requires.is_tail)
    (promotion_planned s c.args.term c.args.set c.in_ok-led.ensures.standing c.next_seq.ensures.up small c.requires.is_term c.requires.whole c.requires.member)
