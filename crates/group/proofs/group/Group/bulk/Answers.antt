use Rattle.std.proofs.Common.{true, refl, subst, ◌∙◌}
use Rattle.std.specs.Prelude.{IfSome, IsTrue}
use Rattle.node.specs.Heard.{IsAheadOf}
use Rattle.group.specs.Known.{Heard}
use Rattle.front.specs.ReplyView.{reply_view}
use Rattle.group.proofs.Replying.{told_written}
use Rattle.group.proofs.group.Group.bulk.Goals as goal

pub returns-clause-done : goal.returns-clause-done
returns-clause-done g c =
    let yes : IsTrue true = refl in
    told_written c.args.self.now.known c.hears.result c.in-Some-heard_behind.heard c.args.writes.items c.in_ok-confirmed.confirmed c.in-Some.writes (reply_view c.in_ok-reply.reply) (c.in-Some.ensures.all ∙ c.in_ok-writes_of.ensures) c.in_ok-confirmed.ensures.confirmed
    c.in_ok-reply.ensures (subst (λ (h : Heard). IfSome h (λ p. IsAheadOf p c.in_ok-confirmed.confirmed.bulk)) c.heard.ensures (c.if-not-is_ahead.ensures.ahead yes)) c.in-Some-heard_behind.ensures c.hears.ensures
