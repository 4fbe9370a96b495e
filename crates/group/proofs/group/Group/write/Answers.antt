use Rattle.std.proofs.Common.{◌≡◌, true, Some, refl, ap, subst, ◌∙◌}
use Rattle.std.specs.Prelude.{IfSome, IsTrue}
use Rattle.chronicle.specs.Registered.{PrefixData}
use Rattle.journal.specs.declared.journal.Deed.{Deed}
use Rattle.replica.specs.declared.input.Write as taken
use Rattle.node.specs.Heard.{IsAheadOf}
use Rattle.cluster.specs.Confirmed.{IsConfirmed}
use Rattle.front.specs.ReplyView.{reply_view}
use Rattle.group.specs.Known.{Heard, known}
use Rattle.group.proofs.Seeing.{is_written}
use Rattle.group.proofs.group.Group.write.Goals as goal

pub returns-in-Ok-clause-done : goal.returns-in-Ok-clause-done
returns-in-Ok-clause-done g c =
    let yes : IsTrue true = refl in
    let before = c.args.self.now.known in
    let confirmed = c.in_ok-confirmed.confirmed in
    let later = subst (λ (h : Heard). IfSome h (λ p. IsAheadOf p confirmed.write)) c.heard.ensures (c.if-not-is_ahead.ensures.ahead yes) in
    let acknowledged = subst (λ (w : taken.Write). IsConfirmed w confirmed) c.write_of.ensures c.in_ok-confirmed.ensures.confirmed in
    let next = c.hears-known.ensures ∙ ap (λ (p : PrefixData Deed). known (Some p) before.seen before.past) c.by.ensures in
    is_written before c.hears-known.result c.in-Ok.known c.args.write confirmed (reply_view c.told.result) later acknowledged c.told.ensures next c.in-Ok.ensures.heard c.in-Ok.ensures.refreshed
