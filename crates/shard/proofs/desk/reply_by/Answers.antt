use Rattle.std.proofs.Common.{sym, subst}
use Rattle.front.specs.ReplyView.{reply_view}
use Rattle.query.specs.View.{query_view}
use Rattle.shard.specs.History.{IsSeenAt}
use Rattle.shard.proofs.Seen.{count_replied, search_replied}
use Rattle.shard.proofs.desk.reply_by.Goals as goal

pub returns-in-Search : goal.returns-in-Search
returns-in-Search g c =
    let seen = subst (λ s. IsSeenAt s c.args._at.now) (sym c.deref.ensures) c.requires in
    rw c.in-Search.is
    (search_replied reply_view c.deref.result.now c.args._at.now (query_view c.in-Search.body.query) c.in-Search.body.page c.search_of.result c.or_refused.result seen c.search_of.ensures c.or_refused.ensures.ok c.or_refused.ensures.err)

pub returns-in-Count : goal.returns-in-Count
returns-in-Count g c =
    let seen = subst (λ s. IsSeenAt s c.args._at.now) (sym c.deref-in-Count.ensures) c.requires in
    rw c.in-Count.is
    (count_replied reply_view c.deref-in-Count.result.now c.args._at.now (query_view c.in-Count.query) c.count_of.result c.or_refused-in-Count.result seen c.count_of.ensures c.or_refused-in-Count.ensures.ok
    c.or_refused-in-Count.ensures.err)
