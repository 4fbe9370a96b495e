use Rattle.std.proofs.Common.{true}
use Rattle.std.proofs.lemmas.Map.Text.{btree_set_updates_text}
use Rattle.query.proofs.Values.{one_text}
use Rattle.query.proofs.seen.Seen.add_text.Goals as goal

-- a text more
pub returns-clause-seen : goal.returns-clause-seen
returns-clause-seen c =
    one_text c.args.self.now c.insert.new.self c.args.text.now
    (λ cs. rw (← c.in_ok-from_str.ensures.ok) (btree_set_updates_text _ c.args.self.now.texts c.insert.new.self true c.in_ok-insert.ensures.updates cs))
