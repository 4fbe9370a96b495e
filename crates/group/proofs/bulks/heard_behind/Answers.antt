use Rattle.std.proofs.Common.{true, List, refl, subst}
use Rattle.std.specs.Prelude.{All, IsTrue}
use Rattle.node.specs.Entry.{Receipt}
use Rattle.node.specs.Heard.{HasEntry}
use Rattle.group.proofs.Replying.{has_bulk}
use Rattle.group.proofs.bulks.heard_behind.Goals as goal

pub returns-then-has_all : goal.returns-then-has_all
returns-then-has_all g c =
    let yes : IsTrue true = refl in
    has_bulk c.args.confirmed.now c.last_heard-heard.result (c.if-has.ensures.among yes) (subst (λ (rs : List Receipt). All (HasEntry c.last_heard-heard.result) rs) c.as_slice-entries.ensures.value (c.if-has_all.ensures yes))
