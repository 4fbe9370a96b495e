use Rattle.std.proofs.Common.{◌+◌, List, sym, subst}
use Rattle.node.specs.Entry.{Receipt}
use Rattle.cluster.specs.Refreshed.{AreSoFar}
use Rattle.cluster.proofs.Refreshes.{one_more}
use Rattle.cluster.proofs.client.add_entry.Goals as goal

pub returns : goal.returns
returns g c =
    subst (λ (rs : List Receipt). AreSoFar c.args.state.now (c.args.copy + 1) rs) (sym c.in_ok-push.ensures.items)
    (one_more c.args.state.now c.args.copy c.args.entries.now.items c.args.entry c.requires.so_far c.requires.refreshed (sym c.if-not-has.ensures))
