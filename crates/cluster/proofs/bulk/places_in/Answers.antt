use Rattle.std.proofs.Common.{true, refl}
use Rattle.std.specs.Prelude.{All, IsTrue}
use Rattle.cluster.specs.Confirmed.{IsBehind}
use Rattle.cluster.proofs.Bulks.{held_anyway}
use Rattle.cluster.proofs.bulk.places_in.Goals as goal

pub returns-in-Some-clause-behind : goal.returns-in-Some-clause-behind
returns-in-Some-clause-behind g c =
    let yes : IsTrue true = refl in
    held_anyway (All (IsBehind c.args.receipt.now) c.args.entries.now) c.places_of.result (c.if-not-are_behind.ensures yes)
