use Rattle.std.proofs.Common.{◌∙◌, ap}
use Rattle.std.specs.Map.{values_of}
use Rattle.engine.specs.LastOfEach.{last_of_runs}
use Rattle.engine.proofs.LastOfEachLaws.{last-sorted}
use Rattle.engine.proofs.read.last_of_each.last_of_each.Goals as goal

-- of the sorted pairs the last of each key
pub returns : goal.returns
returns g c =
    last-sorted g.met.K.Ord.total g.K.PartialEq.eq g.met.K.Ord.matches_eq c.args.pairs.items c.in_ok-sorted.sorted.items c.in_ok-last.last.items c.in_ok-sorted.ensures.same c.in_ok-sorted.ensures.sorted (c.in_ok-last.ensures ∙ ap (λ es. values_of (last_of_runs g.K.PartialEq.eq es)) c.deref.ensures.value)
