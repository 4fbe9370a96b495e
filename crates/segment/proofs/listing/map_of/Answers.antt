use Rattle.std.proofs.Common.{◌∙◌, Ok}
use Rattle.std.specs.BTreeMap as tree
use Rattle.std.proofs.lemmas.Iterator.Adapters.{fact_from_collect, YieldsList-from_vec}
use Rattle.std.proofs.lemmas.Result.{IfOk-weaker}
use Rattle.segment.proofs.ListingLaws.{listed-made, once-ordered}
use Rattle.segment.proofs.listing.map_of.Goals as goal

pub returns-clause-same : goal.returns-clause-same
returns-clause-same g c = IfOk-weaker c.from_iter.result _ _
    (λ m ran.
    let cmp = g.K.Ord.cmp in
    let once = c.in_ok-once.once.items in
    let made = fact_from_collect {E = Unit {0}} (tree.IsFromIterResult cmp) (Ok m) (ran.1, ran.3, ran.4) (YieldsList-from_vec once ran.2.0 (ran.2.1 ∙ c.in_ok-once.once.ok.0)) in
    let ordered = once-ordered g.met.K.Ord.total g.K.PartialEq.eq g.met.K.Ord.matches_eq c.in_ok-sorted.sorted.items once c.in_ok-sorted.ensures.sorted c.in_ok-once.ensures.once in
    λ q. listed-made g.met.K.Ord.total once m ordered made q ∙ c.in_ok-once.ensures.same q ∙ c.in_ok-sorted.ensures.same q)
    c.from_iter.ensures.ran
