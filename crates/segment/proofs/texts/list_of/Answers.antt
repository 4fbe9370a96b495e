use Rattle.std.proofs.Common.{◌≡◌, ◌∙◌, List, Ok, String, Vec, Global, ap}
use Rattle.std.proofs.lemmas.Iterator.Adapters.{fact_from_collect}
use Rattle.std.proofs.lemmas.Iterator.Consumers.{YieldsList-from_rest}
use Rattle.std.proofs.lemmas.Result.{IfOk-weaker}
use Rattle.segment.specs.Places.{places_listed}
use Rattle.segment.specs.declared.places.Places.{Places}
use Rattle.segment.proofs.ListingLaws.{has_bytes, listed-tree}
use Rattle.segment.proofs.texts.list_of.Goals as goal

pub returns : goal.returns
returns c = IfOk-weaker c.from_iter.result _ _
    (λ v ran.
    let all = fact_from_collect {E = Unit {0}} (λ (xs : List (String Global × Places)) (u : Vec (String Global × Places) Global). u.items ≡ xs) (Ok v) (ran.1, ran.3, ran.4.0) (YieldsList-from_rest c.args.texts.entries ran.2.0) in
    λ w. ap (places_listed (has_bytes w)) all ∙ listed-tree c.args.texts c.len-ordered.ensures.ordered w)
    c.from_iter.ensures.ran
