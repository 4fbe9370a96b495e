use Rattle.std.proofs.Common.{◌≡◌, ◌∙◌, List, Ok, String, Vec, Global, ap}
use Rattle.std.proofs.lemmas.Iterator.Adapters.{fact_from_collect}
use Rattle.std.proofs.lemmas.Iterator.Consumers.{YieldsList-from_rest}
use Rattle.std.proofs.lemmas.Result.{IfOk-weaker}
use Rattle.segment.specs.Places.{places_listed}
use Rattle.segment.specs.declared.places.Places.{Places}
use Rattle.segment.proofs.ListingLaws.{has_bytes, listed-table, listed-texts}
use Rattle.segment.proofs.texts.sort_out.Goals as goal

pub returns : goal.returns
returns c =
    let ran = c.in_ok-pairs.ensures.ran in
    let es = c.args.texts.entries in
    let pairs = c.in_ok-pairs.pairs in
    let all = fact_from_collect {E = Unit {0}} (λ (xs : List (String Global × Places)) (u : Vec (String Global × Places) Global). u.items ≡ xs) (Ok pairs) (ran.1, ran.3, ran.4.0) (YieldsList-from_rest es ran.2.0) in
    IfOk-weaker c.sorted.result _ _
    (λ v same. λ w. listed-texts v.items pairs.items same w ∙ ap (places_listed (has_bytes w)) all ∙ listed-table es c.len-unique.ensures.unique w) c.sorted.ensures.same
