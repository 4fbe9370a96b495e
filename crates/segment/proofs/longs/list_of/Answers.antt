use Rattle.std.proofs.Common.{◌≡◌, ◌∙◌, ℤ, List, Ok, Vec, Global, ap, int_eq}
use Rattle.std.proofs.lemmas.Cmp.{int_cmp_total}
use Rattle.std.proofs.lemmas.Iterator.Adapters.{fact_from_collect}
use Rattle.std.proofs.lemmas.Iterator.Consumers.{YieldsList-from_rest}
use Rattle.std.proofs.lemmas.Result.{IfOk-weaker}
use Rattle.segment.specs.Places.{places_listed}
use Rattle.segment.specs.declared.places.Places.{Places}
use Rattle.segment.proofs.ListingLaws.{listed-ordered}
use Rattle.segment.proofs.longs.list_of.Goals as goal

pub returns : goal.returns
returns c = IfOk-weaker c.from_iter.result _ _
    (λ v ran.
    let es = c.args.longs.entries in
    let all = fact_from_collect {E = Unit {0}} (λ (xs : List (ℤ × Places)) (w : Vec (ℤ × Places) Global). w.items ≡ xs) (Ok v) (ran.1, ran.3, ran.4.0) (YieldsList-from_rest es ran.2.0) in
    λ z. ap (places_listed (int_eq z)) all ∙ listed-ordered int_cmp_total es c.len-ordered.ensures.ordered z)
    c.from_iter.ensures.ran
