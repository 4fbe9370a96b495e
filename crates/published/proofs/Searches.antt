-- What a look and a note tell.
use Rattle.std.proofs.Common.{◌≡◌, List, [], ◌∷◌, ◌++◌, Option, Some, None, Result, Ok, Err, IfOk, IfErr, subst, sym, ⊎_elim}
use Rattle.engine.specs.Answer.{Answer}
use Rattle.query.specs.Page.{PageData}
use Rattle.query.specs.Query.{Query}
use Rattle.published.specs.declared.listing.Published.{Published}
use Rattle.published.specs.Listings.{ComesAfter, ComesAfterAll}
use Rattle.published.specs.Places.{PlaceData}
use Rattle.published.specs.Told.{listed, IsLatest}
use Rattle.published.specs.Search.{Finds, FindsIn, IsFloor, IsFoundIn, IsNoLess}
use Rattle.published.specs.Fresh.{FindsAfter}
use Rattle.published.proofs.Orders.{self-ComesAfter, trans-ComesAfter, trans-ComesAfterAll, append-ComesAfterAll}

module _ {H E : Type 0} (shown : H → Answer) (given : H → PlaceData) (q : Query) (page : PageData) where
  pub found_told : (taken told now : Published) → IsLatest taken told now → (r : Result H E) → IfOk r (λ h. IsFoundIn now q page (shown h) (given h))
      → IfOk r (λ h. FindsIn taken (Some told) q page (shown h) (given h))
  found_told taken told now is (Ok h) e = record {
    now = now;
    fresh = is.first;
    later = (is.second, tt);
    known = λ later on. ⊎_elim (λ (a : now ≡ taken). subst (λ z. ComesAfter later z) (sym a) on.0) (λ (a : now ≡ told). subst (λ z. ComesAfter later z) (sym a) on.1.0) is.one;
    found = e;
  }
  found_told taken told now is (Err e') e = tt

  pub found_taken : (taken : Published) → (r : Result H E) → IfOk r (λ h. IsFoundIn taken q page (shown h) (given h)) → IfOk r (λ h. FindsIn taken None q page (shown h) (given h))
  found_taken taken (Ok h) e = record { now = taken; fresh = self-ComesAfter taken; later = tt; known = λ later on. on.0; found = e }
  found_taken taken (Err e') e = tt

  pub looks_found : (known after : List Published) (taken : Published) (told : Option Published) → ComesAfterAll taken known → after ≡ taken ∷ [] → (r : Result H E)
      → IfOk r (λ h. FindsIn taken told q page (shown h) (given h)) → IfOk r (λ h. Finds (known ++ listed told) (after ++ listed told) q page (shown h) (given h))
  looks_found known after taken told on is (Ok h) f = record {
    now = f.now;
    later = append-ComesAfterAll known (listed told) f.now (trans-ComesAfterAll known taken f.now on f.fresh) f.later;
    known = subst (λ w. IsFloor f.now (w ++ listed told)) (sym is) f.known;
    found = f.found;
  }
  looks_found known after taken told on is (Err e) f = tt

pub no_less : (known after : List Published) (taken : Published) (told : Option Published) → ComesAfterAll taken known → after ≡ taken ∷ [] → IsNoLess (known ++ listed told) (after ++ listed told)
no_less known after taken told on is =
    subst (λ w. IsNoLess (known ++ listed told) (w ++ listed told)) (sym is)
    (record { kept = λ later h. append-ComesAfterAll known (listed told) later (trans-ComesAfterAll known taken later on h.0) h.1 })

pub looks_no_less : {H E : Type 0} (known after : List Published) (taken : Published) (told : Option Published) → ComesAfterAll taken known → after ≡ taken ∷ [] → (r : Result H E)
    → IfErr r (λ _. IsNoLess (known ++ listed told) (after ++ listed told))
looks_no_less known after taken told on is (Ok h) = tt
looks_no_less known after taken told on is (Err e) = no_less known after taken told on is

split-ComesAfterAll : (known : List Published) (t later : Published) → ComesAfterAll later (known ++ t ∷ []) → ComesAfterAll later known × ComesAfter later t
split-ComesAfterAll [] t later h = (tt, h.0)
split-ComesAfterAll (a ∷ known) t later h = let rest = split-ComesAfterAll known t later h.1 in ((h.0, rest.0), rest.1)

-- what is learned is a floor
pub learned-floor : (known : List Published) (t p : Published) → ComesAfter t p → IsFloor p (known ++ t ∷ [])
learned-floor known t p on later h = trans-ComesAfter p t later on (split-ComesAfterAll known t later h).1

pub learned-no_less : (known : List Published) (old : Option Published) (t : Published) → ComesAfterAll t (listed old) → IsNoLess (known ++ listed old) (known ++ t ∷ [])
learned-no_less known old t on = record {
  kept = λ later h.
      let both = split-ComesAfterAll known t later h in append-ComesAfterAll known (listed old) later both.0 (trans-ComesAfterAll (listed old) t later on both.1);
}

pub finds_after : {H E : Type 0} (shown : H → Answer) (given : H → PlaceData) (q : Query) (page : PageData) (before after : List Published) (told : Published) (r : Result H E)
    → IsFloor told before → IfOk r (λ h. Finds before after q page (shown h) (given h)) → IfOk r (λ h. FindsAfter told q page (shown h) (given h))
finds_after shown given q page before after told (Ok h) is f = record { now = f.now; later = is f.now f.later; found = f.found }
finds_after shown given q page before after told (Err e) is f = tt
