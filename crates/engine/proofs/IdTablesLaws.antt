-- Numbers in many tables.
use Rattle.std.proofs.Common.{◌≡◌, ◌≢◌, ◌<◌, ◌≤◌, ◌+◌, ◌==◌, ℕ, zero, suc, Bool, true, false, List, [], ◌∷◌, ◌++◌, length, get_or, set, Option, Some, None, slice_get, refl, sym, ap, subst, ◌∙◌, ◌⊎◌, inl, inr, ⊎_elim, arith}
use Rattle.std.proofs.lemmas.Bool.Decides.{nat_tests}
use Rattle.std.specs.HashMap.{HashMap, spare}
use Rattle.std.specs.List.{AllByRecursion}
use Rattle.std.proofs.lemmas.List.{length-set}
use Rattle.std.proofs.lemmas.Map.Lookups.{exact_bytes}
use Rattle.std.proofs.lemmas.Map.Views.{tells_apart}
use Rattle.doc.specs.Id.{Id, is_id}
use Rattle.engine.specs.declared.ids.id_key.IdKey.{IdKey}
use Rattle.engine.specs.IdFilter.{place_in}
use Rattle.engine.specs.IdTables.{count_at, one_if, number_among, number_in, spare_at}
use Rattle.engine.specs.OperationIndex.{number_at}

module _ {X : Type 0} where
  set_here : (xs : List X) (p : ℕ) (x : X) → p < length xs → slice_get (set xs p x) p ≡ Some x
  set_here [] p x lt = absurd (omega (arith, lt))
  set_here (y ∷ ys) zero x lt = refl
  set_here (y ∷ ys) (suc p) x lt = set_here ys p x (omega (arith, lt))

  set_elsewhere : (xs : List X) (p q : ℕ) (x : X) → (q ≡ p → ⊥) → slice_get (set xs p x) q ≡ slice_get xs q
  set_elsewhere [] p q x apart = refl
  set_elsewhere (y ∷ ys) zero zero x apart = absurd (apart refl)
  set_elsewhere (y ∷ ys) zero (suc q) x apart = refl
  set_elsewhere (y ∷ ys) (suc p) zero x apart = refl
  set_elsewhere (y ∷ ys) (suc p) (suc q) x apart = set_elsewhere ys p q x (λ same. apart (ap suc same))

same_or_not : (p q : ℕ) → (p ≡ q) ⊎ (p ≡ q → ⊥)
same_or_not zero zero = inl refl
same_or_not zero (suc q) = inr (λ e. cc)
same_or_not (suc p) zero = inr (λ e. cc)
same_or_not (suc p) (suc q) = ⊎_elim (λ e. inl (ap suc e)) (λ apart. inr (λ e. apart (omega (arith, e)))) (same_or_not p q)

module _ {S : Type 0} where
  -- where one table changes at the ids that pass a test, and those have its place, each other id stays
  pub among-set : (ts new : List (HashMap IdKey ℕ S)) (p : ℕ) (old here : HashMap IdKey ℕ S) (u : Bool → Option ℕ → Option ℕ) (test : Id → Bool)
      → ((n : Option ℕ) → u false n ≡ n) → ((w : Id) → test w ≡ true → place_in (length ts) w ≡ p)
      → p < length ts → Some old ≡ slice_get ts p → new ≡ set ts p here → ((w : Id) → number_at here w ≡ u (test w) (number_at old w))
      → (w : Id) → number_among new w ≡ u (test w) (number_among ts w)
  among-set ts new p old here u test stays near lt was is changed w =
      subst (λ (xs : List (HashMap IdKey ℕ S)). number_among xs w ≡ u (test w) (number_among ts w)) (sym is)
      (subst (λ n. number_in (slice_get (set ts p here) (place_in n w)) w ≡ u (test w) (number_among ts w)) (sym (length-set ts p here))
      (⊎_elim at_it apart (same_or_not (place_in (length ts) w) p)))
    where
      at_it : place_in (length ts) w ≡ p → number_in (slice_get (set ts p here) (place_in (length ts) w)) w ≡ u (test w) (number_among ts w)
      at_it same =
          ap (λ q. number_in (slice_get (set ts p here) q) w) same ∙ ap (λ o. number_in o w) (set_here ts p here lt) ∙ changed w
          ∙ ap (λ o. u (test w) (number_in o w)) was ∙ sym (ap (λ q. u (test w) (number_in (slice_get ts q) w)) same)

      by_test : (b : Bool) → test w ≡ b → (place_in (length ts) w ≡ p → ⊥) → number_among ts w ≡ u b (number_among ts w)
      by_test true is_it apart = absurd (apart (near w is_it))
      by_test false is_it apart = sym (stays (number_among ts w))

      apart : (place_in (length ts) w ≡ p → ⊥) → number_in (slice_get (set ts p here) (place_in (length ts) w)) w ≡ u (test w) (number_among ts w)
      apart ne = ap (λ o. number_in o w) (set_elsewhere ts p (place_in (length ts) w) here ne) ∙ by_test (test w) refl ne

-- equal ids have one place
pub one-place : (n : ℕ) (a b : Id) → is_id a b ≡ true → place_in n a ≡ place_in n b
one-place n a b same = ap (place_in n) (tells_apart exact_bytes a b same)

-- no table has a number
abbrev pub AreEmpty : {S : Type 0} → List (HashMap IdKey ℕ S) → Type 0
AreEmpty ts = AllByRecursion (λ t. (id : Id) → number_at t id ≡ None) ts

module _ {S : Type 0} where
  pub AreEmpty-push : (ts : List (HashMap IdKey ℕ S)) (t : HashMap IdKey ℕ S) → AreEmpty ts → ((id : Id) → number_at t id ≡ None) → AreEmpty (ts ++ t ∷ [])
  AreEmpty-push [] t all none = (none, tt)
  AreEmpty-push (u ∷ us) t all none = (all.0, AreEmpty-push us t all.1 none)

  none_at : (ts : List (HashMap IdKey ℕ S)) (p : ℕ) (id : Id) → AreEmpty ts → number_in (slice_get ts p) id ≡ None
  none_at [] p id all = refl
  none_at (t ∷ ts) zero id all = all.0 id
  none_at (t ∷ ts) (suc p) id all = none_at ts p id all.1

  pub none-among : (ts : List (HashMap IdKey ℕ S)) (id : Id) → AreEmpty ts → number_among ts id ≡ None
  none-among ts id all = none_at ts (place_in (length ts) id) id all

  pub none-yet : (ts : List (HashMap IdKey ℕ S)) (id : Id) → length ts ≡ 0 → number_among ts id ≡ None
  none-yet [] id none = refl
  none-yet (t ∷ ts) id none = absurd (omega (arith, none))

  abbrev spare_in : Option (HashMap IdKey ℕ S) → ℕ
  spare_in None = 0
  spare_in (Some t) = spare t

  pub spare_here : (ts : List (HashMap IdKey ℕ S)) (p : ℕ) (t : HashMap IdKey ℕ S) → p < length ts → spare_at (set ts p t) p ≡ spare t
  spare_here [] p t lt = absurd (omega (arith, lt))
  spare_here (u ∷ us) zero t lt = refl
  spare_here (u ∷ us) (suc p) t lt = spare_here us p t (omega (arith, lt))

  pub spare_elsewhere : (ts : List (HashMap IdKey ℕ S)) (p q : ℕ) (t : HashMap IdKey ℕ S) → (q ≡ p → ⊥) → spare_at (set ts p t) q ≡ spare_at ts q
  spare_elsewhere [] p q t apart = refl
  spare_elsewhere (u ∷ us) zero zero t apart = absurd (apart refl)
  spare_elsewhere (u ∷ us) zero (suc q) t apart = refl
  spare_elsewhere (u ∷ us) (suc p) zero t apart = refl
  spare_elsewhere (u ∷ us) (suc p) (suc q) t apart = spare_elsewhere us p q t (λ same. apart (ap suc same))

  pub spare_was : (ts : List (HashMap IdKey ℕ S)) (p : ℕ) (t : HashMap IdKey ℕ S) → Some t ≡ slice_get ts p → spare_at ts p ≡ spare t
  spare_was [] p t was = cc
  spare_was (u ∷ us) zero t was = ap (λ o. spare_in o) (sym was)
  spare_was (u ∷ us) (suc p) t was = spare_was us p t was

below_or : (q p : ℕ) → q < p + 1 → (q < p) ⊎ (q ≡ p)
below_or zero zero lt = inr refl
below_or zero (suc p) lt = inl (omega arith)
below_or (suc q) zero lt = absurd (omega (arith, lt))
below_or (suc q) (suc p) lt = ⊎_elim (λ l. inl (omega (arith, l))) (λ e. inr (ap suc e)) (below_or q p (omega (arith, lt)))

module _ {X : Type 0} where
  -- what an index gives
  pub at_index : (xs : List X) (p : ℕ) (x : X) → p < length xs → x ≡ get_or xs p x → Some x ≡ slice_get xs p
  at_index [] p x lt is = absurd (omega (arith, lt))
  at_index (y ∷ ys) zero x lt is = ap (λ z. Some z) is
  at_index (y ∷ ys) (suc p) x lt is = at_index ys p x (omega (arith, lt)) is

  pub at_get : (xs : List X) (p : ℕ) (d : X) → p < length xs → Some (get_or xs p d) ≡ slice_get xs p
  at_get [] p d lt = absurd (omega (arith, lt))
  at_get (y ∷ ys) zero d lt = refl
  at_get (y ∷ ys) (suc p) d lt = at_get ys p d (omega (arith, lt))

module _ {S : Type 0} where
  -- one table more has room
  pub room-more : (ts : List (HashMap IdKey ℕ S)) (p : ℕ) (t : HashMap IdKey ℕ S) (need : ℕ → ℕ) → p < length ts → ((q : ℕ) → q < p → need q ≤ spare_at ts q) → need p ≤ spare t
      → (q : ℕ) → q < p + 1 → need q ≤ spare_at (set ts p t) q
  room-more ts p t need lt all enough q below =
      ⊎_elim (λ less. subst (λ s. need q ≤ s) (sym (spare_elsewhere ts p q t (λ e. omega (arith, less, e)))) (all q less))
      (λ e. subst (λ r. need r ≤ spare_at (set ts p t) r) (sym e) (subst (λ s. need p ≤ s) (sym (spare_here ts p t lt)) enough))
      (below_or q p below)

is_one : (a : ℕ) → one_if (a == a) ≡ 1
is_one a = let yes : (a == a) ≡ true = grind (arith, nat_tests) in ap one_if yes

one_there : (a b : ℕ) → b ≡ a → one_if (a == b) ≡ 1
one_there a b e = ap (λ c. one_if (a == c)) e ∙ is_one a

none_elsewhere : (a b : ℕ) → (b ≡ a → ⊥) → one_if (a == b) ≡ 0
none_elsewhere a b apart = let differ : a ≢ b = λ e. apart (sym e) in let no : (a == b) ≡ false = grind (arith, nat_tests, differ) in ap one_if no

module _ {S : Type 0} where
  -- there is room for the next
  pub room-here : (ts : List (HashMap IdKey ℕ S)) (n at : ℕ) (t : HashMap IdKey ℕ S) (q : Id × ℕ) (qs : List (Id × ℕ)) → at ≡ place_in n q.0 → Some t ≡ slice_get ts at
      → count_at n at (q ∷ qs) ≤ spare_at ts at → count_at n at qs + 1 ≤ spare t
  room-here ts n at t q qs is was all =
      let one = one_there (place_in n q.0) at is in
      let room : one_if (place_in n q.0 == at) + count_at n at qs ≤ spare_at ts at = all in
      omega (arith, one, room, spare_was ts at t was)

  -- and then for the others
  pub room-left : (ts : List (HashMap IdKey ℕ S)) (n at : ℕ) (t new : HashMap IdKey ℕ S) (q : Id × ℕ) (qs : List (Id × ℕ)) → at ≡ place_in n q.0 → at < length ts → Some t ≡ slice_get ts at
      → spare t ≤ spare new + 1 → ((p : ℕ) → p < n → count_at n p (q ∷ qs) ≤ spare_at ts p) → (p : ℕ) → p < n → count_at n p qs ≤ spare_at (set ts at new) p
  room-left ts n at t new q qs is lt was less all p below = ⊎_elim here elsewhere (same_or_not p at)
    where
      here : p ≡ at → count_at n p qs ≤ spare_at (set ts at new) p
      here e =
          subst (λ r. count_at n r qs ≤ spare_at (set ts at new) r) (sym e)
          (omega (arith, room-here ts n at t q qs is was (all at (subst (λ r. r < n) e below)), spare_here ts at new lt, less))

      elsewhere : (p ≡ at → ⊥) → count_at n p qs ≤ spare_at (set ts at new) p
      elsewhere apart =
          let room : one_if (place_in n q.0 == p) + count_at n p qs ≤ spare_at ts p = all p below in
          omega (arith, room, spare_elsewhere ts at p new apart)

pub count-push : (n p : ℕ) (qs : List (Id × ℕ)) (q : Id × ℕ) → count_at n p (qs ++ q ∷ []) ≡ one_if (place_in n q.0 == p) + count_at n p qs
count-push n p [] q = refl
count-push n p (r ∷ rs) q = omega (arith, count-push n p rs q)

at_most_one : (b : Bool) → one_if b ≤ 1
at_most_one true = omega arith
at_most_one false = omega arith

got_here : (cs : List ℕ) (p v : ℕ) → p < length cs → get_or (set cs p v) p 0 ≡ v
got_here [] p v lt = absurd (omega (arith, lt))
got_here (c ∷ cs) zero v lt = refl
got_here (c ∷ cs) (suc p) v lt = got_here cs p v (omega (arith, lt))

got_elsewhere : (cs : List ℕ) (p q v : ℕ) → (q ≡ p → ⊥) → get_or (set cs p v) q 0 ≡ get_or cs q 0
got_elsewhere [] p q v apart = refl
got_elsewhere (c ∷ cs) zero zero v apart = absurd (apart refl)
got_elsewhere (c ∷ cs) zero (suc q) v apart = refl
got_elsewhere (c ∷ cs) (suc p) zero v apart = refl
got_elsewhere (c ∷ cs) (suc p) (suc q) v apart = got_elsewhere cs p q v (λ e. apart (ap suc e))

-- one more is counted
pub counted-more : (cs : List ℕ) (n at v : ℕ) (qs : List (Id × ℕ)) (q : Id × ℕ) → length cs ≡ n → at < n → at ≡ place_in n q.0 → v ≡ get_or cs at 0 → ((p : ℕ) → p < n → get_or cs p 0 ≡ count_at n p qs)
    → (p : ℕ) → p < n → get_or (set cs at (v + 1)) p 0 ≡ count_at n p (qs ++ q ∷ [])
counted-more cs n at v qs q len lt is was so_far p below = ⊎_elim here elsewhere (same_or_not p at) ∙ sym (count-push n p qs q)
  where
    here : p ≡ at → get_or (set cs at (v + 1)) p 0 ≡ one_if (place_in n q.0 == p) + count_at n p qs
    here e =
        subst (λ r. get_or (set cs at (v + 1)) r 0 ≡ one_if (place_in n q.0 == r) + count_at n r qs) (sym e)
        (omega (arith, got_here cs at (v + 1) (omega (arith, len, lt)), one_there (place_in n q.0) at is, was, so_far at lt))

    elsewhere : (p ≡ at → ⊥) → get_or (set cs at (v + 1)) p 0 ≡ one_if (place_in n q.0 == p) + count_at n p qs
    elsewhere apart = omega (arith, got_elsewhere cs at p (v + 1) apart, none_elsewhere (place_in n q.0) p (λ e. apart (e ∙ sym is)), so_far p below)

pub count-small : (n p : ℕ) (qs : List (Id × ℕ)) → count_at n p qs ≤ length qs
count-small n p [] = omega arith
count-small n p (q ∷ qs) = omega (arith, count-small n p qs, at_most_one (place_in n q.0 == p))

pub got_at : (cs : List ℕ) (p v : ℕ) → p < length cs → v ≡ get_or cs p v → v ≡ get_or cs p 0
got_at [] p v lt is = absurd (omega (arith, lt))
got_at (c ∷ cs) zero v lt is = is
got_at (c ∷ cs) (suc p) v lt is = got_at cs p v (omega (arith, lt)) is
