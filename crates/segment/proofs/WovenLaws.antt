-- Columns of documents that other segments have, put together.
use Rattle.std.proofs.Common.{◌≡◌, ◌<◌, ◌≤◌, ◌+◌, ℕ, zero, suc, Bool, true, false, ◌||◌, List, [], ◌∷◌, ◌++◌, All, length, get_or, map, replicate, refl, sym, ap, ◌∙◌, subst, arith, Option, Some, None, nat_lt, if◌then◌else◌}
use Rattle.std.specs.Prelude.{IfSome}
use Rattle.std.specs.List.{flat_map}
use Rattle.std.proofs.lemmas.Bool.Decides.{nat_tests}
use Rattle.std.proofs.lemmas.List.{length-map}
use Rattle.doc.specs.Document.{Values}
use Rattle.marks.specs.Lists.{marked, places, places_from, zip_with}
use Rattle.segment.specs.Woven.{listed_if, masked, moved_by, put_place, risen, IsPlaced, nothing, dead, other, here}
use Rattle.segment.proofs.Ahead.{places-map}
use Rattle.segment.proofs.Marking.{marked-none}
use Rattle.segment.proofs.Zips.{marked-zip}

-- ---- rising places

above_false : (p q : ℕ) → q < p → nat_lt p q ≡ false
above_false p q lt = grind (arith, nat_tests, lt)

below_true : (p q : ℕ) → p < q → nat_lt p q ≡ true
below_true p q lt = grind (arith, nat_tests, lt)

-- the first place, if there is one, is behind another
abbrev IsBehind : ℕ → List ℕ → Type 0
IsBehind b [] = Unit {0}
IsBehind b (p ∷ ps) = b < p

risen-left : (b : ℕ) (ps qs : List ℕ) → IsBehind b qs → risen (b ∷ ps) qs ≡ b ∷ risen ps qs
risen-left b ps [] lt = refl
risen-left b ps (q ∷ qs) lt = ap (λ t. if t then b ∷ risen ps (q ∷ qs) else q ∷ put_place b (risen ps) qs) (below_true b q lt)

risen-right : (b : ℕ) (ps qs : List ℕ) → IsBehind b ps → risen ps (b ∷ qs) ≡ b ∷ risen ps qs
risen-right b [] qs lt = refl
risen-right b (p ∷ ps) qs lt = ap (λ t. if t then p ∷ risen ps (b ∷ qs) else b ∷ put_place p (risen ps) qs) (above_false p b lt)

or_false : (a : Bool) → (a || false) ≡ a
or_false true = refl
or_false false = refl

module _ (test : Values → Bool) (none : test [] ≡ false) where
  behind_if : (t : Bool) (n b : ℕ) (ps : List ℕ) → b < n → IsBehind b ps → IsBehind b (if t then n ∷ ps else ps)
  behind_if true n b ps lt rest = lt
  behind_if false n b ps lt rest = rest

  behind-from : (n b : ℕ) (xs : List Values) → b < n → IsBehind b (places_from test n xs)
  behind-from n b [] lt = tt
  behind-from n b (x ∷ xs) lt = behind_if (test x) n b (places_from test (n + 1) xs) lt (behind-from (n + 1) b xs (omega (arith, lt)))

  left_if : (t : Bool) (b : ℕ) (ps qs all : List ℕ) → IsBehind b qs → risen ps qs ≡ all → risen (if t then b ∷ ps else ps) qs ≡ (if t then b ∷ all else all)
  left_if true b ps qs all lt is = risen-left b ps qs lt ∙ ap (λ rs. b ∷ rs) is
  left_if false b ps qs all lt is = is

  right_if : (t : Bool) (b : ℕ) (ps qs all : List ℕ) → IsBehind b ps → risen ps qs ≡ all → risen ps (if t then b ∷ qs else qs) ≡ (if t then b ∷ all else all)
  right_if true b ps qs all lt is = risen-right b ps qs lt ∙ ap (λ rs. b ∷ rs) is
  right_if false b ps qs all lt is = is

  module _ {A : Type 0} (g : A → Values) where
    abbrev seen_from : ℕ → List A → List Bool → List ℕ
    seen_from b zs bs = places_from test b (masked bs (map g zs))

    abbrev Rise : ℕ → List A → List Bool → List Bool → Type 0
    Rise b zs ts ms = risen (seen_from b zs ts) (seen_from b zs ms) ≡ seen_from b zs (zip_with (λ x y. x || y) ts ms)

    risen-from : (b : ℕ) (zs : List A) (ts ms : List Bool) (ds : List A) (to : List (Option ℕ)) → IsPlaced b zs ts ms ds to → Rise b zs ts ms
    risen-from _ _ _ _ _ _ (nothing b) = refl
    risen-from _ _ _ _ _ _ (dead b zs ts ms ds all to more d rest all_is more_is) = risen-from b zs ts ms ds to rest
    risen-from _ _ _ _ _ _ (other b zs ts ms ds to z t zs' ts' ms' rest zs_is ts_is ms_is) =
        let ps = seen_from (b + 1) zs ts in
        let qs = seen_from (b + 1) zs ms in
        let all = seen_from (b + 1) zs (zip_with (λ x y. x || y) ts ms) in
        let one = λ (u : Bool). test (if u then g z else []) in
        let core : Rise b (z ∷ zs) (t ∷ ts) (false ∷ ms) =
        ap (λ (e : Bool). risen (if one t then b ∷ ps else ps) (if e then b ∷ qs else qs)) none
        ∙ left_if (one t) b ps qs all (behind-from (b + 1) b (masked ms (map g zs)) (omega arith)) (risen-from (b + 1) zs ts ms ds to rest)
        ∙ ap (λ (u : Bool). if one u then b ∷ all else all) (sym (or_false t)) in
        subst (λ (xs : List A). Rise b xs ts' ms') (sym zs_is) (subst (λ (bs : List Bool). Rise b (z ∷ zs) bs ms') (sym ts_is) (subst (λ (bs : List Bool). Rise b (z ∷ zs) (t ∷ ts) bs) (sym ms_is) core))
    risen-from _ _ _ _ _ _ (here b zs ts ms ds to z zs' ts' ms' ds' to' rest zs_is ts_is ms_is ds_is to_is) =
        let ps = seen_from (b + 1) zs ts in
        let qs = seen_from (b + 1) zs ms in
        let all = seen_from (b + 1) zs (zip_with (λ x y. x || y) ts ms) in
        let core : Rise b (z ∷ zs) (false ∷ ts) (true ∷ ms) =
        ap (λ (e : Bool). risen (if e then b ∷ ps else ps) (if test (g z) then b ∷ qs else qs)) none
        ∙ right_if (test (g z)) b ps qs all (behind-from (b + 1) b (masked ts (map g zs)) (omega arith)) (risen-from (b + 1) zs ts ms ds to rest) in
        subst (λ (xs : List A). Rise b xs ts' ms') (sym zs_is) (subst (λ (bs : List Bool). Rise b (z ∷ zs) bs ms') (sym ts_is) (subst (λ (bs : List Bool). Rise b (z ∷ zs) (false ∷ ts) bs) (sym ms_is) core))

    -- the places of documents that come among others
    pub risen-places : (zs : List A) (ts ms : List Bool) (ds : List A) (to : List (Option ℕ)) → IsPlaced 0 zs ts ms ds to
        → risen (places test (masked ts (map g zs))) (places test (masked ms (map g zs))) ≡ places test (masked (zip_with (λ x y. x || y) ts ms) (map g zs))
    risen-places zs ts ms ds to are = risen-from 0 zs ts ms ds to are

    -- ---- where places go

    module _ (f : ℕ → Option ℕ) where
      abbrev go : List ℕ → List ℕ
      go ps = flat_map (λ p. listed_if (f p)) ps

      gone_if : (t : Bool) (k : ℕ) (ps : List ℕ) → f k ≡ None → go (if t then k ∷ ps else ps) ≡ go ps
      gone_if true k ps is = ap (λ (o : Option ℕ). listed_if o ++ go ps) is
      gone_if false k ps is = refl

      moved_if : (t : Bool) (k b : ℕ) (ps all : List ℕ) → f k ≡ Some b → go ps ≡ all → go (if t then k ∷ ps else ps) ≡ (if t then b ∷ all else all)
      moved_if true k b ps all is rest = ap (λ (o : Option ℕ). listed_if o ++ go ps) is ∙ ap (λ qs. b ∷ qs) rest
      moved_if false k b ps all is rest = rest

      abbrev Follows : ℕ → List (Option ℕ) → Type 0
      Follows k to = (i : ℕ) → f (k + i) ≡ get_or to i None

      first : (k : ℕ) (o : Option ℕ) (to to' : List (Option ℕ)) → Follows k to' → to' ≡ o ∷ to → f k ≡ o
      first k o to to' is to_is = ap f (omega arith) ∙ is 0 ∙ ap (λ (os : List (Option ℕ)). get_or os 0 None) to_is

      later : (k : ℕ) (o : Option ℕ) (to to' : List (Option ℕ)) → Follows k to' → to' ≡ o ∷ to → Follows (k + 1) to
      later k o to to' is to_is i = ap f (omega arith) ∙ is (suc i) ∙ ap (λ (os : List (Option ℕ)). get_or os (suc i) None) to_is

      abbrev Move : ℕ → ℕ → List A → List Bool → List A → Type 0
      Move b k zs ms ds = go (places_from test k (map g ds)) ≡ seen_from b zs ms

      moved-from : (b k : ℕ) (zs : List A) (ts ms : List Bool) (ds : List A) (to : List (Option ℕ)) → IsPlaced b zs ts ms ds to → Follows k to → Move b k zs ms ds
      moved-from _ k _ _ _ _ _ (nothing b) is = refl
      moved-from _ k _ _ _ _ _ (dead b zs ts ms ds all to more d rest all_is more_is) is =
          let core : Move b k zs ms (d ∷ ds) = gone_if (test (g d)) k (places_from test (k + 1) (map g ds)) (first k None to more is more_is) ∙ moved-from b (k + 1) zs ts ms ds to rest (later k None to more is more_is) in
          subst (λ (xs : List A). Move b k zs ms xs) (sym all_is) core
      moved-from _ k _ _ _ _ _ (other b zs ts ms ds to z t zs' ts' ms' rest zs_is ts_is ms_is) is =
          let ps = seen_from (b + 1) zs ms in
          let core : Move b k (z ∷ zs) (false ∷ ms) ds = moved-from (b + 1) k zs ts ms ds to rest is ∙ sym (ap (λ (e : Bool). if e then b ∷ ps else ps) none) in
          subst (λ (xs : List A). Move b k xs ms' ds) (sym zs_is) (subst (λ (bs : List Bool). Move b k (z ∷ zs) bs ds) (sym ms_is) core)
      moved-from _ k _ _ _ _ _ (here b zs ts ms ds to z zs' ts' ms' ds' to' rest zs_is ts_is ms_is ds_is to_is) is =
          let core : Move b k (z ∷ zs) (true ∷ ms) (z ∷ ds) =
          moved_if (test (g z)) k b (places_from test (k + 1) (map g ds)) (seen_from (b + 1) zs ms) (first k (Some b) to to' is to_is) (moved-from (b + 1) (k + 1) zs ts ms ds to rest (later k (Some b) to to' is to_is)) in
          subst (λ (xs : List A). Move b k xs ms' ds') (sym zs_is) (subst (λ (bs : List Bool). Move b k (z ∷ zs) bs ds') (sym ms_is) (subst (λ (xs : List A). Move b k (z ∷ zs) (true ∷ ms) xs) (sym ds_is) core))

    -- the places of documents, moved
    pub moved-places : (zs : List A) (ts ms : List Bool) (ds : List A) (to : List (Option ℕ)) → IsPlaced 0 zs ts ms ds to → moved_by to (places test (map g ds)) ≡ places test (masked ms (map g zs))
    moved-places zs ts ms ds to are = moved-from (λ p. get_or to p None) 0 0 zs ts ms ds to are (λ i. ap (λ p. get_or to p None) (omega arith))

    -- ---- marks

    or_same : (a : Bool) → (a || a) ≡ a
    or_same true = refl
    or_same false = refl

    one_mark : (t m : Bool) (d : Values) → (test (if t then d else []) || test (if m then d else [])) ≡ test (if (t || m) then d else [])
    one_mark true true d = or_same (test d)
    one_mark true false d = ap (λ e. test d || e) none ∙ or_false (test d)
    one_mark false m d = ap (λ e. e || test (if m then d else [])) none

    both-marks : (ts ms : List Bool) (xs : List Values) → zip_with (λ b x. b || test x) (map test (masked ts xs)) (masked ms xs) ≡ map test (masked (zip_with (λ x y. x || y) ts ms) xs)
    both-marks [] ms xs = refl
    both-marks (t ∷ ts) [] [] = refl
    both-marks (t ∷ ts) [] (x ∷ xs) = refl
    both-marks (t ∷ ts) (m ∷ ms) [] = refl
    both-marks (t ∷ ts) (m ∷ ms) (x ∷ xs) =
        ap (λ b. b ∷ zip_with (λ b x. b || test x) (map test (masked ts xs)) (masked ms xs)) (one_mark t m x)
        ∙ ap (λ bs. test (if (t || m) then x else []) ∷ bs) (both-marks ts ms xs)

-- ---- lengths

pub length-masked : (bs : List Bool) (ds : List Values) → length bs ≡ length ds → length (masked bs ds) ≡ length ds
length-masked [] [] same = refl
length-masked [] (d ∷ ds) same = absurd (omega (arith, same))
length-masked (b ∷ bs) [] same = absurd (omega (arith, same))
length-masked (b ∷ bs) (d ∷ ds) same = ap suc (length-masked bs ds (omega (arith, same)))

pub length-either : (ts ms : List Bool) → length ts ≡ length ms → length (zip_with (λ x y. x || y) ts ms) ≡ length ms
length-either [] [] same = refl
length-either [] (m ∷ ms) same = absurd (omega (arith, same))
length-either (t ∷ ts) [] same = absurd (omega (arith, same))
length-either (t ∷ ts) (m ∷ ms) same = ap suc (length-either ts ms (omega (arith, same)))

pub all_cons : {B : Type 0} (P : B → Type 0) (x : B) (xs : List B) → P x → All P xs → All P (x ∷ xs)
all_cons P x xs one rest zero d lt = one
all_cons P x xs one rest (suc k) d lt = rest k d (omega (arith, lt))

-- a place that is given is below a number
abbrev Below : ℕ → Option ℕ → Type 0
Below n o = IfSome o (λ p. p < n)

module _ {A : Type 0} where
  pub placed-long : (b : ℕ) (zs : List A) (ts ms : List Bool) (ds : List A) (to : List (Option ℕ)) → IsPlaced b zs ts ms ds to → (length ts ≡ length zs) × (length ms ≡ length zs)
  placed-long _ _ _ _ _ _ (nothing b) = (refl, refl)
  placed-long _ _ _ _ _ _ (dead b zs ts ms ds all to more d rest all_is more_is) = placed-long b zs ts ms ds to rest
  placed-long _ _ _ _ _ _ (other b zs ts ms ds to z t zs' ts' ms' rest zs_is ts_is ms_is) =
      let long = placed-long (b + 1) zs ts ms ds to rest in (ap length ts_is ∙ ap suc long.0 ∙ sym (ap length zs_is), ap length ms_is ∙ ap suc long.1 ∙ sym (ap length zs_is))
  placed-long _ _ _ _ _ _ (here b zs ts ms ds to z zs' ts' ms' ds' to' rest zs_is ts_is ms_is ds_is to_is) =
      let long = placed-long (b + 1) zs ts ms ds to rest in (ap length ts_is ∙ ap suc long.0 ∙ sym (ap length zs_is), ap length ms_is ∙ ap suc long.1 ∙ sym (ap length zs_is))

  pub placed-all : (b : ℕ) (zs : List A) (ts ms : List Bool) (ds : List A) (to : List (Option ℕ)) → IsPlaced b zs ts ms ds to → length ds ≡ length to
  placed-all _ _ _ _ _ _ (nothing b) = refl
  placed-all _ _ _ _ _ _ (dead b zs ts ms ds all to more d rest all_is more_is) = ap length all_is ∙ ap suc (placed-all b zs ts ms ds to rest) ∙ sym (ap length more_is)
  placed-all _ _ _ _ _ _ (other b zs ts ms ds to z t zs' ts' ms' rest zs_is ts_is ms_is) = placed-all (b + 1) zs ts ms ds to rest
  placed-all _ _ _ _ _ _ (here b zs ts ms ds to z zs' ts' ms' ds' to' rest zs_is ts_is ms_is ds_is to_is) = ap length ds_is ∙ ap suc (placed-all (b + 1) zs ts ms ds to rest) ∙ sym (ap length to_is)

  below-from : (b n : ℕ) (zs : List A) (ts ms : List Bool) (ds : List A) (to : List (Option ℕ)) → IsPlaced b zs ts ms ds to → b + length zs ≤ n → All (Below n) to
  below-from _ n _ _ _ _ _ (nothing b) le = λ k d lt. absurd (omega (arith, lt))
  below-from _ n _ _ _ _ _ (dead b zs ts ms ds all to more d rest all_is more_is) le = subst (All (Below n)) (sym more_is) (all_cons (Below n) None to tt (below-from b n zs ts ms ds to rest le))
  below-from _ n _ _ _ _ _ (other b zs ts ms ds to z t zs' ts' ms' rest zs_is ts_is ms_is) le = below-from (b + 1) n zs ts ms ds to rest (omega (arith, le, ap length zs_is))
  below-from _ n _ _ _ _ _ (here b zs ts ms ds to z zs' ts' ms' ds' to' rest zs_is ts_is ms_is ds_is to_is) le =
      subst (All (Below n)) (sym to_is) (all_cons (Below n) (Some b) to (omega (arith, le, ap length zs_is)) (below-from (b + 1) n zs ts ms ds to rest (omega (arith, le, ap length zs_is))))

  pub placed-below : (zs : List A) (ts ms : List Bool) (ds : List A) (to : List (Option ℕ)) → IsPlaced 0 zs ts ms ds to → All (λ (o : Option ℕ). IfSome o (λ p. p < length zs)) to
  placed-below zs ts ms ds to are = below-from 0 (length zs) zs ts ms ds to are (omega arith)

-- ---- documents without values

module _ {A : Type 0} (g : A → Values) (P : Values → Type 0) (none : P []) where
  all_tail : (x : Values) (xs : List Values) → All P (x ∷ xs) → All P xs
  all_tail x xs all k d lt = all (suc k) d (omega (arith, lt))

  abbrev AllHave : List A → List Bool → Type 0
  AllHave zs bs = All P (masked bs (map g zs))

  all-from : (b : ℕ) (zs : List A) (ts ms : List Bool) (ds : List A) (to : List (Option ℕ)) → IsPlaced b zs ts ms ds to → All P (map g ds) → AllHave zs ms
  all-from _ _ _ _ _ _ (nothing b) all = λ k d lt. absurd (omega (arith, lt))
  all-from _ _ _ _ _ _ (dead b zs ts ms ds before to more d rest all_is more_is) all =
      all-from b zs ts ms ds to rest (all_tail (g d) (map g ds) (subst (λ (xs : List A). All P (map g xs)) all_is all))
  all-from _ _ _ _ _ _ (other b zs ts ms ds to z t zs' ts' ms' rest zs_is ts_is ms_is) all =
      let core : AllHave (z ∷ zs) (false ∷ ms) = all_cons P [] (masked ms (map g zs)) none (all-from (b + 1) zs ts ms ds to rest all) in
      subst (λ (xs : List A). AllHave xs ms') (sym zs_is) (subst (λ (bs : List Bool). AllHave (z ∷ zs) bs) (sym ms_is) core)
  all-from _ _ _ _ _ _ (here b zs ts ms ds to z zs' ts' ms' ds' to' rest zs_is ts_is ms_is ds_is to_is) all =
      let those : All P (map g (z ∷ ds)) = subst (λ (xs : List A). All P (map g xs)) ds_is all in
      let core : AllHave (z ∷ zs) (true ∷ ms) = all_cons P (g z) (masked ms (map g zs)) (those 0 (g z) (omega arith)) (all-from (b + 1) zs ts ms ds to rest (all_tail (g z) (map g ds) those)) in
      subst (λ (xs : List A). AllHave xs ms') (sym zs_is) (subst (λ (bs : List Bool). AllHave (z ∷ zs) bs) (sym ms_is) core)

  -- what each document has, and none without values lacks
  pub all-moved : (zs : List A) (ts ms : List Bool) (ds : List A) (to : List (Option ℕ)) → IsPlaced 0 zs ts ms ds to → All P (map g ds) → AllHave zs ms
  all-moved zs ts ms ds to are all = all-from 0 zs ts ms ds to are all

  one_of : (t m : Bool) (d : Values) → P (if t then d else []) → P (if m then d else []) → P (if (t || m) then d else [])
  one_of true m d first later = first
  one_of false m d first later = later

  pub all-either : (ts ms : List Bool) (xs : List Values) → All P (masked ts xs) → All P (masked ms xs) → All P (masked (zip_with (λ x y. x || y) ts ms) xs)
  all-either [] ms xs first later = λ k d lt. absurd (omega (arith, lt))
  all-either (t ∷ ts) [] xs first later = λ k d lt. absurd (omega (arith, lt))
  all-either (t ∷ ts) (m ∷ ms) [] first later = λ k d lt. absurd (omega (arith, lt))
  all-either (t ∷ ts) (m ∷ ms) (x ∷ xs) first later =
      all_cons P (if (t || m) then x else []) (masked (zip_with (λ x y. x || y) ts ms) xs) (one_of t m x (first 0 x (omega arith)) (later 0 x (omega arith)))
      (all-either ts ms xs (all_tail (if t then x else []) (masked ts xs) first) (all_tail (if m then x else []) (masked ms xs) later))

-- ---- marks of documents that come among others

module _ {A : Type 0} (g : A → Values) (zs : List A) (ts ms : List Bool) (ds : List A) (to : List (Option ℕ)) (are : IsPlaced 0 zs ts ms ds to) where
  abbrev pub either : List Bool
  either = zip_with (λ x y. x || y) ts ms

  as_long : length (map g zs) ≡ length zs
  as_long = length-map zs g

  long-first : length (masked ts (map g zs)) ≡ length zs
  long-first = length-masked ts (map g zs) ((placed-long 0 zs ts ms ds to are).0 ∙ sym as_long) ∙ as_long

  long-later : length (masked ms (map g zs)) ≡ length zs
  long-later = length-masked ms (map g zs) ((placed-long 0 zs ts ms ds to are).1 ∙ sym as_long) ∙ as_long

  long-either : length (masked either (map g zs)) ≡ length zs
  long-either =
      let long = placed-long 0 zs ts ms ds to are in
      length-masked either (map g zs) (length-either ts ms (long.0 ∙ sym long.1) ∙ long.1 ∙ sym as_long) ∙ as_long

  module _ (test : Values → Bool) (none : test [] ≡ false) (n : ℕ) (all : n ≡ length zs) where
    is_mapped : (xs : List Values) → length xs ≡ length zs → marked (replicate n false) (places test xs) ≡ map test xs
    is_mapped xs long = ap (λ k. marked (replicate k false) (places test xs)) (all ∙ sym long) ∙ marked-none test xs

    pub woven-marks : (old new bs : List Bool) → old ≡ marked (replicate n false) (places test (masked ts (map g zs))) → bs ≡ map test (map g ds)
        → new ≡ marked old (moved_by to (places (λ (b : Bool). b) bs)) → new ≡ marked (replicate n false) (places test (masked either (map g zs)))
    woven-marks old new bs was those is =
        is
        ∙ ap (λ cs. marked old (moved_by to (places (λ (b : Bool). b) cs))) those
        ∙ ap (λ ps. marked old (moved_by to ps)) (places-map (λ (b : Bool). b) test (map g ds))
        ∙ ap (marked old) (moved-places test none g zs ts ms ds to are)
        ∙ ap (λ cs. marked cs (places test (masked ms (map g zs)))) (was ∙ is_mapped (masked ts (map g zs)) long-first)
        ∙ marked-zip test (map test (masked ts (map g zs))) (masked ms (map g zs)) (length-map (masked ts (map g zs)) test ∙ long-first ∙ sym long-later)
        ∙ both-marks test none g ts ms (map g zs)
        ∙ sym (is_mapped (masked either (map g zs)) long-either)

    pub woven-places : (old new ps : List ℕ) → old ≡ places test (masked ts (map g zs)) → ps ≡ places test (map g ds) → new ≡ risen old (moved_by to ps) → new ≡ places test (masked either (map g zs))
    woven-places old new ps was those is =
        is ∙ ap (λ qs. risen qs (moved_by to ps)) was
        ∙ ap (λ qs. risen (places test (masked ts (map g zs))) (moved_by to qs)) those
        ∙ ap (risen (places test (masked ts (map g zs)))) (moved-places test none g zs ts ms ds to are)
        ∙ risen-places test none g zs ts ms ds to are
