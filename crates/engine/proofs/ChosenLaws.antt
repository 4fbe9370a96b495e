-- Marked elements of a list.
use lib.Dec.{T}
use Rattle.std.proofs.Common.{Result, Ok, Err, IfOk, IfErr, take, ◌≡◌, ◌<◌, ℕ, ◌+◌, zero, suc, Bool, true, false, List, [], ◌∷◌, ◌++◌, length, map, filter, Some, refl, sym, ap, ◌∙◌, subst, arith, slice_get, append_assoc, get_or}
use Rattle.std.specs.Prelude.{◌&&◌, ◌||◌, if◌then◌else◌, replicate, slice_set, nat_lt}
use Rattle.std.specs.List.{AllByRecursion}
use Rattle.std.specs.List.Sorted.{IsNonDecreasingBy, IsPartitionPoint, IsSearchInRange, IsBinarySearchResult}
use Rattle.std.specs.declared.cmp.Ordering.TheVariants.{Less, Equal, Greater}
use Rattle.std.specs.Ordering.{is_lt, is_eq, ordering_index}
use Rattle.std.specs.Cmp.Lexicographic.{nat_list_cmp_total}
use Rattle.std.proofs.lemmas.Map.Lookups.{exact_bytes}
use Rattle.std.proofs.lemmas.List.Sorted.{searchable_from_sorted}
use Rattle.std.proofs.lemmas.List.Folds.{list_any_more}
use Rattle.std.proofs.lemmas.Bool.Decides.{nat_tests}
use Rattle.std.specs.FinMap.Entries.{is_sorted, below_all}
use Rattle.std.proofs.lemmas.List.{length_push}
use Rattle.marks.specs.Lists.{zip_with, places, places_from}
use Rattle.doc.specs.Id.{Id, id_cmp, is_id}
use Rattle.op.specs.Documents.{Documents}
use Rattle.segment.specs.Merged.{chosen}
use Rattle.engine.specs.Parts.{is_among}
use Rattle.engine.proofs.PartLaws.{Item, true_T, both, first, second, head_is, tail_is, less, turned}

slice_after : {A : Type 0} (front : List A) (x : A) (rest : List A) (n : ℕ) → n ≡ length front → slice_get (front ++ x ∷ rest) n ≡ Some x
slice_after [] x rest zero is = refl
slice_after [] x rest (suc n) is = absurd (omega (arith, is))
slice_after (y ∷ front) x rest zero is = absurd (omega (arith, is))
slice_after (y ∷ front) x rest (suc n) is = slice_after front x rest n (omega (arith, is))

module _ {A : Type 0} where
  one_chosen : (b : Bool) (n : ℕ) (x : A) (xs : List A) (ps : List ℕ) (all : List A) → slice_get all n ≡ Some x → map (slice_get all) ps ≡ map (λ y. Some y) xs
      → map (slice_get all) (if b then n ∷ ps else ps) ≡ map (λ y. Some y) (if b then x ∷ xs else xs)
  one_chosen true n x xs ps all here rest = ap (λ o. o ∷ map (slice_get all) ps) here ∙ ap (λ os. Some x ∷ os) rest
  one_chosen false n x xs ps all here rest = rest

  chosen_from : (front : List A) (n : ℕ) (xs : List A) (bs : List Bool) → n ≡ length front → length bs ≡ length xs → map (slice_get (front ++ xs)) (places_from (λ b. b) n bs) ≡ map (λ y. Some y) (chosen xs bs)
  chosen_from front n [] [] is long = refl
  chosen_from front n [] (b ∷ bs) is long = absurd (omega (arith, long))
  chosen_from front n (x ∷ xs) [] is long = absurd (omega (arith, long))
  chosen_from front n (x ∷ xs) (b ∷ bs) is long =
      one_chosen b n x (chosen xs bs) (places_from (λ b. b) (n + 1) bs) (front ++ x ∷ xs) (slice_after front x xs n is)
      (subst (λ (all : List A). map (slice_get all) (places_from (λ b. b) (n + 1) bs) ≡ map (λ y. Some y) (chosen xs bs)) (append_assoc front (x ∷ []) xs)
      (chosen_from (front ++ x ∷ []) (n + 1) xs bs (ap (λ k. k + 1) is ∙ sym (length_push front x)) (omega (arith, long))))

  -- the elements at the places that are marked
  pub chosen-places : (xs : List A) (bs : List Bool) → length bs ≡ length xs → map (slice_get xs) (places (λ b. b) bs) ≡ map (λ y. Some y) (chosen xs bs)
  chosen-places xs bs long = chosen_from [] 0 xs bs refl long

  one_counted : (b : Bool) (n : ℕ) (x : A) (ps : List ℕ) (ys : List A) → length ps ≡ length ys → length (if b then n ∷ ps else ps) ≡ length (if b then x ∷ ys else ys)
  one_counted true n x ps ys is = ap suc is
  one_counted false n x ps ys is = is

  counted_from : (n : ℕ) (xs : List A) (bs : List Bool) → length bs ≡ length xs → length (places_from (λ b. b) n bs) ≡ length (chosen xs bs)
  counted_from n [] [] long = refl
  counted_from n [] (b ∷ bs) long = absurd (omega (arith, long))
  counted_from n (x ∷ xs) [] long = absurd (omega (arith, long))
  counted_from n (x ∷ xs) (b ∷ bs) long = one_counted b n x _ _ (counted_from (n + 1) xs bs (omega (arith, long)))

  -- there are as many
  pub chosen-counted : (xs : List A) (bs : List Bool) → length bs ≡ length xs → length (places (λ b. b) bs) ≡ length (chosen xs bs)
  chosen-counted xs bs long = counted_from 0 xs bs long

  pub chosen-all : (xs : List A) → chosen xs (replicate (length xs) true) ≡ xs
  chosen-all [] = refl
  chosen-all (x ∷ xs) = ap (λ ys. x ∷ ys) (chosen-all xs)

  -- a further test on what is marked
  module _ {B : Type 0} (f : A → B) (g : B → Bool) where
    one_more : (l : Bool) (x : A) (ys zs : List A) (b : Bool) → ys ≡ filter (λ x. g (f x)) zs → g (f x) ≡ b → (if l && b then x ∷ ys else ys) ≡ filter (λ x. g (f x)) (if l then x ∷ zs else zs)
    one_more true x ys zs b is test = ap (λ ws. if b then x ∷ ws else ws) is ∙ ap (λ c. if c then x ∷ filter (λ x. g (f x)) zs else filter (λ x. g (f x)) zs) (sym test)
    one_more false x ys zs b is test = is

    pub chosen-filter : (xs : List A) (bs : List Bool) → length bs ≡ length xs → chosen xs (zip_with (λ l y. l && g y) bs (map f xs)) ≡ filter (λ x. g (f x)) (chosen xs bs)
    chosen-filter [] [] long = refl
    chosen-filter [] (b ∷ bs) long = absurd (omega (arith, long))
    chosen-filter (x ∷ xs) [] long = absurd (omega (arith, long))
    chosen-filter (x ∷ xs) (b ∷ bs) long = one_more b x _ (chosen xs bs) (g (f x)) (chosen-filter xs bs (omega (arith, long))) refl

-- the marks of another, taken over
pub copied : (bs : List Bool) → zip_with (λ a b. a || b) (replicate (length bs) false) bs ≡ bs
copied [] = refl
copied (b ∷ bs) = ap (λ cs. b ∷ cs) (copied bs)

-- ---- documents in order

below_chosen : (x : Id) (es : Documents) (bs : List Bool) → T (below_all id_cmp x es) → T (below_all id_cmp x (chosen es bs))
below_chosen x [] bs h = tt
below_chosen x (e ∷ es) [] h = tt
below_chosen x (e ∷ es) (true ∷ bs) h = both _ _ (first _ _ h) (below_chosen x es bs (second _ _ h))
below_chosen x (e ∷ es) (false ∷ bs) h = below_chosen x es bs (second _ _ h)

pub in_order-chosen : (es : Documents) (bs : List Bool) → T (is_sorted id_cmp es) → T (is_sorted id_cmp (chosen es bs))
in_order-chosen [] bs h = tt
in_order-chosen (e ∷ es) [] h = tt
in_order-chosen (e ∷ es) (true ∷ bs) h = both _ _ (below_chosen e.0 es bs (first _ _ h)) (in_order-chosen es bs (second _ _ h))
in_order-chosen (e ∷ es) (false ∷ bs) h = in_order-chosen es bs (second _ _ h)

-- ---- the place of an id

or_false : (a b : Bool) → b ≡ false → a ≡ (a || b)
or_false true b is = refl
or_false false b is = sym is

or_true : (a b : Bool) → b ≡ true → true ≡ (a || b)
or_true true b is = refl
or_true false b is = sym is

module _ {A : Type 0} (view : A → Item) (id : Id) where
  abbrev pub NoneIs : List A → Type 0
  NoneIs xs = AllByRecursion (λ x. is_id (view x).0 id ≡ false) xs

  module _ (t : Item → Bool) where
    -- the documents that pass, or have the id
    abbrev pub or_is : Item → Bool
    or_is d = t d || is_id d.0 id

    pub none_is : (xs : List A) → NoneIs xs → map t (map view xs) ≡ map or_is (map view xs)
    none_is [] all = refl
    none_is (x ∷ xs) all = ap (λ b. b ∷ map t (map view xs)) (or_false (t (view x)) (is_id (view x).0 id) all.0) ∙ ap (λ bs. or_is (view x) ∷ bs) (none_is xs all.1)

  above_is : (i : Id) (xs : List A) → T (below_all id_cmp i (map view xs)) → id_cmp i id ≡ Equal → NoneIs xs
  above_is i [] h same = tt
  above_is i (x ∷ xs) h same = (ap is_eq (ap (id_cmp (view x).0) (sym (exact_bytes i id same)) ∙ turned i (view x).0 (first _ _ h)), above_is i xs (second _ _ h) same)

  at_below : (i : Id) (xs : List A) (k : ℕ) (d : A) → T (below_all id_cmp i (map view xs)) → k < length xs → T (is_lt (id_cmp i (view (get_or xs k d)).0))
  at_below i [] k d h lt = absurd (omega (arith, lt))
  at_below i (x ∷ xs) zero d h lt = first _ _ h
  at_below i (x ∷ xs) (suc k) d h lt = at_below i xs k d (second _ _ h) (omega (arith, lt))

  -- the place of the id is set
  pub set_at : (t : Item → Bool) (xs : List A) (k : ℕ) → T (is_sorted id_cmp (map view xs)) → k < length xs → ((d : A) → id_cmp (view (get_or xs k d)).0 id ≡ Equal) → slice_set (map t (map view xs)) k true ≡ map (or_is t) (map view xs)
  set_at t [] k h lt same = absurd (omega (arith, lt))
  set_at t (x ∷ xs) zero h lt same =
      ap (λ b. b ∷ map t (map view xs)) (or_true (t (view x)) (is_id (view x).0 id) (ap is_eq (same x)))
      ∙ ap (λ bs. or_is t (view x) ∷ bs) (none_is t xs (above_is (view x).0 xs (first _ _ h) (same x)))
  set_at t (x ∷ xs) (suc k) h lt same =
      let lower : id_cmp (view x).0 id ≡ Less = ap (id_cmp (view x).0) (sym (exact_bytes (view (get_or xs k x)).0 id (same x))) ∙ less _ (at_below (view x).0 xs k x (first _ _ h) (omega (arith, lt))) in
      ap (λ b. b ∷ slice_set (map t (map view xs)) k true) (or_false (t (view x)) (is_id (view x).0 id) (ap is_eq lower))
      ∙ ap (λ bs. or_is t (view x) ∷ bs) (set_at t xs k (second _ _ h) (omega (arith, lt)) same)

  adjacent : (xs : List A) (k m : ℕ) (d : A) → T (is_sorted id_cmp (map view xs)) → m ≡ suc k → m < length xs → is_lt (id_cmp (view (get_or xs m d)).0 (view (get_or xs k d)).0) ≡ false
  adjacent [] k m d h is lt = absurd (omega (arith, lt))
  adjacent (x ∷ xs) k zero d h is lt = absurd (omega (arith, is))
  adjacent (x ∷ xs) zero (suc m) d h is lt = ap is_lt (turned (view x).0 (view (get_or xs m d)).0 (at_below (view x).0 xs m d (first _ _ h) (omega (arith, lt))))
  adjacent (x ∷ xs) (suc k) (suc m) d h is lt = adjacent xs k m d (second _ _ h) (omega (arith, is)) (omega (arith, lt))

  rise : (xs : List A) → T (is_sorted id_cmp (map view xs)) → IsNonDecreasingBy (λ x. ordering_index (id_cmp (view x).0 id)) xs
  rise xs h = searchable_from_sorted nat_list_cmp_total (λ (x : A). (view x).0) xs id (λ k d low lt. adjacent xs k (k + 1) d h (omega arith) lt)

  each_not : (xs : List A) → ((k : ℕ) (d : A) → k < length xs → is_id (view (get_or xs k d)).0 id ≡ false) → NoneIs xs
  each_not [] h = tt
  each_not (x ∷ xs) h = (h 0 x (omega arith), each_not xs (λ k d lt. h (suc k) d (omega (arith, lt))))

  parted : (xs : List A) (i : ℕ) → IsPartitionPoint (λ x. id_cmp (view x).0 id ≡ Less) (λ x. id_cmp (view x).0 id ≡ Greater) xs i → NoneIs xs
  parted xs i point = each_not xs (λ k d lt. elim (nat_lt k i) as (λ b. nat_lt k i ≡ b → is_id (view (get_or xs k d)).0 id ≡ false) [
    | true ↦ λ b. ap is_eq (point.0 k d (omega arith) (grind (arith, nat_tests)))
    | false ↦ λ b. ap is_eq (point.1 k d (grind (arith, nat_tests)) lt)
  ] refl)

  pub record Searched (xs : List A) (r : Result ℕ ℕ) : Type 0 where
    pub within : IfOk r (λ at. at < length xs)
    pub found : IfOk r (λ at. (d : A) → id_cmp (view (get_or xs at d)).0 id ≡ Equal)
    pub absent : IfErr r (λ _. NoneIs xs)

  -- a binary search ends at the id, or no document has it
  pub searched : (xs : List A) → is_sorted id_cmp (map view xs) ≡ true → (r : Result ℕ ℕ) → IsSearchInRange r (length xs) → IsBinarySearchResult (λ x. id_cmp (view x).0 id) xs r → Searched xs r
  searched xs h (Ok at) in_range equal = record { within = in_range; found = equal; absent = tt }
  searched xs h (Err at) in_range point = record { within = tt; found = tt; absent = parted xs at (point (rise xs (true_T _ h))) }

-- one mark more for each id
pub among-more : (ids : List Id) (i : ℕ) (d : Id) (k : Id) → i < length ids → (is_among (take i ids) k || is_id k (get_or ids i d)) ≡ is_among (take (i + 1) ids) k
among-more ids i d k lt = sym (list_any_more (is_id k) ids i d lt)

pub marks-more : (ids : List Id) (i : ℕ) (id : Id) → i < length ids → id ≡ get_or ids i id → (ds : Documents) → map (λ (d : Item). is_among (take i ids) d.0 || is_id d.0 id) ds ≡ map (λ (d : Item). is_among (take (i + 1) ids) d.0) ds
marks-more ids i id lt is [] = refl
marks-more ids i id lt is (d ∷ ds) =
    ap (λ b. b ∷ map (λ (d : Item). is_among (take i ids) d.0 || is_id d.0 id) ds) (ap (λ (x : Id). is_among (take i ids) d.0 || is_id d.0 x) is ∙ among-more ids i id d.0 lt)
    ∙ ap (λ bs. is_among (take (i + 1) ids) d.0 ∷ bs) (marks-more ids i id lt is ds)

-- lists that are the same have the same at each place
pub same-at : {A B : Type 0} (f : A → B) (xs ys : List A) (i : ℕ) (x y : A) → i < length xs → i < length ys → x ≡ get_or xs i x → y ≡ get_or ys i y → map f xs ≡ map f ys → f x ≡ f y
same-at f [] ys i x y lt ly is iy same = absurd (omega (arith, lt))
same-at f (a ∷ xs) [] i x y lt ly is iy same = absurd (omega (arith, ly))
same-at f (a ∷ xs) (b ∷ ys) zero x y lt ly is iy same = ap f is ∙ head_is (f a) (f b) (map f xs) (map f ys) same ∙ ap f (sym iy)
same-at f (a ∷ xs) (b ∷ ys) (suc i) x y lt ly is iy same = same-at f xs ys i x y (omega (arith, lt)) (omega (arith, ly)) is iy (tail_is (f a) (f b) (map f xs) (map f ys) same)
