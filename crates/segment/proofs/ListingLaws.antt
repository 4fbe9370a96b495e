-- Keys with their places, listed.
use Rattle.std.proofs.Common.{◌≡◌, ◌+◌, ◌<◌, ℕ, Bool, true, false, not, ◌&&◌, List, [], ◌∷◌, ◌++◌, length, get_or, refl, sym, ap, ◌∙◌, subst, arith, cond, if◌then◌else◌, append_assoc, append-nil, Some, String, string_bytes, Global, BTreeMap}
use Rattle.std.specs.BTreeMap as tree
use Rattle.std.specs.BTreeMap.{is_at, IsOrdered}
use Rattle.std.specs.Cmp.{IsTotalOrder, IsEquivalence}
use Rattle.std.specs.Cmp.Lexicographic.{slice_cmp, bytes_decides}
use Rattle.std.specs.List.{filter, flat_map, AllByRecursion, IsDistinct, dedup, dedup_from}
use Rattle.std.specs.List.Sorted.{IsSorted, IsSortedByKey, IsStableByKey, IsStrictlySortedBy}
use Rattle.std.specs.Map.{keys_of, lookup}
use Rattle.std.specs.Option.{option_map_or}
use Rattle.std.specs.Ordering.{is_eq, is_lt, nat_cmp, eq_by_cmp, ordering_reverse}
use Rattle.std.specs.declared.cmp.Ordering.{Ordering}
use Rattle.std.specs.declared.cmp.Ordering.TheVariants.{Less, Equal, Greater}
use Rattle.std.specs.Str.{bytes_eq}
use Rattle.std.specs.String.{string_eq, string_cmp, string_cmp_total, string_eq_equiv}
use Rattle.std.proofs.lemmas.Cmp.{eq_by_cmp_equiv, alike_right}
use Rattle.std.proofs.lemmas.List.{get_or-map, length-map}
use Rattle.std.proofs.lemmas.List.Elements.{filter_agree}
use Rattle.std.proofs.lemmas.List.Kept.{IsStrictlySortedBy-dedup}
use Rattle.std.proofs.lemmas.Map.Keys.{IsDistinct-from_sorted, IsDistinct-head, IsDistinct-tail}
use Rattle.std.proofs.lemmas.Map.Made.{update_all_none}
use Rattle.std.proofs.lemmas.Map.Text.{is_eq-slice_cmp}
use Rattle.segment.specs.Places.{as_list, places_at, places_listed}
use Rattle.segment.specs.declared.places.Places.{Places}
use Rattle.segment.specs.declared.places.Places.TheVariants.{One}

-- ---- lists of pairs

module _ {K : Type 0} where
  pub listed-append : (p : K → Bool) (xs ys : List (K × Places)) → places_listed p (xs ++ ys) ≡ places_listed p xs ++ places_listed p ys
  listed-append p [] ys = refl
  listed-append p (x ∷ xs) ys = ap (λ ps. (if p x.0 then as_list x.1 else []) ++ ps) (listed-append p xs ys) ∙ sym (append_assoc (if p x.0 then as_list x.1 else []) (places_listed p xs) (places_listed p ys))

  -- tests that agree
  pub listed-agree : (p q : K → Bool) → ((k : K) → p k ≡ q k) → (es : List (K × Places)) → places_listed p es ≡ places_listed q es
  listed-agree p q same [] = refl
  listed-agree p q same (e ∷ es) = ap (λ b. (if b then as_list e.1 else []) ++ places_listed p es) (same e.0) ∙ ap (λ ps. (if q e.0 then as_list e.1 else []) ++ ps) (listed-agree p q same es)

  listed_filtered : (p : K → Bool) (es : List (K × Places)) → places_listed p es ≡ flat_map (λ e. as_list e.1) (filter (λ e. p e.0) es)
  listed_filtered p [] = refl
  listed_filtered p (e ∷ es) = by_test (p e.0) (listed_filtered p es)
    where
      by_test : (b : Bool) → places_listed p es ≡ flat_map (λ e. as_list e.1) (filter (λ e. p e.0) es)
          → (if b then as_list e.1 else []) ++ places_listed p es ≡ flat_map (λ e. as_list e.1) (cond b (e ∷ filter (λ e. p e.0) es) (filter (λ e. p e.0) es))
      by_test true rest = ap (λ ps. as_list e.1 ++ ps) rest
      by_test false rest = rest

-- ---- pairs in order

pub tied : (a b : Ordering) → b ≡ ordering_reverse a → (not (is_lt a) && not (is_lt b)) ≡ is_eq a
tied Less b is = refl
tied Equal b is = ap (λ o. not (is_lt o)) is
tied Greater b is = ap (λ o. not (is_lt o)) is

module _ {K : Type 0} {cmp : K → K → Ordering} (order : IsTotalOrder cmp) where
  -- a stable sort leaves the places of a key as they are
  pub listed-stable : (xs ys : List (K × Places)) → IsStableByKey (λ e. e.0) cmp xs ys → (q : K) → places_listed (is_at (cmp q)) ys ≡ places_listed (is_at (cmp q)) xs
  listed-stable xs ys stable q =
      let ties = λ (e : K × Places). not (is_lt (cmp q e.0)) && not (is_lt (cmp e.0 q)) in
      let same : (e : K × Places) → ties e ≡ is_at (cmp q) e.0 = λ e. tied (cmp q e.0) (cmp e.0 q) (order.antisymm e.0 q) in
      let here : (es : List (K × Places)) → places_listed (is_at (cmp q)) es ≡ flat_map (λ e. as_list e.1) (filter ties es) =
      λ es. listed_filtered (is_at (cmp q)) es ∙ ap (flat_map (λ (e : K × Places). as_list e.1)) (sym (filter_agree ties (λ e. is_at (cmp q) e.0) same es)) in
      here ys ∙ ap (flat_map (λ (e : K × Places). as_list e.1)) (stable (q, One 0)) ∙ sym (here xs)

  sorted_keys : (es : List (K × Places)) → IsSortedByKey (λ e. e.0) cmp es → IsSorted cmp (keys_of es)
  sorted_keys es sorted k d least within =
      let few : k + 1 < length es = omega (arith, within, length-map es (λ (e : K × Places). e.0)) in
      let first : get_or (keys_of es) k d ≡ (get_or es k (d, One 0)).0 = get_or-map (λ (e : K × Places). e.0) es k (d, One 0) d (omega arith) in
      let second : get_or (keys_of es) (k + 1) d ≡ (get_or es (k + 1) (d, One 0)).0 = get_or-map (λ (e : K × Places). e.0) es (k + 1) (d, One 0) d few in
      ap (λ x. is_lt (cmp x (get_or (keys_of es) k d))) second ∙ ap (λ x. is_lt (cmp (get_or es (k + 1) (d, One 0)).0 x)) first ∙ sorted k (d, One 0) least few

  -- keys in order, each kept once
  pub once-ordered : (eq : K → K → Bool) → ((x y : K) → eq x y ≡ eq_by_cmp cmp x y) → (es fs : List (K × Places)) → IsSortedByKey (λ e. e.0) cmp es → keys_of fs ≡ dedup eq (keys_of es) → IsStrictlySortedBy cmp (keys_of fs)
  once-ordered eq same es fs sorted is = subst (IsStrictlySortedBy cmp) (sym is) (IsStrictlySortedBy-dedup order same (keys_of es) (sorted_keys es sorted))

-- ---- pairs put together

module _ {K : Type 0} (eq : K → K → Bool) (closed : List (K × Places)) (last pair : K × Places) where
  -- the places of a pair of the same key go to the last one
  pub added-same : (p : K → Bool) (new : K × Places) → p pair.0 ≡ p last.0 → new.0 ≡ last.0 → as_list new.1 ≡ as_list last.1 ++ as_list pair.1
      → places_listed p (closed ++ new ∷ []) ≡ places_listed p (closed ++ last ∷ pair ∷ [])
  added-same p new alike key is =
      listed-append p closed (new ∷ [])
      ∙ ap (λ ps. places_listed p closed ++ ps)
      (ap (λ k. (if p k then as_list new.1 else []) ++ []) key ∙ by_test (p last.0) ∙ ap (λ b. (if p last.0 then as_list last.1 else []) ++ ((if b then as_list pair.1 else []) ++ [])) (sym alike))
      ∙ sym (listed-append p closed (last ∷ pair ∷ []))
    where
      by_test : (b : Bool) → (if b then as_list new.1 else []) ++ [] ≡ (if b then as_list last.1 else []) ++ ((if b then as_list pair.1 else []) ++ [])
      by_test true = append-nil (as_list new.1) ∙ is ∙ ap (λ ps. as_list last.1 ++ ps) (sym (append-nil (as_list pair.1)))
      by_test false = refl

  pub once-same : (k : K) (ks : List K) → eq pair.0 last.0 ≡ true → k ≡ last.0 → keys_of closed ++ dedup_from eq k ks ≡ keys_of closed ++ dedup_from eq last.0 (pair.0 ∷ ks)
  once-same k ks same key = ap (λ j. keys_of closed ++ dedup_from eq j ks) key ∙ ap (λ b. keys_of closed ++ cond b (dedup_from eq last.0 ks) (last.0 ∷ dedup_from eq pair.0 ks)) (sym same)

  pub once-other : (ks : List K) → eq pair.0 last.0 ≡ false → keys_of (closed ++ last ∷ []) ++ dedup_from eq pair.0 ks ≡ keys_of closed ++ dedup_from eq last.0 (pair.0 ∷ ks)
  once-other ks other =
      keys-push closed ∙ ap (λ b. keys_of closed ++ cond b (dedup_from eq last.0 ks) (last.0 ∷ dedup_from eq pair.0 ks)) (sym other)
    where
      keys-push : (es : List (K × Places)) → keys_of (es ++ last ∷ []) ++ dedup_from eq pair.0 ks ≡ keys_of es ++ last.0 ∷ dedup_from eq pair.0 ks
      keys-push [] = refl
      keys-push (e ∷ es) = ap (λ js. e.0 ∷ js) (keys-push es)

pub equal : (o : Ordering) → is_eq o ≡ true → o ≡ Equal
equal Less is = absurd cc
equal Equal is = refl
equal Greater is = absurd cc

-- keys that compare alike pass alike
pub same-key : {K : Type 0} {cmp : K → K → Ordering} → IsTotalOrder cmp → (q j k : K) → eq_by_cmp cmp j k ≡ true → is_at (cmp q) j ≡ is_at (cmp q) k
same-key {cmp = cmp} order q j k is = ap is_eq (alike_right order j k q (equal (cmp j k) is))

-- one pair more of those that are left
pub pair-more : {K : Type 0} (p : K → Bool) (closed closed' : List (K × Places)) (last last' pair : K × Places) (left all : List (K × Places))
    → places_listed p (closed' ++ last' ∷ []) ≡ places_listed p (closed ++ last ∷ pair ∷ []) → places_listed p (closed ++ last ∷ pair ∷ left) ≡ places_listed p all
    → places_listed p (closed' ++ last' ∷ left) ≡ places_listed p all
pair-more p closed closed' last last' pair left all step before =
    ap (places_listed p) (sym (append_assoc closed' (last' ∷ []) left)) ∙ listed-append p (closed' ++ last' ∷ []) left ∙ ap (λ ps. ps ++ places_listed p left) step
    ∙ sym (listed-append p (closed ++ last ∷ pair ∷ []) left) ∙ ap (places_listed p) (append_assoc closed (last ∷ pair ∷ []) left) ∙ before

-- ---- how many keys there are

module _ {K : Type 0} (eq : K → K → Bool) where
  kept-few : (k : K) (ks : List K) → length (dedup_from eq k ks) < length ks + 2
  kept-few k [] = omega arith
  kept-few k (j ∷ ks) = by_test (eq j k) (kept-few k ks) (kept-few j ks)
    where
      by_test : (b : Bool) → length (dedup_from eq k ks) < length ks + 2 → length (dedup_from eq j ks) < length ks + 2
          → length (cond b (dedup_from eq k ks) (k ∷ dedup_from eq j ks)) < length (j ∷ ks) + 2
      by_test true here there = omega (arith, here)
      by_test false here there = omega (arith, there)

  pub distinct-few : (ks : List K) → length (dedup eq ks) < length ks + 1
  distinct-few [] = omega arith
  distinct-few (k ∷ ks) = omega (arith, kept-few k ks)

  kept-whole : (k : K) (ks : List K) → length (dedup_from eq k ks) ≡ length ks + 1 → dedup_from eq k ks ≡ k ∷ ks
  kept-whole k [] all = refl
  kept-whole k (j ∷ ks) all = by_test (eq j k) (kept-few k ks) (kept-whole j ks) all
    where
      by_test : (b : Bool) → length (dedup_from eq k ks) < length ks + 2 → (length (dedup_from eq j ks) ≡ length ks + 1 → dedup_from eq j ks ≡ j ∷ ks)
          → length (cond b (dedup_from eq k ks) (k ∷ dedup_from eq j ks)) ≡ length (j ∷ ks) + 1 → cond b (dedup_from eq k ks) (k ∷ dedup_from eq j ks) ≡ k ∷ j ∷ ks
      by_test true few rest all = absurd (omega (arith, few, all))
      by_test false few rest all = ap (λ js. k ∷ js) (rest (omega (arith, all)))

  -- where no key is left out all stay as they are
  pub distinct-whole : (ks : List K) → length (dedup eq ks) ≡ length ks → dedup eq ks ≡ ks
  distinct-whole [] all = refl
  distinct-whole (k ∷ ks) all = kept-whole k ks (omega (arith, all))

-- ---- keys that stand once

module _ {K : Type 0} {eq : K → K → Bool} (laws : IsEquivalence eq) (test : K → Bool) (one : (x y : K) → test x ≡ true → test y ≡ eq x y) where
  apart : (k : K) (es : List (K × Places)) → test k ≡ true → AllByRecursion (λ y. eq k y ≡ false) (keys_of es) → places_listed test es ≡ []
  apart k [] is others = refl
  apart k (e ∷ es) is others = ap (λ b. (if b then as_list e.1 else []) ++ places_listed test es) (one k e.0 is ∙ others.0) ∙ apart k es is others.1

  -- the places of a key are those of its pair
  pub listed-once : (es : List (K × Places)) → IsDistinct eq (keys_of es) → places_listed test es ≡ option_map_or as_list (lookup test es) []
  listed-once [] once = refl
  listed-once (e ∷ es) once = by_test (listed-once es (IsDistinct-tail eq e.0 (keys_of es) once)) (test e.0) refl
    where
      by_test : places_listed test es ≡ option_map_or as_list (lookup test es) [] → (b : Bool) → test e.0 ≡ b
          → (if b then as_list e.1 else []) ++ places_listed test es ≡ option_map_or as_list (cond b (Some e.1) (lookup test es)) []
      by_test rest true is = ap (λ ps. as_list e.1 ++ ps) (apart e.0 es is (IsDistinct-head eq e.0 (keys_of es) once)) ∙ append-nil (as_list e.1)
      by_test rest false is = rest

module _ {K : Type 0} {cmp : K → K → Ordering} (order : IsTotalOrder cmp) where
  by_key : (q x y : K) → is_at (cmp q) x ≡ true → is_at (cmp q) y ≡ eq_by_cmp cmp x y
  by_key q x y is = (eq_by_cmp_equiv order).congr q x y is

  -- the same of keys in order
  pub listed-ordered : (es : List (K × Places)) → IsStrictlySortedBy cmp (keys_of es) → (q : K) → places_listed (is_at (cmp q)) es ≡ option_map_or as_list (lookup (is_at (cmp q)) es) []
  listed-ordered es ordered q = listed-once (eq_by_cmp_equiv order) (is_at (cmp q)) (by_key q) es (IsDistinct-from_sorted cmp (keys_of es) ordered)

  -- a map that is made of keys in order has their places
  pub listed-made : (es : List (K × Places)) (m : BTreeMap K Places) → IsStrictlySortedBy cmp (keys_of es) → tree.IsFromIterResult cmp es m → (q : K) → places_listed (is_at (cmp q)) m.entries ≡ places_listed (is_at (cmp q)) es
  listed-made es m ordered made q =
      listed-ordered m.entries made.1 q
      ∙ ap (λ o. option_map_or as_list o []) (made.0 q ∙ update_all_none (eq_by_cmp_equiv order) (eq_by_cmp cmp) (λ x y. refl) es q (IsDistinct-from_sorted cmp (keys_of es) ordered))
      ∙ sym (listed-ordered es ordered q)

-- ---- texts

-- a place has a key
a_key : {K : Type 0} (test : K → Bool) (es : List (K × Places)) (p : ℕ) (ps : List ℕ) → places_listed test es ≡ p ∷ ps → (k : K) × (test k ≡ true)
a_key test [] p ps is = absurd cc
a_key {K} test (e ∷ es) p ps is = by_test (a_key test es p ps) (test e.0) refl is
  where
    by_test : (places_listed test es ≡ p ∷ ps → (k : K) × (test k ≡ true)) → (b : Bool) → test e.0 ≡ b → (if b then as_list e.1 else []) ++ places_listed test es ≡ p ∷ ps → (k : K) × (test k ≡ true)
    by_test rest true passes is = (e.0, passes)
    by_test rest false fails is = rest is

by_places : (xs ys : List ℕ) → ((p : ℕ) (ps : List ℕ) → xs ≡ p ∷ ps → xs ≡ ys) → ((p : ℕ) (ps : List ℕ) → ys ≡ p ∷ ps → xs ≡ ys) → xs ≡ ys
by_places (x ∷ xs) ys here there = here x xs refl
by_places [] (y ∷ ys) here there = there y ys refl
by_places [] [] here there = refl

abbrev pub has_bytes : List ℕ → String Global → Bool
has_bytes w k = bytes_eq w (string_bytes k)

-- the same places of each key are the same places of each text
pub listed-texts : (es fs : List (String Global × Places)) → ((q : String Global) → places_listed (is_at (string_cmp q)) es ≡ places_listed (is_at (string_cmp q)) fs) → (w : List ℕ) → places_listed (has_bytes w) es ≡ places_listed (has_bytes w) fs
listed-texts es fs same w = by_places _ _
    (λ p ps is. let r = a_key (has_bytes w) es p ps is in at_key r.0 ((bytes_decides w (string_bytes r.0)).0 r.1))
    (λ p ps is. let r = a_key (has_bytes w) fs p ps is in at_key r.0 ((bytes_decides w (string_bytes r.0)).0 r.1))
  where
    by_bytes : (q : String Global) (gs : List (String Global × Places)) → places_listed (is_at (string_cmp q)) gs ≡ places_listed (has_bytes (string_bytes q)) gs
    by_bytes q gs = listed-agree (is_at (string_cmp q)) (has_bytes (string_bytes q)) (λ k. is_eq-slice_cmp (string_bytes q) (string_bytes k)) gs

    at_key : (q : String Global) → w ≡ string_bytes q → places_listed (has_bytes w) es ≡ places_listed (has_bytes w) fs
    at_key q is = subst (λ v. places_listed (has_bytes v) es ≡ places_listed (has_bytes v) fs) (sym is) (sym (by_bytes q es) ∙ same q ∙ by_bytes q fs)

one_text : (w : List ℕ) (x y : String Global) → has_bytes w x ≡ true → has_bytes w y ≡ string_eq x y
one_text w x y is = ap (λ v. bytes_eq v (string_bytes y)) ((bytes_decides w (string_bytes x)).0 is)

-- the texts of a table
pub listed-table : (es : List (String Global × Places)) → IsDistinct string_eq (keys_of es) → (w : List ℕ) → places_listed (has_bytes w) es ≡ option_map_or as_list (lookup (has_bytes w) es) []
listed-table es once w = listed-once string_eq_equiv (has_bytes w) (one_text w) es once

one_key : (w : List ℕ) (x y : String Global) → is_eq (slice_cmp nat_cmp w (string_bytes x)) ≡ true → is_eq (slice_cmp nat_cmp w (string_bytes y)) ≡ eq_by_cmp string_cmp x y
one_key w x y is = ap (λ v. is_eq (slice_cmp nat_cmp v (string_bytes y))) ((bytes_decides w (string_bytes x)).0 (sym (is_eq-slice_cmp w (string_bytes x)) ∙ is))

-- the texts of a map in order
pub listed-tree : (m : BTreeMap (String Global) Places) → IsOrdered string_cmp m → (w : List ℕ) → places_listed (has_bytes w) m.entries ≡ places_at m w
listed-tree m ordered w =
    listed-agree (has_bytes w) (λ k. is_eq (slice_cmp nat_cmp w (string_bytes k))) (λ k. sym (is_eq-slice_cmp w (string_bytes k))) m.entries
    ∙ listed-once (eq_by_cmp_equiv string_cmp_total) (λ k. is_eq (slice_cmp nat_cmp w (string_bytes k))) (one_key w) m.entries (IsDistinct-from_sorted string_cmp (keys_of m.entries) ordered)
