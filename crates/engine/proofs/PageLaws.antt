-- The documents before an id, and the page behind them.
use denote.Ref.{Bor}
use lib.Dec.{T}
use Rattle.std.proofs.Common.{◌≡◌, ◌<◌, ◌≤◌, ℕ, ◌+◌, ◌-◌, zero, suc, Bool, true, false, cond, List, [], ◌∷◌, ◌++◌, Option, Some, Result, Ok, Err, IfOk, Vec, Global, min, length, take, drop, get_or, map, filter, refl, sym, ap, ◌∙◌, subst, arith, true≢false}
use Rattle.std.specs.Prelude.{is_some, not}
use Rattle.std.specs.List.{AllByRecursion}
use Rattle.std.specs.Ordering.{is_lt}
use Rattle.std.specs.Cmp.Lexicographic.{nat_list_cmp_total}
use Rattle.std.specs.FinMap.Entries.{is_sorted, below_all}
use Rattle.std.proofs.lemmas.List.{length-map, take-take, take-map, drop-map, take_min, get_or-map, length-drop}
use Rattle.std.proofs.lemmas.List.Sums.{fold_more, sum_by_more}
use Rattle.doc.specs.Id.{Id, id_cmp, is_id}
use Rattle.op.specs.Documents.{Document, Documents, document_at}
use Rattle.engine.specs.Before.{first_of_each, is_before, is_behind, rank}
use Rattle.engine.specs.Shown.{seen, seen_all, shown_view}
use Rattle.engine.specs.declared.read.block.Shown.{Shown}
use Rattle.engine.specs.Parts.{has_id, merged, times, woven, AllInOrder, AreApart}
use Rattle.engine.proofs.PartLaws.{Item, drop-take, first, in_order-filter, in_order-take, less, second, take-merged, true_T, T_true}
use Rattle.engine.proofs.ApartLaws.{all_at, all_take, filtered_some, counted-more, in_order-woven, limited-more}

-- ---- before an id, in one list

module _ (id : Id) where
  abbrev pub AllBefore : Documents → Type 0
  AllBefore ds = AllByRecursion (λ d. is_before id d ≡ true) ds

  abbrev pub NoneBefore : Documents → Type 0
  NoneBefore ds = AllByRecursion (λ d. is_before id d ≡ false) ds

  earlier : (x y : Item) → T (is_lt (id_cmp x.0 y.0)) → is_before id y ≡ true → is_before id x ≡ true
  earlier x y lt is = ap is_lt (nat_list_cmp_total.trans x.0 y.0 id (less _ lt) (less _ (true_T _ is)))

  not_earlier : (x y : Item) → T (is_lt (id_cmp x.0 y.0)) → is_before id x ≡ false → is_before id y ≡ false
  not_earlier x y lt isnt = elim (is_before id y) as (λ b. is_before id y ≡ b → b ≡ false) [
    | true ↦ λ e. absurd (true≢false (sym (earlier x y lt e) ∙ isnt))
    | false ↦ λ e. refl
  ] refl

  below_at : (x : Item) (ds : Documents) (k : ℕ) (d : Item) → T (below_all id_cmp x.0 ds) → k < length ds → T (is_lt (id_cmp x.0 (get_or ds k d).0))
  below_at x [] k d h lt = absurd (omega (arith, lt))
  below_at x (y ∷ ds) zero d h lt = first _ _ h
  below_at x (y ∷ ds) (suc k) d h lt = below_at x ds k d (second _ _ h) (omega (arith, lt))

  none_after : (x : Item) (ds : Documents) → T (below_all id_cmp x.0 ds) → is_before id x ≡ false → NoneBefore ds
  none_after x [] h isnt = tt
  none_after x (y ∷ ds) h isnt = (not_earlier x y (first _ _ h) isnt, none_after x ds (second _ _ h) isnt)

  -- those up to one before the id stand before it
  pub before_front : (ds : Documents) (k : ℕ) (d : Item) → T (is_sorted id_cmp ds) → k < length ds → is_before id (get_or ds k d) ≡ true → AllBefore (take (suc k) ds)
  before_front [] k d h lt is = absurd (omega (arith, lt))
  before_front (x ∷ ds) zero d h lt is = (is, tt)
  before_front (x ∷ ds) (suc k) d h lt is =
      (earlier x (get_or ds k d) (below_at x ds k d (first _ _ h) (omega (arith, lt))) is, before_front ds k d (second _ _ h) (omega (arith, lt)) is)

  -- those from one that isn't before the id on aren't either
  pub behind_rest : (ds : Documents) (k : ℕ) (d : Item) → T (is_sorted id_cmp ds) → k < length ds → is_before id (get_or ds k d) ≡ false → NoneBefore (drop k ds)
  behind_rest [] k d h lt isnt = absurd (omega (arith, lt))
  behind_rest (x ∷ ds) zero d h lt isnt = (isnt, none_after x ds (first _ _ h) isnt)
  behind_rest (x ∷ ds) (suc k) d h lt isnt = behind_rest ds k d (second _ _ h) (omega (arith, lt)) isnt

  pub none_counted : (ds : Documents) → NoneBefore ds → filter (is_before id) ds ≡ []
  none_counted [] none = refl
  none_counted (x ∷ ds) none = ap (λ b. cond b (x ∷ filter (is_before id) ds) (filter (is_before id) ds)) none.0 ∙ none_counted ds none.1

  pub all_behind : (ds : Documents) → NoneBefore ds → ds ≡ filter (is_behind id) ds
  all_behind [] none = refl
  all_behind (x ∷ ds) none = ap (λ es. x ∷ es) (all_behind ds none.1) ∙ ap (λ b. cond (not b) (x ∷ filter (is_behind id) ds) (filter (is_behind id) ds)) (sym none.0)

  pub record Counted (ds : Documents) (n : ℕ) : Type 0 where
    pub count : n ≡ length (filter (is_before id) ds)
    pub rest : drop n ds ≡ filter (is_behind id) ds

  one_counted : (x : Item) (ds : Documents) (n : ℕ) → is_before id x ≡ true → Counted ds n → Counted (x ∷ ds) (suc n)
  one_counted x ds n is c = record {
    count = ap suc c.count ∙ ap (λ b. length (cond b (x ∷ filter (is_before id) ds) (filter (is_before id) ds))) (sym is);
    rest = c.rest ∙ ap (λ b. cond (not b) (x ∷ filter (is_behind id) ds) (filter (is_behind id) ds)) (sym is);
  }

  -- a cut of a list
  pub counted : (ds : Documents) (n : ℕ) → n ≤ length ds → AllBefore (take n ds) → NoneBefore (drop n ds) → Counted ds n
  counted ds zero le all none = record { count = sym (ap length (none_counted ds none)); rest = all_behind ds none }
  counted [] (suc n) le all none = absurd (omega (arith, le))
  counted (x ∷ ds) (suc n) le all none = one_counted x ds n all.0 (counted ds n (omega (arith, le)) all.1 none)

  -- a list in order is what stands before the id, and what doesn't
  pub split : (ds : Documents) → T (is_sorted id_cmp ds) → ds ≡ filter (is_before id) ds ++ filter (is_behind id) ds
  split [] h = refl
  split (x ∷ ds) h = elim (is_before id x) as (λ b. is_before id x ≡ b → x ∷ ds ≡ cond b (x ∷ filter (is_before id) ds) (filter (is_before id) ds) ++ cond (not b) (x ∷ filter (is_behind id) ds) (filter (is_behind id) ds)) [
    | true ↦ λ is. ap (λ es. x ∷ es) (split ds (second _ _ h))
    | false ↦ λ isnt.
        let none = none_after x ds (first _ _ h) isnt in
        ap (λ es. x ∷ es) (all_behind ds none) ∙ ap (λ es. es ++ x ∷ filter (is_behind id) ds) (sym (none_counted ds none))
  ] refl

drop_front : {A : Type 0} (xs ys : List A) (n : ℕ) → length xs ≤ n → drop n (xs ++ ys) ≡ drop (n - length xs) ys
drop_front [] ys n le = let same : n ≡ n - 0 = omega arith in ap (λ k. drop k ys) same
drop_front (x ∷ xs) ys zero le = absurd (omega (arith, le))
drop_front (x ∷ xs) ys (suc n) le = let same : n - length xs ≡ suc n - suc (length xs) = omega arith in drop_front xs ys n (omega (arith, le)) ∙ ap (λ k. drop k ys) same

whole : {A : Type 0} (xs : List A) → take (length xs) xs ≡ xs
whole [] = refl
whole (x ∷ xs) = ap (λ ys. x ∷ ys) (whole xs)

-- ---- all lists

module _ (ps : List Documents) (apart : AreApart ps) (id : Id) where
  ranked : (i : ℕ) → i ≤ length ps → rank id (take i ps) ≡ length (filter (is_before id) (woven (take i ps)))
  ranked zero le = refl
  ranked (suc i) le =
      let one : i + 1 ≡ suc i = omega arith in
      ap (λ k. rank id (take k ps)) (sym one) ∙ sum_by_more (λ (d : Documents). length (filter (is_before id) d)) ps i [] (omega (arith, le))
      ∙ ap (λ n. n + length (filter (is_before id) (get_or ps i []))) (ranked i (omega (arith, le)))
      ∙ sym (counted-more (is_before id) ps i [] apart (omega (arith, le)))
      ∙ ap (λ k. length (filter (is_before id) (woven (take k ps)))) one

  -- the page stands behind those before the id
  pub page-behind : (from size n : ℕ) → n ≡ rank id ps → n ≤ from → take size (drop from (woven ps)) ≡ drop (from - n) (take (from - n + size) (filter (is_behind id) (woven ps)))
  page-behind from size n is few =
      let W = woven ps in
      let all : n ≡ length (filter (is_before id) W) = is ∙ sym (ap (rank id) (whole ps)) ∙ ranked (length ps) (omega arith) ∙ ap (λ qs. length (filter (is_before id) (woven qs))) (whole ps) in
      ap (λ es. take size (drop from es)) (split id W (in_order-woven ps apart.sorted))
      ∙ ap (take size) (drop_front (filter (is_before id) W) (filter (is_behind id) W) from (omega (arith, all, few)) ∙ ap (λ k. drop (from - k) (filter (is_behind id) W)) (sym all))
      ∙ sym (drop-take (from - n) size (filter (is_behind id) W))

-- ---- the first of each list

found_either : (b : Bool) (x : Document) (o p : Option Document) → (is_some o ≡ true → is_some p ≡ true) → is_some (cond b (Some x) o) ≡ true → is_some (cond b (Some x) p) ≡ true
found_either true x o p has is = refl
found_either false x o p has is = has is

found_take : (n : ℕ) (ds : Documents) (q : Id) → is_some (document_at (take n ds) q) ≡ true → is_some (document_at ds q) ≡ true
found_take zero ds q is = absurd (true≢false (sym is))
found_take (suc n) [] q is = is
found_take (suc n) (d ∷ ds) q is = found_either (is_id q d.0) d.1 _ _ (found_take n ds q) is

fewer : (b c : Bool) (m n : ℕ) → (b ≡ true → c ≡ true) → m ≤ n → cond b 1 0 + m ≤ cond c 1 0 + n
fewer true true m n has le = omega (arith, le)
fewer true false m n has le = absurd (true≢false (sym (has refl)))
fewer false true m n has le = omega (arith, le)
fewer false false m n has le = omega (arith, le)

module _ (w : ℕ) (g : Item → Bool) where
  firsts_in_order : (ps : List Documents) → AllInOrder ps → AllInOrder (first_of_each w g ps)
  firsts_in_order [] all = tt
  firsts_in_order (p ∷ ps) all = (T_true _ (in_order-take w (filter g p) (in_order-filter g p (true_T _ all.0))), firsts_in_order ps all.1)

  firsts_have : (ps : List Documents) (q : Id) → times q (first_of_each w g ps) ≤ times q ps
  firsts_have [] q = omega arith
  firsts_have (p ∷ ps) q = fewer (has_id q (take w (filter g p))) (has_id q p) _ _ (λ is. filtered_some g q p (found_take w (filter g p) q is)) (firsts_have ps q)

  pub firsts-apart : (ps : List Documents) → AreApart ps → AreApart (first_of_each w g ps)
  firsts-apart ps apart = record { sorted = firsts_in_order ps apart.sorted; once = λ q. omega (arith, firsts_have ps q, apart.once q) }

  firsts_from : (ps : List Documents) → AreApart ps → (i : ℕ) → i ≤ length ps → take w (filter g (woven (take i ps))) ≡ take w (woven (take i (first_of_each w g ps)))
  firsts_from ps apart zero le = refl
  firsts_from ps apart (suc i) le =
      let fs = first_of_each w g ps in
      let one : i + 1 ≡ suc i = omega arith in
      let lt : i < length ps = omega (arith, le) in
      let long : i < length fs = omega (arith, lt, length-map ps (λ (d : Documents). take w (filter g d))) in
      let sorted = firsts_in_order ps apart.sorted in
      let mine : get_or fs i [] ≡ take w (filter g (get_or ps i [])) = get_or-map (λ (d : Documents). take w (filter g d)) ps i [] [] lt in
      let short : take w (get_or fs i []) ≡ take w (filter g (get_or ps i [])) = ap (take w) mine ∙ take-take w w (filter g (get_or ps i [])) (omega arith) in
      ap (λ k. take w (filter g (woven (take k ps)))) (sym one)
      ∙ sym (limited-more g ps i [] apart lt w)
      ∙ ap (λ (ds : Documents). take w (merged ds (take w (filter g (get_or ps i []))))) (firsts_from ps apart i (omega (arith, le)))
      ∙ ap (λ (ds : Documents). take w (merged (take w (woven (take i fs))) ds)) (sym short)
      ∙ take-merged w w w (woven (take i fs)) (get_or fs i []) (in_order-woven (take i fs) (all_take i fs sorted)) (all_at fs i [] sorted long) (omega arith) (omega arith)
      ∙ ap (take w) (sym (fold_more merged [] fs i [] long))
      ∙ ap (λ k. take w (woven (take k fs))) one

  -- the first of all need the first of each
  pub firsts-woven : (ps : List Documents) → AreApart ps → take w (filter g (woven ps)) ≡ take w (woven (first_of_each w g ps))
  firsts-woven ps apart =
      let fs = first_of_each w g ps in
      ap (λ qs. take w (filter g (woven qs))) (sym (whole ps)) ∙ firsts_from ps apart (length ps) (omega arith)
      ∙ ap (λ k. take w (woven (take k fs))) (sym (length-map ps (λ (d : Documents). take w (filter g d)))) ∙ ap (λ qs. take w (woven qs)) (whole fs)

-- ---- lists where they stand

-- a slice, as it is seen
pub sliced : {A B : Type 0} (f : A → B) (xs : List A) (s m n : ℕ) → m ≡ min n (length xs - s) → map f (take m (drop s xs)) ≡ take n (drop s (map f xs))
sliced f xs s m n is =
    let ys = drop s (map f xs) in
    let long : m ≡ min n (length ys) = omega (arith, is, length-drop s (map f xs), length-map xs f) in
    sym (take-map f m (drop s xs)) ∙ ap (take m) (sym (drop-map f s xs)) ∙ ap (λ k. take k ys) long ∙ take_min n ys

module _ (vs : List (Vec (Bor Shown) Global)) (i : ℕ) (v : Vec (Bor Shown) Global) (lt : i < length vs) (is : v ≡ get_or vs i v) where
  pub listed-within : i < length (seen_all vs)
  listed-within = omega (arith, lt, length-map vs (λ (w : Vec (Bor Shown) Global). seen w.items))

  pub listed-at : get_or (seen_all vs) i (seen v.items) ≡ seen v.items
  listed-at = get_or-map (λ (w : Vec (Bor Shown) Global). seen w.items) vs i v (seen v.items) lt ∙ ap (λ (w : Vec (Bor Shown) Global). seen w.items) (sym is)

  pub listed-sorted : AllInOrder (seen_all vs) → is_sorted id_cmp (seen v.items) ≡ true
  listed-sorted all = T_true _ (subst (λ (ds : Documents). T (is_sorted id_cmp ds)) listed-at (all_at (seen_all vs) i (seen v.items) all listed-within))

-- one document where it stands
pub seen-at : (rs : List (Bor Shown)) (k : ℕ) (r : Bor Shown) → k < length rs → r ≡ get_or rs k r → get_or (seen rs) k (shown_view r.now) ≡ shown_view r.now
seen-at rs k r lt is = get_or-map (λ (q : Bor Shown). shown_view q.now) rs k r (shown_view r.now) lt ∙ ap (λ (q : Bor Shown). shown_view q.now) (sym is)

pub seen-within : (rs : List (Bor Shown)) (k : ℕ) → k < length rs → k < length (seen rs)
seen-within rs k lt = omega (arith, lt, length-map rs (λ (q : Bor Shown). shown_view q.now))

-- a list that is another, as it is seen
pub viewed : {A B E : Type 0} (f : A → B) (r : Result (Vec A Global) E) (xs : List A) (ys : List B) → IfOk r (λ v. v.items ≡ xs) → map f xs ≡ ys → IfOk r (λ v. map f v.items ≡ ys)
viewed f (Ok v) xs ys is same = ap (map f) is ∙ same
viewed f (Err e) xs ys is same = tt
