-- Pairs in order of their keys, and the last of them at each key.
use Rattle.std.proofs.Common.{◌≡◌, suc, Bool, true, false, not, ◌&&◌, List, [], ◌∷◌, ◌++◌, refl, sym, ap, ◌∙◌, arith, cond, if◌then◌else◌, true≢false, All, Option, Some, None}
use Rattle.std.specs.Cmp.{IsTotalOrder}
use Rattle.std.specs.List.{filter, AllByRecursion, AllPairs}
use Rattle.std.specs.List.Sorted.{IsSortedByKey, IsStableByKey, IsStrictlySortedBy}
use Rattle.std.specs.Map.{keys_of, values_of, update, update_all}
use Rattle.std.specs.Ordering.{is_eq, is_lt, eq_by_cmp, ordering_reverse}
use Rattle.std.specs.declared.cmp.Ordering.{Ordering}
use Rattle.std.specs.declared.cmp.Ordering.TheVariants.{Less, Equal, Greater}
use Rattle.std.proofs.lemmas.Cmp.{eq_by_cmp_equiv}
use Rattle.std.proofs.lemmas.List.Elements.{filter_agree, All-head, All-tail}
use Rattle.std.proofs.lemmas.List.Sorted.{sorted_far, ranks_by}
use Rattle.std.proofs.lemmas.Map.Keys.{IsDistinct-from_sorted}
use Rattle.std.proofs.lemmas.Map.Made.{update_all_none}
use Rattle.engine.specs.LastOfEach.{last_from, last_of_runs, ChangeAlike, IsLastOfEach}
use Rattle.segment.proofs.GroupingLaws.{above_reversed, less_from}
use Rattle.segment.proofs.ListingLaws.{tied}

pub by_equal : (o : Ordering) → is_eq o ≡ true → o ≡ Equal
by_equal Less is = absurd (true≢false (sym is))
by_equal Equal is = refl
by_equal Greater is = absurd (true≢false (sym is))

pub reversed : (a : Ordering) → is_eq (ordering_reverse a) ≡ is_eq a
reversed Less = refl
reversed Equal = refl
reversed Greater = refl

-- ---- pairs put into a map

module _ {K V : Type 0} (e : K → K → Bool) (q : K) where
  -- at a key they change what is there, and nothing else
  put_alike : (f g : K → Option V) (ps : List (K × V)) → f q ≡ g q → update_all e f ps q ≡ update_all e g ps q
  put_alike f g [] same = same
  put_alike f g (p ∷ ps) same = put_alike (update e f p.0 (Some p.1)) (update e g p.0 (Some p.1)) ps (ap (cond (e p.0 q) (Some p.1)) same)

  -- only the pairs of that key do
  put_filtered : (f : K → Option V) (ps : List (K × V)) → update_all e f ps q ≡ update_all (λ x y. true) f (filter (λ p. e p.0 q) ps) q
  put_filtered f [] = refl
  put_filtered f (p ∷ ps) = by_test (put_filtered (update (λ x y. true) f p.0 (Some p.1)) ps) (put_filtered f ps) (e p.0 q) refl
    where
      by_test : update_all e (update (λ x y. true) f p.0 (Some p.1)) ps q ≡ update_all (λ x y. true) (update (λ x y. true) f p.0 (Some p.1)) (filter (λ r. e r.0 q) ps) q
          → update_all e f ps q ≡ update_all (λ x y. true) f (filter (λ r. e r.0 q) ps) q
          → (b : Bool) → e p.0 q ≡ b → update_all e (update e f p.0 (Some p.1)) ps q ≡ update_all (λ x y. true) f (cond b (p ∷ filter (λ r. e r.0 q) ps) (filter (λ r. e r.0 q) ps)) q
      by_test here there true is = put_alike (update e f p.0 (Some p.1)) (update (λ x y. true) f p.0 (Some p.1)) ps (ap (λ b. cond b (Some p.1) (f q)) is) ∙ here
      by_test here there false is = put_alike (update e f p.0 (Some p.1)) f ps (ap (λ b. cond b (Some p.1) (f q)) is) ∙ there

module _ {K V : Type 0} {cmp : K → K → Ordering} (order : IsTotalOrder cmp) where
  same_put : (q : K) (v : V) (xs ys : List (K × V)) → IsStableByKey (λ e. e.0) cmp xs ys → update_all (eq_by_cmp cmp) (λ _. None) ys q ≡ update_all (eq_by_cmp cmp) (λ _. None) xs q
  same_put q v xs ys stable =
      let ties = λ (e : K × V). not (is_lt (cmp q e.0)) && not (is_lt (cmp e.0 q)) in
      let same : (e : K × V) → ties e ≡ eq_by_cmp cmp e.0 q = λ e. tied (cmp q e.0) (cmp e.0 q) (order.antisymm e.0 q) ∙ ap is_eq (order.antisymm q e.0) ∙ reversed (cmp e.0 q) in
      let here : (es : List (K × V)) → update_all (eq_by_cmp cmp) (λ _. None) es q ≡ update_all (λ x y. true) (λ _. None) (filter ties es) q =
      λ es. put_filtered (eq_by_cmp cmp) q (λ _. None) es ∙ ap (λ fs. update_all (λ x y. true) (λ _. None) fs q) (sym (filter_agree ties (λ e. eq_by_cmp cmp e.0 q) same es)) in
      here ys ∙ ap (λ fs. update_all (λ x y. true) (λ _. None) fs q) (stable (q, v)) ∙ sym (here xs)

  -- a stable sort leaves the last pair of a key as it is
  pub alike-stable : (xs ys : List (K × V)) → IsStableByKey (λ e. e.0) cmp xs ys → ChangeAlike cmp xs ys
  alike-stable [] [] stable q = refl
  alike-stable (x ∷ xs) ys stable q = same_put q x.1 (x ∷ xs) ys stable
  alike-stable [] (y ∷ ys) stable q = same_put q y.1 [] (y ∷ ys) stable

-- ---- the last of equal neighbours

module _ {K V : Type 0} (eq : K → K → Bool) where
  -- a pair of the same key takes the place of the last one
  pub last-same : (vs : List V) (last p : K × V) (ps : List (K × V)) → eq p.0 last.0 ≡ true → vs ++ values_of (last_from eq p ps) ≡ vs ++ values_of (last_from eq last (p ∷ ps))
  last-same vs last p ps same = ap (λ b. vs ++ values_of (if b then last_from eq p ps else last ∷ last_from eq p ps)) (sym same)

  -- behind another key the last one stays
  pub last-other : (vs : List V) (last p : K × V) (ps : List (K × V)) → eq p.0 last.0 ≡ false → (vs ++ last.1 ∷ []) ++ values_of (last_from eq p ps) ≡ vs ++ values_of (last_from eq last (p ∷ ps))
  last-other vs last p ps other = one_more vs (values_of (last_from eq p ps)) ∙ ap (λ b. vs ++ values_of (if b then last_from eq p ps else last ∷ last_from eq p ps)) (sym other)
    where
      one_more : (us ws : List V) → (us ++ last.1 ∷ []) ++ ws ≡ us ++ last.1 ∷ ws
      one_more [] ws = refl
      one_more (u ∷ us) ws = ap (λ l. u ∷ l) (one_more us ws)

module _ {K : Type 0} {cmp : K → K → Ordering} (order : IsTotalOrder cmp) where
  below : (k j i : K) → cmp k j ≡ Less → is_lt (cmp i j) ≡ false → cmp k i ≡ Less
  below k j i less not_less = less_from (cmp k i) (λ fails. true≢false (ap is_lt (sym less) ∙ (ranks_by order (λ (k : K). k)).chain k i j fails not_less))

module _ {K V : Type 0} {cmp : K → K → Ordering} (order : IsTotalOrder cmp) (eq : K → K → Bool) (ties : (x y : K) → eq x y ≡ eq_by_cmp cmp x y) where
  -- a pair right behind one of the same key covers it
  covered : (q : K) (f : K → Option V) (p r : K × V) (ps : List (K × V)) → eq r.0 p.0 ≡ true → update_all (eq_by_cmp cmp) f (r ∷ ps) q ≡ update_all (eq_by_cmp cmp) f (p ∷ r ∷ ps) q
  covered q f p r ps is =
      let e = eq_by_cmp cmp in
      put_alike e q (update e f r.0 (Some r.1)) (update e (update e f p.0 (Some p.1)) r.0 (Some r.1)) ps (by_test (e r.0 q) (ap is_eq (order.congr r.0 p.0 q (by_equal (cmp r.0 p.0) (sym (ties r.0 p.0) ∙ is)))))
    where
      by_test : (b : Bool) → b ≡ eq_by_cmp cmp p.0 q → cond b (Some r.1) (f q) ≡ cond b (Some r.1) (cond (eq_by_cmp cmp p.0 q) (Some p.1) (f q))
      by_test true same = refl
      by_test false same = ap (λ c. cond c (Some p.1) (f q)) same

  put-last : (q : K) (f : K → Option V) (p : K × V) (ps : List (K × V)) → update_all (eq_by_cmp cmp) f (last_from eq p ps) q ≡ update_all (eq_by_cmp cmp) f (p ∷ ps) q
  put-last q f p [] = refl
  put-last q f p (r ∷ ps) = by_test (put-last q f r ps) (put-last q (update (eq_by_cmp cmp) f p.0 (Some p.1)) r ps) (eq r.0 p.0) refl
    where
      by_test : update_all (eq_by_cmp cmp) f (last_from eq r ps) q ≡ update_all (eq_by_cmp cmp) f (r ∷ ps) q
          → update_all (eq_by_cmp cmp) (update (eq_by_cmp cmp) f p.0 (Some p.1)) (last_from eq r ps) q ≡ update_all (eq_by_cmp cmp) (update (eq_by_cmp cmp) f p.0 (Some p.1)) (r ∷ ps) q
          → (b : Bool) → eq r.0 p.0 ≡ b → update_all (eq_by_cmp cmp) f (if b then last_from eq r ps else p ∷ last_from eq r ps) q ≡ update_all (eq_by_cmp cmp) f (p ∷ r ∷ ps) q
      by_test here there true is = here ∙ covered q f p r ps is
      by_test here there false is = there

  -- keys above one are above it when some are left out
  above : (k : K) (p : K × V) (ps : List (K × V)) → cmp k p.0 ≡ Less → All (λ (r : K × V). cmp k r.0 ≡ Less) ps → AllByRecursion (λ y. cmp k y ≡ Less) (keys_of (last_from eq p ps))
  above k p [] here later = (here, tt)
  above k p (r ∷ ps) here later = by_test (eq r.0 p.0) (above k r ps (All-head (λ (r : K × V). cmp k r.0 ≡ Less) r ps later) (All-tail (λ (r : K × V). cmp k r.0 ≡ Less) r ps later))
    where
      by_test : (b : Bool) → AllByRecursion (λ y. cmp k y ≡ Less) (keys_of (last_from eq r ps)) → AllByRecursion (λ y. cmp k y ≡ Less) (keys_of (if b then last_from eq r ps else p ∷ last_from eq r ps))
      by_test true rest = rest
      by_test false rest = (here, rest)

  strict-from : (p : K × V) (ps : List (K × V)) → All (λ (r : K × V). is_lt (cmp r.0 p.0) ≡ false) ps → AllPairs (λ (d r : K × V). is_lt (cmp r.0 d.0) ≡ false) ps → IsStrictlySortedBy cmp (keys_of (last_from eq p ps))
  unfolding IsStrictlySortedBy
  strict-from p [] low up = (tt, tt)
  strict-from p (r ∷ ps) low up =
      let rest : AllPairs (λ (d f : K × V). is_lt (cmp f.0 d.0) ≡ false) ps = λ i j d before within. up (suc i) (suc j) d (omega arith) (omega arith) in
      let later : All (λ (f : K × V). is_lt (cmp f.0 r.0) ≡ false) ps = λ j d within. up 0 (suc j) d (omega arith) (omega arith) in
      by_test later (All-head (λ (f : K × V). is_lt (cmp f.0 p.0) ≡ false) r ps low) (strict-from r ps later rest) (eq r.0 p.0) refl
    where
      by_test : All (λ (f : K × V). is_lt (cmp f.0 r.0) ≡ false) ps → is_lt (cmp r.0 p.0) ≡ false → IsStrictlySortedBy cmp (keys_of (last_from eq r ps)) → (b : Bool) → eq r.0 p.0 ≡ b
          → IsStrictlySortedBy cmp (keys_of (if b then last_from eq r ps else p ∷ last_from eq r ps))
      by_test later low there true is = there
      by_test later low there false is =
          let less : cmp p.0 r.0 ≡ Less = order.antisymm p.0 r.0 ∙ above_reversed (cmp r.0 p.0) low (sym (ties r.0 p.0) ∙ is) in
          (above p.0 r ps less (λ j d within. below order p.0 r.0 _ less (later j d within)), there)

  strict : (es : List (K × V)) → IsSortedByKey (λ e. e.0) cmp es → IsStrictlySortedBy cmp (keys_of (last_of_runs eq es))
  unfolding IsStrictlySortedBy
  strict [] sorted = tt
  strict (e ∷ es) sorted =
      let far = sorted_far (λ (x y : K × V). is_lt (cmp x.0 y.0)) (ranks_by order (λ (f : K × V). f.0)) (e ∷ es) sorted in
      strict-from e es (λ j d within. far 0 (suc j) d (omega arith) (omega arith)) (λ i j d before within. far (suc i) (suc j) d (omega arith) (omega arith))

  put-runs : (q : K) (es : List (K × V)) → update_all (eq_by_cmp cmp) (λ _. None) (last_of_runs eq es) q ≡ update_all (eq_by_cmp cmp) (λ _. None) es q
  put-runs q [] = refl
  put-runs q (e ∷ es) = put-last q (λ _. None) e es

  -- of pairs in order those that equal neighbours don't cover are the last of each key
  pub last-sorted : (ps es : List (K × V)) (vs : List V) → ChangeAlike cmp ps es → IsSortedByKey (λ e. e.0) cmp es → vs ≡ values_of (last_of_runs eq es) → IsLastOfEach cmp ps vs
  last-sorted ps es vs alike sorted are = record {
    entries = last_of_runs eq es;
    are = are;
    ordered = strict es sorted;
    last = λ q.
        sym (update_all_none (eq_by_cmp_equiv order) (eq_by_cmp cmp) (λ x y. refl) (last_of_runs eq es) q (IsDistinct-from_sorted cmp (keys_of (last_of_runs eq es)) (strict es sorted)))
        ∙ put-runs q es ∙ alike q;
  }
