-- Keys with a place each, put in order and put together.
use Rattle.std.proofs.Common.{◌≡◌, ℕ, suc, Bool, true, false, not, ◌&&◌, List, [], ◌∷◌, ◌++◌, refl, sym, ap, ◌∙◌, arith, cond, if◌then◌else◌, append-nil, true≢false, All}
use Rattle.std.specs.BTreeMap.{is_at}
use Rattle.std.specs.Cmp.{IsTotalOrder}
use Rattle.std.specs.List.{filter, AllPairs}
use Rattle.std.specs.List.Sorted.{IsSortedByKey, IsStableByKey}
use Rattle.std.specs.Ordering.{is_eq, is_lt, eq_by_cmp, ordering_reverse}
use Rattle.std.specs.declared.cmp.Ordering.{Ordering}
use Rattle.std.specs.declared.cmp.Ordering.TheVariants.{Less, Equal, Greater}
use Rattle.std.proofs.lemmas.List.Elements.{filter_agree, All-head, All-tail}
use Rattle.std.proofs.lemmas.List.Sorted.{sorted_far, ranks_by}
use Rattle.segment.specs.Grouped.{places_posted_on, places_posted, with_lists, runs_from, runs, places_of_runs}
use Rattle.segment.specs.Places.{added, as_list, places_listed}
use Rattle.segment.specs.declared.places.Places.{Places}
use Rattle.segment.proofs.ListingLaws.{equal, same-key, tied}

-- ---- postings

module _ {K : Type 0} (p : K → Bool) where
  -- one posting more
  pub posted-push : (ps : List ℕ) (es : List (K × ℕ)) (e : K × ℕ) → places_posted_on p ps (es ++ e ∷ []) ≡ (if p e.0 then added (places_posted_on p ps es) e.1 else places_posted_on p ps es)
  posted-push ps [] e = refl
  posted-push ps (f ∷ es) e = posted-push (if p f.0 then added ps f.1 else ps) es e

  posted_filtered : (ps : List ℕ) (es : List (K × ℕ)) → places_posted_on p ps es ≡ places_posted_on (λ (k : K). true) ps (filter (λ e. p e.0) es)
  posted_filtered ps [] = refl
  posted_filtered ps (e ∷ es) = by_test (p e.0) (posted_filtered (added ps e.1) es) (posted_filtered ps es)
    where
      by_test : (b : Bool) → places_posted_on p (added ps e.1) es ≡ places_posted_on (λ (k : K). true) (added ps e.1) (filter (λ e. p e.0) es) → places_posted_on p ps es ≡ places_posted_on (λ (k : K). true) ps (filter (λ e. p e.0) es)
          → places_posted_on p (if b then added ps e.1 else ps) es ≡ places_posted_on (λ (k : K). true) ps (cond b (e ∷ filter (λ e. p e.0) es) (filter (λ e. p e.0) es))
      by_test true here rest = here
      by_test false here rest = rest

  -- no key passes
  posted_none : (ps : List ℕ) (es : List (K × ℕ)) → All (λ (e : K × ℕ). p e.0 ≡ false) es → places_posted_on p ps es ≡ ps
  posted_none ps [] none = refl
  posted_none ps (e ∷ es) none = ap (λ b. places_posted_on p (if b then added ps e.1 else ps) es) (All-head (λ (f : K × ℕ). p f.0 ≡ false) e es none) ∙ posted_none ps es (All-tail (λ (f : K × ℕ). p f.0 ≡ false) e es none)

  -- pairs are runs
  pub listed-runs : (es : List (K × Places)) → places_listed p es ≡ places_of_runs p (with_lists es)
  listed-runs [] = refl
  listed-runs (e ∷ es) = ap (λ ps. (if p e.0 then as_list e.1 else []) ++ ps) (listed-runs es)

module _ {K : Type 0} {cmp : K → K → Ordering} (order : IsTotalOrder cmp) where
  -- a stable sort leaves the places of a key as they are
  pub posted-stable : (xs ys : List (K × ℕ)) → IsStableByKey (λ e. e.0) cmp xs ys → (q : K) → places_posted (is_at (cmp q)) ys ≡ places_posted (is_at (cmp q)) xs
  posted-stable xs ys stable q =
      let ties = λ (e : K × ℕ). not (is_lt (cmp q e.0)) && not (is_lt (cmp e.0 q)) in
      let same : (e : K × ℕ) → ties e ≡ is_at (cmp q) e.0 = λ e. tied (cmp q e.0) (cmp e.0 q) (order.antisymm e.0 q) in
      let here : (es : List (K × ℕ)) → places_posted (is_at (cmp q)) es ≡ places_posted_on (λ (k : K). true) [] (filter ties es) =
      λ es. posted_filtered (is_at (cmp q)) [] es ∙ ap (places_posted_on (λ (k : K). true) []) (sym (filter_agree ties (λ e. is_at (cmp q) e.0) same es)) in
      here ys ∙ ap (places_posted_on (λ (k : K). true) []) (stable (q, 0)) ∙ sym (here xs)

-- ---- runs

module _ {K : Type 0} (eq : K → K → Bool) where
  -- the place goes to the last key
  pub run-same : (rs : List (K × List ℕ)) (last : K) (ps new : List ℕ) (e : K × ℕ) (es : List (K × ℕ)) → eq e.0 last ≡ true → new ≡ added ps e.1 → rs ++ runs_from eq last new es ≡ rs ++ runs_from eq last ps (e ∷ es)
  run-same rs last ps new e es same is =
      ap (λ qs. rs ++ runs_from eq last qs es) is ∙ ap (λ b. rs ++ (if b then runs_from eq last (added ps e.1) es else (last, ps) ∷ runs_from eq e.0 (e.1 ∷ []) es)) (sym same)

  -- the key is another
  pub run-other : (closed : List (K × Places)) (last : K × Places) (e : K × ℕ) (es : List (K × ℕ)) → eq e.0 last.0 ≡ false
      → with_lists (closed ++ last ∷ []) ++ runs_from eq e.0 (e.1 ∷ []) es ≡ with_lists closed ++ runs_from eq last.0 (as_list last.1) (e ∷ es)
  run-other closed last e es other =
      lists_push closed ∙ ap (λ b. with_lists closed ++ (if b then runs_from eq last.0 (added (as_list last.1) e.1) es else (last.0, as_list last.1) ∷ runs_from eq e.0 (e.1 ∷ []) es)) (sym other)
    where
      lists_push : (fs : List (K × Places)) → with_lists (fs ++ last ∷ []) ++ runs_from eq e.0 (e.1 ∷ []) es ≡ with_lists fs ++ (last.0, as_list last.1) ∷ runs_from eq e.0 (e.1 ∷ []) es
      lists_push [] = refl
      lists_push (f ∷ fs) = ap (λ rs. (f.0, as_list f.1) ∷ rs) (lists_push fs)

  -- no posting is left
  pub run-last : (closed : List (K × Places)) (last : K × Places) → with_lists (closed ++ last ∷ []) ≡ with_lists closed ++ (last.0, as_list last.1) ∷ []
  run-last [] last = refl
  run-last (f ∷ fs) last = ap (λ rs. (f.0, as_list f.1) ∷ rs) (run-last fs last)

-- ---- runs of keys in order

pub less_from : (a : Ordering) → (is_lt a ≡ false → ⊥) → a ≡ Less
less_from Less h = refl
less_from Equal h = absurd (h refl)
less_from Greater h = absurd (h refl)

pub above_reversed : (a : Ordering) → is_lt a ≡ false → is_eq a ≡ false → ordering_reverse a ≡ Less
above_reversed Less p q = absurd (true≢false p)
above_reversed Equal p q = absurd (true≢false q)
above_reversed Greater p q = refl

-- the place is added where both keys pass, or none
both_pass : (b c : Bool) (ps : List ℕ) (at : ℕ) → c ≡ b → (if b then added ps at else []) ≡ (if c then added (if b then ps else []) at else (if b then ps else []))
both_pass true true ps at is = refl
both_pass false false ps at is = refl
both_pass true false ps at is = absurd (true≢false (sym is))
both_pass false true ps at is = absurd (true≢false is)

module _ {K : Type 0} {cmp : K → K → Ordering} (order : IsTotalOrder cmp) (eq : K → K → Bool) (ties : (x y : K) → eq x y ≡ eq_by_cmp cmp x y) (q : K) where
  -- behind a key that passes, those that are greater don't
  greater_fails : (k j : K) → is_at (cmp q) k ≡ true → cmp k j ≡ Less → is_at (cmp q) j ≡ false
  greater_fails k j is less = ap is_eq (order.congr q k j (equal (cmp q k) is) ∙ less)

  below : (k j i : K) → cmp k j ≡ Less → is_lt (cmp i j) ≡ false → cmp k i ≡ Less
  below k j i less not_less = less_from (cmp k i) (λ fails. true≢false (ap is_lt (sym less) ∙ (ranks_by order (λ (k : K). k)).chain k i j fails not_less))

  pub runs-from : (k : K) (ps : List ℕ) (es : List (K × ℕ)) → All (λ (e : K × ℕ). is_lt (cmp e.0 k) ≡ false) es → AllPairs (λ (d e : K × ℕ). is_lt (cmp e.0 d.0) ≡ false) es
      → places_of_runs (is_at (cmp q)) (runs_from eq k ps es) ≡ places_posted_on (is_at (cmp q)) (if is_at (cmp q) k then ps else []) es
  runs-from k ps [] above up = append-nil (if is_at (cmp q) k then ps else [])
  runs-from k ps (e ∷ es) above up =
      let rest : AllPairs (λ (d f : K × ℕ). is_lt (cmp f.0 d.0) ≡ false) es = λ i j d before within. up (suc i) (suc j) d (omega arith) (omega arith) in
      let later : All (λ (f : K × ℕ). is_lt (cmp f.0 e.0) ≡ false) es = λ j d within. up 0 (suc j) d (omega arith) (omega arith) in
      by_test (All-head (λ (f : K × ℕ). is_lt (cmp f.0 k) ≡ false) e es above) later
      (runs-from k (added ps e.1) es (All-tail (λ (f : K × ℕ). is_lt (cmp f.0 k) ≡ false) e es above) rest)
      (runs-from e.0 (e.1 ∷ []) es later rest) (eq e.0 k) refl
    where
      by_key : All (λ (f : K × ℕ). is_lt (cmp f.0 e.0) ≡ false) es → cmp k e.0 ≡ Less
          → places_of_runs (is_at (cmp q)) (runs_from eq e.0 (e.1 ∷ []) es) ≡ places_posted_on (is_at (cmp q)) (if is_at (cmp q) e.0 then e.1 ∷ [] else []) es
          → (b : Bool) → is_at (cmp q) k ≡ b
          → (if b then ps else []) ++ places_of_runs (is_at (cmp q)) (runs_from eq e.0 (e.1 ∷ []) es) ≡ places_posted_on (is_at (cmp q)) (if is_at (cmp q) e.0 then added (if b then ps else []) e.1 else (if b then ps else [])) es
      by_key later less there false is = there
      by_key later less there true is =
          let here = greater_fails k e.0 is less in
          let none : All (λ (f : K × ℕ). is_at (cmp q) f.0 ≡ false) es = λ j d within. greater_fails k _ is (below k e.0 _ less (later j d within)) in
          ap (λ rs. ps ++ rs) (there ∙ ap (λ c. places_posted_on (is_at (cmp q)) (if c then e.1 ∷ [] else []) es) here ∙ posted_none (is_at (cmp q)) [] es none)
          ∙ append-nil ps
          ∙ sym (ap (λ c. places_posted_on (is_at (cmp q)) (if c then added ps e.1 else ps) es) here ∙ posted_none (is_at (cmp q)) ps es none)

      by_test : is_lt (cmp e.0 k) ≡ false → All (λ (f : K × ℕ). is_lt (cmp f.0 e.0) ≡ false) es
          → places_of_runs (is_at (cmp q)) (runs_from eq k (added ps e.1) es) ≡ places_posted_on (is_at (cmp q)) (if is_at (cmp q) k then added ps e.1 else []) es
          → places_of_runs (is_at (cmp q)) (runs_from eq e.0 (e.1 ∷ []) es) ≡ places_posted_on (is_at (cmp q)) (if is_at (cmp q) e.0 then e.1 ∷ [] else []) es
          → (b : Bool) → eq e.0 k ≡ b
          → places_of_runs (is_at (cmp q)) (if b then runs_from eq k (added ps e.1) es else (k, ps) ∷ runs_from eq e.0 (e.1 ∷ []) es)
          ≡ places_posted_on (is_at (cmp q)) (if is_at (cmp q) e.0 then added (if is_at (cmp q) k then ps else []) e.1 else (if is_at (cmp q) k then ps else [])) es
      by_test low later here there true is =
          here ∙ ap (λ qs. places_posted_on (is_at (cmp q)) qs es) (both_pass (is_at (cmp q) k) (is_at (cmp q) e.0) ps e.1 (same-key order q e.0 k (sym (ties e.0 k) ∙ is)))
      by_test low later here there false is =
          by_key later (order.antisymm k e.0 ∙ above_reversed (cmp e.0 k) low (sym (ties e.0 k) ∙ is)) there (is_at (cmp q) k) refl

  -- each key of postings in order is one run
  pub runs-sorted : (es : List (K × ℕ)) → IsSortedByKey (λ e. e.0) cmp es → places_of_runs (is_at (cmp q)) (runs eq es) ≡ places_posted (is_at (cmp q)) es
  runs-sorted [] sorted = refl
  runs-sorted (e ∷ es) sorted =
      let far = sorted_far (λ (x y : K × ℕ). is_lt (cmp x.0 y.0)) (ranks_by order (λ (f : K × ℕ). f.0)) (e ∷ es) sorted in
      runs-from e.0 (e.1 ∷ []) es (λ j d within. far 0 (suc j) d (omega arith) (omega arith)) (λ i j d before within. far (suc i) (suc j) d (omega arith) (omega arith))
