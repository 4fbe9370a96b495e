-- Some of the parts.
use Rattle.std.proofs.Common.{◌≡◌, ◌<◌, ◌≤◌, ℕ, ◌+◌, ◌^◌, Bool, true, false, cond, List, [], ◌∷◌, ◌++◌, length, map, filter, take, drop, get_or, refl, sym, ap, ◌∙◌, subst, arith, if◌then◌else◌, length-append}
use Rattle.std.specs.Prelude.{min, nat_le, nat_lt, ◌==◌, ◌&&◌, ◌||◌}
use Rattle.std.specs.List.{list_any, AllByRecursion}
use Rattle.std.proofs.lemmas.List.Folds.{list_any-append}
use Rattle.std.proofs.lemmas.Bool.Decides.{nat_tests}
use Rattle.std.proofs.lemmas.List.Elements.{filter-append}
use Rattle.std.proofs.lemmas.List.{append-nil, length-map, length-take, length_push, map-append, take-append-drop, take-append-le, take_all}
use Rattle.doc.specs.Mapping.{MappingData}
use Rattle.engine.specs.Live.{is_within, live_of, numbers_within}
use Rattle.engine.specs.Parts.{PartData, all_published, documents_of_parts, published_of, woven, AreParts}
use Rattle.engine.specs.Published.{Published, greatest, is_numbered, mergeable_count, numbered, AreDistinct}
use Rattle.engine.proofs.LivingLaws.{filter-parts}
use Rattle.engine.proofs.SwapLaws.{taken-push}

-- parts that bear one of some numbers
module _ (ns : List ℕ) where
  abbrev pub is_chosen : PartData → Bool
  is_chosen p = is_numbered ns (published_of p)

  abbrev pub chosen_of : List PartData → List PartData
  chosen_of ps = filter is_chosen ps

  pub chosen-published : (ps : List PartData) → all_published (chosen_of ps) ≡ numbered ns (all_published ps)
  chosen-published [] = refl
  chosen-published (p ∷ ps) = elim (is_chosen p) as (λ b. all_published (cond b (p ∷ chosen_of ps) (chosen_of ps)) ≡ cond b (published_of p ∷ numbered ns (all_published ps)) (numbered ns (all_published ps))) [
    | true ↦ ap (λ ss. published_of p ∷ ss) (chosen-published ps)
    | false ↦ chosen-published ps
  ]

  pub chosen-live : (ps : List PartData) → documents_of_parts (chosen_of ps) ≡ live_of ns (all_published ps) (documents_of_parts ps)
  chosen-live [] = refl
  chosen-live (p ∷ ps) = elim (is_chosen p) as (λ b. documents_of_parts (cond b (p ∷ chosen_of ps) (chosen_of ps)) ≡ cond b (p.documents ∷ live_of ns (all_published ps) (documents_of_parts ps)) (live_of ns (all_published ps) (documents_of_parts ps))) [
    | true ↦ ap (λ ds. p.documents ∷ ds) (chosen-live ps)
    | false ↦ chosen-live ps
  ]

  pub chosen-parts : (m : MappingData) (ps : List PartData) → AreParts m ps → AreParts m (chosen_of ps)
  chosen-parts m ps are = filter-parts is_chosen m ps are

  pub chosen-woven : (ps : List PartData) → woven (documents_of_parts (chosen_of ps)) ≡ woven (live_of ns (all_published ps) (documents_of_parts ps))
  chosen-woven ps = ap woven (chosen-live ps)

-- without parts there are no documents
pub none-woven : (ps : List PartData) → length ps ≡ 0 → woven (documents_of_parts ps) ≡ []
none-woven [] none = refl
none-woven (p ∷ ps) none = absurd (omega (arith, none))

pub published-long : (ps : List PartData) → length (all_published ps) ≡ length ps
published-long ps = length-map ps published_of

-- ---- parts that a merge may take

abbrev one_if : Bool → ℕ
one_if b = cond b 1 0

abbrev pub is_below : PartData → Bool
is_below p = nat_lt p.number greatest

abbrev pub mergeables : List PartData → ℕ
mergeables ps = mergeable_count (all_published ps)

abbrev below_in : List PartData → List Published
below_in ps = filter (λ (s : Published). nat_lt s.number greatest) (all_published ps)

mergeables-push : (ps : List PartData) (x : PartData) → mergeables (ps ++ x ∷ []) ≡ mergeables ps + one_if (is_below x)
mergeables-push [] x = elim (is_below x) as (λ b. length (cond b (published_of x ∷ []) []) ≡ 0 + cond b 1 0) [ true ↦ refl | false ↦ refl ]
mergeables-push (p ∷ ps) x =
    let rest = mergeables-push ps x in
    elim (is_below p) as (λ b. length (cond b (published_of p ∷ below_in (ps ++ x ∷ [])) (below_in (ps ++ x ∷ []))) ≡ length (cond b (published_of p ∷ below_in ps) (below_in ps)) + one_if (is_below x)) [ true ↦ omega (arith, rest) | false ↦ rest ]

-- one part more
pub mergeables-more : (ps : List PartData) (i : ℕ) (x : PartData) → i < length ps → x ≡ get_or ps i x → mergeables (take (i + 1) ps) ≡ mergeables (take i ps) + cond (is_below x) 1 0
mergeables-more ps i x lt is = ap mergeables (taken-push ps i x lt is) ∙ mergeables-push (take i ps) x

-- the numbers of those in which no more documents are live
abbrev pub numbers_of : ℕ → List PartData → List ℕ
numbers_of most ps = numbers_within most (all_published ps) (documents_of_parts ps)

numbers-push : (most : ℕ) (ps : List PartData) (x : PartData) → numbers_of most (ps ++ x ∷ []) ≡ numbers_of most ps ++ cond (is_within most (published_of x) x.documents) (x.number ∷ []) []
numbers-push most [] x = refl
numbers-push most (p ∷ ps) x =
    let rest = numbers-push most ps x in
    elim (is_within most (published_of p) p.documents) as (λ b. cond b (p.number ∷ numbers_of most (ps ++ x ∷ [])) (numbers_of most (ps ++ x ∷ [])) ≡ cond b (p.number ∷ numbers_of most ps) (numbers_of most ps) ++ cond (is_within most (published_of x) x.documents) (x.number ∷ []) []) [
      | true ↦ ap (λ ns. p.number ∷ ns) rest
      | false ↦ rest
    ]

-- ---- parts that bear a number

abbrev borne : ℕ → List PartData → ℕ
borne n ps = length (chosen_of (n ∷ []) ps)

abbrev Once : List PartData → Type 0
Once ps = (n : ℕ) → n < greatest → borne n ps ≤ 1

filter_fewer : {A : Type 0} (p q : A → Bool) (xs : List A) → length (filter p (filter q xs)) ≤ length (filter p xs)
filter_fewer p q [] = omega arith
filter_fewer p q (x ∷ xs) =
    let rest = filter_fewer p q xs in
    elim (q x) as (λ b. length (filter p (cond b (x ∷ filter q xs) (filter q xs))) ≤ length (filter p (x ∷ xs))) [
      | true ↦ elim (p x) as (λ b. length (cond b (x ∷ filter p (filter q xs)) (filter p (filter q xs))) ≤ length (cond b (x ∷ filter p xs) (filter p xs))) [ true ↦ omega (arith, rest) | false ↦ rest ]
      | false ↦ elim (p x) as (λ b. length (filter p (filter q xs)) ≤ length (cond b (x ∷ filter p xs) (filter p xs))) [ true ↦ omega (arith, rest) | false ↦ rest ]
    ]

borne-published : (n : ℕ) (ps : List PartData) → borne n ps ≡ length (numbered (n ∷ []) (all_published ps))
borne-published n ps = sym (length-map (chosen_of (n ∷ []) ps) published_of) ∙ ap length (chosen-published (n ∷ []) ps)

borne-take : (n k : ℕ) (ps : List PartData) → borne n (take k ps) ≤ borne n ps
borne-take n k ps =
    let split : borne n (take k ps ++ drop k ps) ≡ borne n (take k ps) + borne n (drop k ps) =
    ap length (filter-append (is_chosen (n ∷ [])) (take k ps) (drop k ps)) ∙ length-append (chosen_of (n ∷ []) (take k ps)) (chosen_of (n ∷ []) (drop k ps)) in
    omega (arith, split, ap (borne n) (take-append-drop k ps))

once-take : (k : ℕ) (ps : List PartData) → AreDistinct (all_published ps) → Once (take k ps)
once-take k ps distinct n lt = omega (arith, borne-take n k ps, borne-published n ps, distinct n lt)

pub bears : (p : PartData) → is_chosen (p.number ∷ []) p ≡ true
bears p = ap (λ b. b || false) same
  where
    same : (p.number == p.number) ≡ true
    same = grind (arith, nat_tests)

borne-push : (ps : List PartData) (x : PartData) → borne x.number (ps ++ x ∷ []) ≡ borne x.number ps + 1
borne-push ps x =
    ap length (filter-append (is_chosen (x.number ∷ [])) ps (x ∷ [])) ∙ length-append (chosen_of (x.number ∷ []) ps) (chosen_of (x.number ∷ []) (x ∷ []))
    ∙ ap (λ b. borne x.number ps + length (cond b (x ∷ []) [])) (bears x)

chosen-push : (ns : List ℕ) (n : ℕ) (p : PartData) → is_chosen (ns ++ n ∷ []) p ≡ (is_chosen ns p || is_chosen (n ∷ []) p)
chosen-push ns n p = list_any-append (λ k. k == p.number) ns (n ∷ [])

or_true : (a b : Bool) → b ≡ true → (a || b) ≡ true
or_true true b is = refl
or_true false b is = is

or_false : (a b : Bool) → b ≡ false → (a || b) ≡ a
or_false true b is = refl
or_false false b is = is

-- where no part bears a number it chooses none
unborne : (ns : List ℕ) (n : ℕ) (ps : List PartData) → borne n ps ≤ 0 → chosen_of (ns ++ n ∷ []) ps ≡ chosen_of ns ps
unborne ns n [] none = refl
unborne ns n (p ∷ ps) none = by_test (λ few. unborne ns n ps few) (is_chosen (n ∷ []) p) refl none
  where
    by_test : (borne n ps ≤ 0 → chosen_of (ns ++ n ∷ []) ps ≡ chosen_of ns ps) → (b : Bool) → is_chosen (n ∷ []) p ≡ b → length (cond b (p ∷ chosen_of (n ∷ []) ps) (chosen_of (n ∷ []) ps)) ≤ 0 → chosen_of (ns ++ n ∷ []) (p ∷ ps) ≡ chosen_of ns (p ∷ ps)
    by_test rest true is few = absurd (omega (arith, few))
    by_test rest false is few =
        ap (λ b. cond b (p ∷ chosen_of (ns ++ n ∷ []) ps) (chosen_of (ns ++ n ∷ []) ps)) (chosen-push ns n p ∙ or_false (is_chosen ns p) (is_chosen (n ∷ []) p) is)
        ∙ ap (λ (qs : List PartData). cond (is_chosen ns p) (p ∷ qs) qs) (rest few)

both_true : (a b : Bool) → (a && b) ≡ true → (a ≡ true) × (b ≡ true)
both_true true b is = (refl, is)
both_true false b is = cc

and_true : (a b : Bool) → a ≡ true → b ≡ true → (a && b) ≡ true
and_true true b p q = q
and_true false b p q = cc

abbrev AllBelow : List PartData → Type 0
AllBelow ps = AllByRecursion (λ p. is_below p ≡ true) ps

below-push : (ps : List PartData) (x : PartData) → AllBelow ps → is_below x ≡ true → AllBelow (ps ++ x ∷ [])
below-push [] x all is = (is, tt)
below-push (p ∷ ps) x all is = (all.0, below-push ps x all.1 is)

abbrev has_number : ℕ → List PartData → Bool
has_number k ps = list_any (λ n. n == k) (map (λ (p : PartData). p.number) ps)

-- a number of such parts is borne by one of them, and isn't the greatest
borne-below : (k : ℕ) (ps : List PartData) → AllBelow ps → has_number k ps ≡ true → (k < greatest) × (1 ≤ borne k ps)
borne-below k [] all any = cc
borne-below k (p ∷ ps) all any = by_test (λ there. borne-below k ps all.1 there) (p.number == k) refl any
  where
    by_test : (has_number k ps ≡ true → (k < greatest) × (1 ≤ borne k ps)) → (b : Bool) → (p.number == k) ≡ b → (b || has_number k ps) ≡ true → (k < greatest) × (1 ≤ borne k (p ∷ ps))
    by_test rest true is any =
        let same : p.number ≡ k = grind (arith, nat_tests, is) in
        let less = all.0 in
        let below : p.number < greatest = grind (arith, nat_tests, less) in
        let here : is_chosen (k ∷ []) p ≡ true = subst (λ n. is_chosen (n ∷ []) p ≡ true) same (bears p) in
        (omega (arith, below, same), subst (λ b. 1 ≤ length (cond b (p ∷ chosen_of (k ∷ []) ps) (chosen_of (k ∷ []) ps))) (sym here) (omega arith))
    by_test rest false is any =
        let found = rest any in
        (found.0, elim (is_chosen (k ∷ []) p) as (λ b. 1 ≤ length (cond b (p ∷ chosen_of (k ∷ []) ps) (chosen_of (k ∷ []) ps))) [ true ↦ omega arith | false ↦ found.1 ])

-- ---- a choice

-- what is chosen of parts: the first ten in which no more documents are live, or of all
pub record IsChoice (most : ℕ) (ps : List PartData) (ns : List ℕ) : Type 0 where
  pub same : map (λ (p : PartData). p.number) (chosen_of ns ps) ≡ ns
  pub below : AllByRecursion (λ (p : PartData). nat_lt p.number greatest ≡ true) (chosen_of ns ps)
  pub are : ns ≡ take 10 (numbers_within most (all_published ps) (documents_of_parts ps))
  pub all : most ≡ 18446744073709551615 → length ns ≡ min 10 (mergeable_count (all_published ps))

pub choice-none : (most : ℕ) (ps : List PartData) → IsChoice most (take 0 ps) []
choice-none most ps = record { same = refl; below = tt; are = refl; all = λ each. omega arith }

module _ (most : ℕ) (ps : List PartData) (x : PartData) (ns : List ℕ) (once : Once (ps ++ x ∷ [])) (so_far : IsChoice most ps ns) (short : length x.documents < 2 ^ 32) where
  abbrev before : List PartData
  before = chosen_of ns ps

  abbrev with_it : List ℕ
  with_it = ns ++ x.number ∷ []

  abbrev fits : Bool
  fits = is_within most (published_of x) x.documents

  few : length ns ≤ 10
  few = omega (arith, ap length so_far.are, length-take 10 (numbers_of most ps))

  module _ (room : length ns < 10) (is : fits ≡ true) where
    less : is_below x ≡ true
    less = (both_true (is_below x) (nat_le (length x.documents) most) is).0

    new : borne x.number ps ≤ 0
    new =
        let below = less in
        let lt : x.number < greatest = grind (arith, nat_tests, below) in
        omega (arith, borne-push ps x, once x.number lt)

    more : chosen_of with_it (ps ++ x ∷ []) ≡ before ++ x ∷ []
    more =
        filter-append (is_chosen with_it) ps (x ∷ [])
        ∙ ap (λ (qs : List PartData). qs ++ chosen_of with_it (x ∷ [])) (unborne ns x.number ps new)
        ∙ ap (λ b. before ++ cond b (x ∷ []) []) (chosen-push ns x.number x ∙ or_true (is_chosen ns x) (is_chosen (x.number ∷ []) x) (bears x))

    -- there are no others so far
    whole : ns ≡ numbers_of most ps
    whole = so_far.are ∙ take_all 10 (numbers_of most ps) (omega (arith, ap length so_far.are, length-take 10 (numbers_of most ps), room))

    pushed : numbers_of most (ps ++ x ∷ []) ≡ with_it
    pushed = numbers-push most ps x ∙ ap (λ b. numbers_of most ps ++ cond b (x.number ∷ []) []) is ∙ ap (λ (ms : List ℕ). ms ++ x.number ∷ []) (sym whole)

    pub choice-goes : IsChoice most (ps ++ x ∷ []) with_it
    choice-goes = record {
      same = ap (map (λ (p : PartData). p.number)) more ∙ map-append (λ (p : PartData). p.number) before (x ∷ []) ∙ ap (λ (ns : List ℕ). ns ++ x.number ∷ []) so_far.same;
      below = subst AllBelow (sym more) (below-push before x so_far.below less);
      are = sym (ap (take 10) pushed ∙ take_all 10 with_it (omega (arith, length_push ns x.number, room)));
      all = λ each. omega (arith, length_push ns x.number, so_far.all each, mergeables-push ps x, ap one_if less, room);
    }

  module _ (not_goes : (length ns < 10 → fits ≡ true → ⊥)) where
    not_chosen : (b : Bool) → is_chosen ns x ≡ b → b ≡ false
    not_chosen false is = refl
    not_chosen true is =
        let found = borne-below x.number before so_far.below (ap (λ (ns : List ℕ). list_any (λ n. n == x.number) ns) so_far.same ∙ is) in
        absurd (omega (arith, found.1, filter_fewer (is_chosen (x.number ∷ [])) (is_chosen ns) ps, borne-push ps x, once x.number found.0))

    no_more : chosen_of ns (ps ++ x ∷ []) ≡ before
    no_more =
        filter-append (is_chosen ns) ps (x ∷ [])
        ∙ ap (λ b. before ++ cond b (x ∷ []) []) (not_chosen (is_chosen ns x) refl)
        ∙ append-nil before

    -- ten are chosen, or it doesn't fit
    still : (b : Bool) → fits ≡ b → ns ≡ take 10 (numbers_of most ps ++ cond b (x.number ∷ []) [])
    still false is = so_far.are ∙ ap (take 10) (sym (append-nil (numbers_of most ps)))
    still true is = full (nat_lt (length ns) 10) refl
      where
        full : (b : Bool) → nat_lt (length ns) 10 ≡ b → ns ≡ take 10 (numbers_of most ps ++ x.number ∷ [])
        full true lt = let room : length ns < 10 = grind (arith, nat_tests, lt) in absurd (not_goes room is)
        full false ge =
            let many : 10 ≤ length ns = grind (arith, nat_tests, ge) in
            so_far.are ∙ sym (take-append-le 10 (numbers_of most ps) (x.number ∷ []) (omega (arith, ap length so_far.are, length-take 10 (numbers_of most ps), many)))

    -- where all sizes are taken ten are chosen, or a merge may not take it
    each_still : most ≡ 18446744073709551615 → (b : Bool) → is_below x ≡ b → length ns ≡ min 10 (mergeables ps + cond b 1 0)
    each_still each false is = omega (arith, so_far.all each)
    each_still each true is = full (nat_lt (length ns) 10) refl
      where
        full : (b : Bool) → nat_lt (length ns) 10 ≡ b → length ns ≡ min 10 (mergeables ps + 1)
        full true lt =
            let room : length ns < 10 = grind (arith, nat_tests, lt) in
            let size : nat_le (length x.documents) most ≡ true = grind (arith, nat_tests, each, short) in
            absurd (not_goes room (and_true (is_below x) (nat_le (length x.documents) most) is size))
        full false ge = let many : 10 ≤ length ns = grind (arith, nat_tests, ge) in omega (arith, many, so_far.all each)

    pub choice-stays : IsChoice most (ps ++ x ∷ []) ns
    choice-stays = record {
      same = ap (map (λ (p : PartData). p.number)) no_more ∙ so_far.same;
      below = subst AllBelow (sym no_more) so_far.below;
      are = still fits refl ∙ sym (ap (take 10) (numbers-push most ps x));
      all = λ each. each_still each (is_below x) refl ∙ sym (ap (λ n. min 10 n) (mergeables-push ps x));
    }

-- one part more
pub choice-more : (most : ℕ) (ps : List PartData) (i : ℕ) (x : PartData) (ns ms : List ℕ) → AreDistinct (all_published ps) → i < length ps → x ≡ get_or ps i x → length x.documents < 2 ^ 32
    → ms ≡ (if nat_lt (length ns) 10 && is_within most (published_of x) x.documents then ns ++ x.number ∷ [] else ns) → IsChoice most (take i ps) ns → IsChoice most (take (i + 1) ps) ms
choice-more most ps i x ns ms distinct lt is short now so_far =
    subst (λ (qs : List PartData). IsChoice most qs ms) (sym pushed) (subst (λ (ms : List ℕ). IsChoice most (take i ps ++ x ∷ []) ms) (sym now) (by_tests (nat_lt (length ns) 10) (is_within most (published_of x) x.documents) refl refl))
  where
    pushed : take (i + 1) ps ≡ take i ps ++ x ∷ []
    pushed = taken-push ps i x lt is

    once : Once (take i ps ++ x ∷ [])
    once = subst Once pushed (once-take (i + 1) ps distinct)

    by_tests : (a b : Bool) → nat_lt (length ns) 10 ≡ a → is_within most (published_of x) x.documents ≡ b → IsChoice most (take i ps ++ x ∷ []) (if a && b then ns ++ x.number ∷ [] else ns)
    by_tests true true room fits = let lt : length ns < 10 = grind (arith, nat_tests, room) in choice-goes most (take i ps) x ns once so_far short lt fits
    by_tests true false room fits = choice-stays most (take i ps) x ns once so_far short (λ lt is. cc)
    by_tests false b room fits = choice-stays most (take i ps) x ns once so_far short (λ lt is. grind (arith, nat_tests, room, lt))

module _ (most : ℕ) (ps : List PartData) (ns : List ℕ) (is : IsChoice most ps ns) where
  -- as many segments bear the numbers as there are numbers
  pub choice-long : length ns ≡ length (numbered ns (all_published ps))
  choice-long = sym (sym (length-map (chosen_of ns ps) (λ (p : PartData). p.number)) ∙ ap length is.same) ∙ sym (published-long (chosen_of ns ps)) ∙ ap length (chosen-published ns ps)
