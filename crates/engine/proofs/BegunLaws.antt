-- Merges that were begun.
use Rattle.std.proofs.Common.{◌≡◌, ◌<◌, ◌≤◌, ℕ, Bool, true, false, List, [], ◌∷◌, cond, length, refl, sym, ◌∙◌, subst, arith, inl, inr, Option, None, Some, IfSome}
use Rattle.std.specs.Prelude.{◌⊎◌, ◌||◌, All, Contains, filter, nat_lt, ◌==◌, slice_index_or}
use Rattle.std.proofs.lemmas.List.Elements.{All-nil, All-cons, All-contains, All-contains_itself, All-filter, Contains-append_left, Contains-append_right, Contains-push}
use Rattle.std.proofs.lemmas.Bool.Decides.{nat_tests}
use Rattle.engine.specs.Contents.{ShowingData, segments_shown, KeepsBegun}
use Rattle.std.specs.List.{list_all}
use Rattle.engine.specs.Published.{Published, greatest, is_numbered, numbered, are_taken, AreBelow, AreDistinct, AreKnown, IsBegun, IsFronted, IsSwapped}
use Rattle.engine.proofs.PublishedLaws.{AreNumbered, all-of, all-one, fronted-numbered, replaced-numbered, taken-small}

-- ---- what comes later leaves it

-- a segment that comes bears a number that none of those bears which are known
pub known-later : (next after : ℕ) (old new known : List Published) → AreNumbered old next new → next ≤ after → AreKnown next old known → AreKnown after new known
known-later next after old new known numbered rises are = record {
  below = λ k d lt. let less : (slice_index_or known k d).number < next = are.below k d lt in omega (arith, less, rises);
  told = λ k d lt. told_one (slice_index_or new k d) (numbered k d lt);
}
  where
    told_one : (s : Published) → Contains old s ⊎ (s.number ≡ next) → All (λ (t : Published). t.number ≡ s.number → t ≡ s) known
    told_one s (inl there) = All-contains (λ (s : Published). All (λ (t : Published). t.number ≡ s.number → t ≡ s) known) old s are.told there
    told_one s (inr same) = λ k d lt is. let less : (slice_index_or known k d).number < next = are.below k d lt in absurd (omega (arith, less, same, is))

pub still-known : {X : Type 0} (known : X → List Published) (m : Option X) (next after : ℕ) (old new : List Published) → AreNumbered old next new → next ≤ after
    → IfSome m (λ x. AreKnown next old (known x)) → IfSome m (λ x. AreKnown after new (known x))
still-known known None next after old new numbered rises are = tt
still-known known (Some x) next after old new numbered rises are = known-later next after old new (known x) numbered rises are

-- a merge leaves it
pub known-swapped : {X : Type 0} (known : X → List Published) (m : Option X) (taken : List Published) (old new : ShowingData) → old.next ≤ new.next → IsSwapped taken (segments_shown old) (segments_shown new)
    → IfSome m (λ x. AreKnown old.next old.published (known x)) → IfSome m (λ x. AreKnown new.next new.published (known x))
known-swapped known m taken old new rises swapped are =
    still-known known m old.next new.next old.published new.published (replaced-numbered taken old.next old.snapshot.mapping old.published new.published swapped.replaced) rises are

pub known-after : {X : Type 0} (known : X → List Published) (m : Option X) (taken : List Published) (old new : ShowingData) → old.next ≤ new.next → (taken ≡ [] → new ≡ old)
    → ((taken ≡ [] → ⊥) → IsSwapped taken (segments_shown old) (segments_shown new)) → IfSome m (λ x. AreKnown old.next old.published (known x)) → IfSome m (λ x. AreKnown new.next new.published (known x))
known-after known m [] old new rises same swapped are = subst (λ (s : ShowingData). IfSome m (λ x. AreKnown s.next s.published (known x))) (sym (same refl)) are
known-after known m (t ∷ ts) old new rises same swapped are = known-swapped known m (t ∷ ts) old new rises (swapped (some t ts)) are
  where
    some : (t : Published) (ts : List Published) → t ∷ ts ≡ [] → ⊥
    some t ts is = cc

pub begun-later : (next after : ℕ) (old new taken : List Published) → AreNumbered old next new → next ≤ after → IsBegun next old taken → IsBegun after new taken
begun-later next after old new taken numbered rises begun =
    let later = known-later next after old new taken numbered rises (record { below = begun.below; told = begun.told }) in
    record { are = begun.are; below = later.below; told = later.told }

pub keeps-fronted : (old new : ShowingData) → IsFronted old.next old.published new.published → old.next ≤ new.next → KeepsBegun old new
keeps-fronted old new fronted rises taken begun = begun-later old.next new.next old.published new.published taken (fronted-numbered old.next old.published new.published fronted) rises begun

pub still-begun : {X : Type 0} (taken : X → List Published) (m : Option X) (next after : ℕ) (old new : List Published) → IsFronted next old new → next ≤ after
    → IfSome m (λ x. IsBegun next old (taken x)) → IfSome m (λ x. IsBegun after new (taken x))
still-begun taken None next after old new fronted rises begun = tt
still-begun taken (Some x) next after old new fronted rises begun = begun-later next after old new (taken x) (fronted-numbered next old new fronted) rises begun

-- ---- what is begun

false-true : false ≡ true → ⊥
false-true t = cc

filter-there : (p : Published → Bool) (xs : List Published) → All (λ y. p y ≡ true → Contains (filter p xs) y) xs
filter-there p [] = All-nil (λ y. p y ≡ true → Contains [] y)
filter-there p (x ∷ xs) = by_test (p x) refl (filter-there p xs)
  where
    by_test : (b : Bool) → p x ≡ b → All (λ y. p y ≡ true → Contains (filter p xs) y) xs → All (λ y. p y ≡ true → Contains (cond (p x) (x ∷ filter p xs) (filter p xs)) y) (x ∷ xs)
    by_test true is rest =
        subst (λ c. All (λ y. p y ≡ true → Contains (cond c (x ∷ filter p xs) (filter p xs)) y) (x ∷ xs)) (sym is)
        (All-cons (λ y. p y ≡ true → Contains (x ∷ filter p xs) y) x xs (λ t. Contains-append_left (x ∷ []) (filter p xs) x (Contains-push [] x))
        (λ k d lt t. Contains-append_right (x ∷ []) (filter p xs) (slice_index_or xs k d) (rest k d lt t)))
    by_test false is rest =
        subst (λ c. All (λ y. p y ≡ true → Contains (cond c (x ∷ filter p xs) (filter p xs)) y) (x ∷ xs)) (sym is)
        (All-cons (λ y. p y ≡ true → Contains (filter p xs) y) x xs (λ t. absurd (false-true (sym is ∙ t))) rest)

few-one : (xs : List Published) (s t : Published) → length xs ≤ 1 → Contains xs s → Contains xs t → s ≡ t
few-one [] s t few first second = absurd (All-contains (λ y. ⊥) [] s (All-nil (λ y. ⊥)) first)
few-one (x ∷ []) s t few first second =
    sym (All-contains (λ y. x ≡ y) (x ∷ []) s (all-one (λ y. x ≡ y) x refl) first) ∙ All-contains (λ y. x ≡ y) (x ∷ []) t (all-one (λ y. x ≡ y) x refl) second
few-one (x ∷ y ∷ xs) s t few first second = absurd (omega (arith, few))

bears : (n : ℕ) (s : Published) → n ≡ s.number → is_numbered (n ∷ []) s ≡ true
bears n s is = by_test (n == s.number) refl
  where
    by_test : (b : Bool) → (n == s.number) ≡ b → (b || false) ≡ true
    by_test true at = refl
    by_test false at = grind (arith, nat_tests, at, is)

-- some of the segments that are there, none of which bears the greatest number
pub known-here : (next : ℕ) (ss known : List Published) → AreBelow next ss → AreDistinct ss → All (Contains ss) known → All (λ t. nat_lt t.number greatest ≡ true) known → AreKnown next ss known
known-here next ss known below distinct there small = record {
  below = λ k d lt. under (slice_index_or known k d) (there k d lt) (small k d lt);
  told = λ k d lt. λ j e less. told (slice_index_or ss k d) (slice_index_or known j e) (All-contains_itself ss k d lt) (there j e less) (small j e less);
}
  where
    under : (t : Published) → Contains ss t → nat_lt t.number greatest ≡ true → t.number < next
    under t is small = elim (nat_lt next greatest) as (λ b. nat_lt next greatest ≡ b → t.number < next) [
      | true ↦ λ lt. All-contains (λ (t : Published). t.number < next) ss t (below (grind (arith, nat_tests, lt))) is
      | false ↦ λ ge. grind (arith, nat_tests, ge, small)
    ] refl

    told : (s t : Published) → Contains ss s → Contains ss t → nat_lt t.number greatest ≡ true → t.number ≡ s.number → t ≡ s
    told s t here also small is =
        few-one (numbered (s.number ∷ []) ss) t s (distinct s.number (grind (arith, nat_tests, small, is)))
        (All-contains (λ y. is_numbered (s.number ∷ []) y ≡ true → Contains (numbered (s.number ∷ []) ss) y) ss t (filter-there (is_numbered (s.number ∷ [])) ss) also (bears s.number t (sym is)))
        (All-contains (λ y. is_numbered (s.number ∷ []) y ≡ true → Contains (numbered (s.number ∷ []) ss) y) ss s (filter-there (is_numbered (s.number ∷ [])) ss) here (bears s.number s refl))

-- all of them
pub known-all : (next : ℕ) (ss : List Published) → AreBelow next ss → AreDistinct ss → list_all (λ s. nat_lt s.number greatest) ss ≡ true → AreKnown next ss ss
known-all next ss below distinct small = known-here next ss ss below distinct (All-contains_itself ss) (all-of (λ s. nat_lt s.number greatest) ss small)

pub known-none : (next : ℕ) (ss : List Published) → AreKnown next ss []
known-none next ss = record { below = All-nil (λ (t : Published). t.number < next); told = λ k d lt. All-nil (λ (t : Published). t.number ≡ (slice_index_or ss k d).number → t ≡ slice_index_or ss k d) }

-- those that a merge takes
pub begun-numbered : (next : ℕ) (ss : List Published) (ns : List ℕ) → AreBelow next ss → AreDistinct ss → are_taken (numbered ns ss) ≡ true → IsBegun next ss (numbered ns ss)
begun-numbered next ss ns below distinct are =
    let known = known-here next ss (numbered ns ss) below distinct (All-filter (is_numbered ns) (Contains ss) ss (All-contains_itself ss)) (taken-small (numbered ns ss) are) in
    record { are = are; below = known.below; told = known.told }
