-- The numbers of segments, and which of them stay.
use Rattle.std.proofs.Common.{◌≡◌, ◌<◌, ◌≤◌, ℕ, ◌+◌, Bool, true, false, List, [], ◌∷◌, ◌++◌, cond, length, length-append, refl, sym, ap, ◌∙◌, subst, arith, inl, inr}
use Rattle.std.specs.Prelude.{◌⊎◌, ◌&&◌, if◌then◌else◌, All, Contains, nat_lt, nat_le, ◌==◌, ◌||◌, slice_index_or}
use Rattle.std.specs.List.{list_all, AllByRecursion}
use Rattle.std.proofs.lemmas.List.Elements.{All-nil, All-cons, All-append, All-contains, All-contains_itself, Contains-append_left, Contains-append_right, Contains-push, Contains-push_cases, filter-append, recursion_from_All}
use Rattle.std.proofs.lemmas.Bool.Decides.{nat_tests}
use Rattle.doc.specs.Mapping.{MappingData}
use Rattle.op.specs.Documents.{Documents}
use Rattle.engine.specs.Live.{is_live, living}
use Rattle.engine.specs.Published.{Published, Segments, greatest, is_numbered, next_after, numbered, are_taken, taken_of, AreBelow, AreDistinct, AreSome, IsFronted, IsLeft, IsReplaced, IsSwapped, nothing, remains, was_taken, no_more, stays, goes}

-- all are new or were there before
abbrev pub AreNumbered : List Published → ℕ → List Published → Type 0
AreNumbered old number ss = All (λ s. Contains old s ⊎ (s.number ≡ number)) ss

pub all-one : (P : Published → Type 0) (s : Published) → P s → All P (s ∷ [])
all-one P s is = All-cons P s [] is (All-nil P)

none-left : (old : List Published) → AreSome old []
none-left [] = no_more
none-left (s ∷ old) = goes s old [] (none-left old)

-- those in which a document is live are some of all
living-some : (old : List Published) (ls : List Documents) → AreSome old (living old ls)
living-some [] ls = no_more
living-some (s ∷ old) [] = none-left (s ∷ old)
living-some (s ∷ old) (l ∷ ls) = elim (is_live l) as (λ b. AreSome (s ∷ old) (cond b (s ∷ living old ls) (living old ls))) [
  | true ↦ stays s old (living old ls) (living-some old ls)
  | false ↦ goes s old (living old ls) (living-some old ls)
]

-- one comes, unless no document is live in it, and some of the others stay
pub fronted-living : (number : ℕ) (old new : List Published) (s : Published) (l : Documents) (ls : List Documents) → s.number ≡ number → new ≡ living (s ∷ old) (l ∷ ls) → IsFronted number old new
fronted-living number old new s l ls bears is = subst (IsFronted number old) (sym is) (either (is_live l))
  where
    either : (b : Bool) → IsFronted number old (cond b (s ∷ living old ls) (living old ls))
    either true = record { front = s ∷ []; left = living old ls; some = living-some old ls; is = refl; one = omega arith; numbers = all-one (λ (t : Published). t.number ≡ number) s bears }
    either false = record { front = []; left = living old ls; some = living-some old ls; is = refl; one = omega arith; numbers = All-nil (λ (t : Published). t.number ≡ number) }

-- one comes, and all others go
pub fronted-alone : (number : ℕ) (old new : List Published) (s : Published) → new ≡ s ∷ [] → s.number ≡ number → IsFronted number old new
fronted-alone number old new s same is = record {
  front = s ∷ [];
  left = [];
  some = none-left old;
  is = same;
  one = omega arith;
  numbers = all-one (λ (t : Published). t.number ≡ number) s is;
}

some-old : (old left : List Published) → AreSome old left → All (λ s. Contains old s) left
some-old _ _ no_more = All-nil (λ s. Contains [] s)
some-old _ _ (stays s old left rest) =
    All-cons (λ t. Contains (s ∷ old) t) s left (Contains-append_left (s ∷ []) old s (Contains-push [] s))
    (λ k d lt. Contains-append_right (s ∷ []) old (slice_index_or left k d) (some-old old left rest k d lt))
some-old _ _ (goes s old left rest) = λ k d lt. Contains-append_right (s ∷ []) old (slice_index_or left k d) (some-old old left rest k d lt)

pub fronted-numbered : (number : ℕ) (old new : List Published) → IsFronted number old new → AreNumbered old number new
fronted-numbered number old new is =
    subst (AreNumbered old number) (sym is.is)
    (All-append (λ s. Contains old s ⊎ (s.number ≡ number)) is.front is.left (λ k d lt. inr (is.numbers k d lt)) (λ k d lt. inl (some-old old is.left is.some k d lt)))

pub rises : (n : ℕ) → n < 18446744073709551616 → n ≤ next_after n
rises n fits = grind (arith, nat_tests)

below-after : (n : ℕ) → next_after n < greatest → (n < greatest) × (next_after n ≡ n + 1)
below-after n lt = (omega (arith, lt), omega (arith, lt))

-- the next number is above those that are there and the one that comes
pub below-numbered : (old new : List Published) (number : ℕ) → AreBelow number old → AreNumbered old number new → AreBelow (next_after number) new
below-numbered old new number below numbered lt =
    let after = below-after number lt in
    λ k d within. below_one (slice_index_or new k d) (below after.0) after.1 (numbered k d within)
  where
    below_one : (s : Published) → All (λ t. t.number < number) old → next_after number ≡ number + 1 → Contains old s ⊎ (s.number ≡ number) → s.number < next_after number
    below_one s all is (inl there) = let less : s.number < number = All-contains (λ (t : Published). t.number < number) old s all there in omega (arith, less, is)
    below_one s all is (inr same) = omega (arith, same, is)

pub below-one : (s : Published) → AreBelow (next_after s.number) (s ∷ [])
below-one s lt = let after = below-after s.number lt in all-one (λ t. t.number < next_after s.number) s (omega (arith, after.1))

-- each that is left was there and wasn't taken
abbrev IsOld : List Published → List Published → Published → Type 0
IsOld taken old s = Contains old s × (Contains taken s → ⊥)

older : (taken old left : List Published) (s : Published) → All (IsOld taken old) left → All (IsOld taken (s ∷ old)) left
older taken old left s all = λ k d lt. still (slice_index_or left k d) (all k d lt)
  where
    still : (t : Published) → IsOld taken old t → IsOld taken (s ∷ old) t
    still t is = (Contains-append_right (s ∷ []) old t is.0, is.1)

left-old : (taken old left : List Published) → IsLeft taken old left → All (IsOld taken old) left
left-old taken _ _ nothing = All-nil (IsOld taken [])
left-old taken _ _ (remains s old left absent rest) =
    All-cons (IsOld taken (s ∷ old)) s left (Contains-append_left (s ∷ []) old s (Contains-push [] s), absent) (older taken old left s (left-old taken old left rest))
left-old taken _ _ (was_taken s old left there rest) = older taken old left s (left-old taken old left rest)

replaced-cases : (taken : List Published) (number : ℕ) (m : MappingData) (old new : List Published) (s : Published) → IsReplaced taken number m old new → Contains new s → IsOld taken old s ⊎ (s.number ≡ number)
replaced-cases taken number m old new s is there =
    elim (Contains-push_cases is.left is.merged s (subst (λ (ss : List Published). Contains ss s) is.is there)) [
      | inl kept ↦ inl (All-contains (IsOld taken old) is.left s (left-old taken old is.left is.others) kept)
      | inr same ↦ inr (ap (λ (t : Published). t.number) (sym same) ∙ is.numbered)
    ]

pub replaced-numbered : (taken : List Published) (number : ℕ) (m : MappingData) (old new : List Published) → IsReplaced taken number m old new → AreNumbered old number new
replaced-numbered taken number m old new is = λ k d lt. either (slice_index_or new k d) (replaced-cases taken number m old new (slice_index_or new k d) is (All-contains_itself new k d lt))
  where
    either : (s : Published) → IsOld taken old s ⊎ (s.number ≡ number) → Contains old s ⊎ (s.number ≡ number)
    either s (inl there) = inl there.0
    either s (inr same) = inr same

pub all-of : {A : Type 0} (p : A → Bool) (xs : List A) → list_all p xs ≡ true → All (λ x. p x ≡ true) xs
all-of p [] all = All-nil (λ x. p x ≡ true)
all-of p (x ∷ xs) all = let halves = both (p x) (list_all p xs) all in All-cons (λ x. p x ≡ true) x xs halves.0 (all-of p xs halves.1)
  where
    both : (a b : Bool) → (a && b) ≡ true → (a ≡ true) × (b ≡ true)
    both true b is = (refl, is)
    both false b is = cc

second_of : (a b : Bool) → (a && b) ≡ true → b ≡ true
second_of true b is = is
second_of false b is = cc

-- those that are taken don't bear the greatest number
pub taken-small : (taken : List Published) → are_taken taken ≡ true → All (λ (s : Published). nat_lt s.number greatest ≡ true) taken
taken-small taken are = all-of (λ (s : Published). nat_lt s.number greatest) taken (second_of (nat_le 2 (length taken)) (list_all (λ (s : Published). nat_lt s.number greatest) taken) are)

-- those that were taken are there no more: they were in use, and don't bear the greatest number
pub swapped : (taken : List Published) (old new : Segments) → are_taken taken ≡ true → AreBelow old.next old.published → IsReplaced taken old.next old.mapping old.published new.published
    → new.next ≡ next_after old.next → IsSwapped taken old new
swapped taken old new are below is next = record {
  replaced = is;
  gone = λ k d lt there. not_there (slice_index_or taken k d) (All-contains_itself taken k d lt) there (small k d lt);
  next = next;
  below = subst (λ n. AreBelow n new.published) (sym next) (below-numbered old.published new.published old.next below (replaced-numbered taken old.next old.mapping old.published new.published is));
}
  where
    small : All (λ (s : Published). nat_lt s.number greatest ≡ true) taken
    small = taken-small taken are

    fresh : (s : Published) → Contains old.published s → nat_lt s.number greatest ≡ true → s.number ≡ old.next → ⊥
    fresh s there less same = elim (nat_lt old.next greatest) as (λ b. nat_lt old.next greatest ≡ b → ⊥) [
      | true ↦ λ lt. let below_it : s.number < old.next = All-contains (λ (t : Published). t.number < old.next) old.published s (below (grind (arith, nat_tests, lt))) there in absurd (omega (arith, below_it, same))
      | false ↦ λ ge. grind (arith, nat_tests, ge, less, same)
    ] refl

    not_there : (s : Published) → Contains taken s → Contains old.published s → nat_lt s.number greatest ≡ true → Contains new.published s → ⊥
    not_there s was there less here = elim (replaced-cases taken old.next old.mapping old.published new.published s is here) [
      | inl other ↦ other.1 was
      | inr same ↦ fresh s there less same
    ]

-- what a merge takes is all, or none
pub taken-all : (ss : List Published) → are_taken ss ≡ true → ss ≡ taken_of ss
taken-all ss are = ap (λ b. if b then ss else []) (sym are)

pub taken-none : (ss : List Published) → are_taken ss ≡ false → taken_of ss ≡ []
taken-none ss are = ap (λ b. if b then ss else []) are

-- ---- how many segments bear a number

abbrev one_if : Bool → ℕ
one_if b = cond b 1 0

abbrev borne : ℕ → List Published → ℕ
borne n ss = length (numbered (n ∷ []) ss)

one_borne : (n : ℕ) (s : Published) (ss : List Published) → borne n (s ∷ ss) ≡ cond (n == s.number) 1 0 + borne n ss
one_borne n s ss = by_test (n == s.number)
  where
    by_test : (b : Bool) → length (cond (b || false) (s ∷ numbered (n ∷ []) ss) (numbered (n ∷ []) ss)) ≡ cond b 1 0 + borne n ss
    by_test true = omega arith
    by_test false = omega arith

one_at_most : (b : Bool) → cond b 1 0 ≤ 1
one_at_most true = omega arith
one_at_most false = omega arith

borne-append : (n : ℕ) (ss ts : List Published) → borne n (ss ++ ts) ≡ borne n ss + borne n ts
borne-append n ss ts = ap length (filter-append (is_numbered (n ∷ [])) ss ts) ∙ length-append (numbered (n ∷ []) ss) (numbered (n ∷ []) ts)

borne-some : (n : ℕ) (old left : List Published) → AreSome old left → borne n left ≤ borne n old
borne-some n _ _ no_more = omega arith
borne-some n _ _ (stays s old left rest) = omega (arith, borne-some n old left rest, one_borne n s old, one_borne n s left)
borne-some n _ _ (goes s old left rest) = omega (arith, borne-some n old left rest, one_borne n s old)

borne-left : (n : ℕ) (taken old left : List Published) → IsLeft taken old left → borne n left ≤ borne n old
borne-left n taken _ _ nothing = omega arith
borne-left n taken _ _ (remains s old left absent rest) = omega (arith, borne-left n taken old left rest, one_borne n s old, one_borne n s left)
borne-left n taken _ _ (was_taken s old left there rest) = omega (arith, borne-left n taken old left rest, one_borne n s old)

none-borne : (n : ℕ) (ss : List Published) → AllByRecursion (λ s. n ≡ s.number → ⊥) ss → borne n ss ≤ 0
none-borne n [] all = omega arith
none-borne n (s ∷ ss) all = let other : (n == s.number) ≡ false = by_test (n == s.number) refl in omega (arith, none-borne n ss all.1, one_borne n s ss, ap one_if other)
  where
    by_test : (b : Bool) → (n == s.number) ≡ b → b ≡ false
    by_test true is = let same : n ≡ s.number = grind (arith, nat_tests, is) in absurd (all.0 same)
    by_test false is = refl

few-borne : (n : ℕ) (ss : List Published) → borne n ss ≤ length ss
few-borne n [] = omega arith
few-borne n (s ∷ ss) = omega (arith, few-borne n ss, one_borne n s ss, one_at_most (n == s.number))

others : (n : ℕ) (ss : List Published) → ((s : Published) → Contains ss s → n ≡ s.number → ⊥) → borne n ss ≤ 0
others n ss other = none-borne n ss (recursion_from_All (λ (s : Published). n ≡ s.number → ⊥) ss (λ k d lt. other (slice_index_or ss k d) (All-contains_itself ss k d lt)))

module _ (old : List Published) (next : ℕ) (below : AreBelow next old) (distinct : AreDistinct old) where
  -- those that stay, and one that bears the next number
  joined-distinct : (kept came : List Published) → ((n : ℕ) → borne n kept ≤ borne n old) → length came ≤ 1 → All (λ (s : Published). s.number ≡ next) came → (n : ℕ) → n < greatest → borne n kept + borne n came ≤ 1
  joined-distinct kept came stay one numbers n lt = by_test (n == next) refl
    where
      by_test : (b : Bool) → (n == next) ≡ b → borne n kept + borne n came ≤ 1
      by_test true is =
          let same : n ≡ next = grind (arith, nat_tests, is) in
          let less : next < greatest = omega (arith, same, lt) in
          let none = others n old (λ s there at. let under : s.number < next = All-contains (λ (t : Published). t.number < next) old s (below less) there in omega (arith, under, same, at)) in
          omega (arith, none, stay n, few-borne n came, one)
      by_test false is =
          let none = others n came (λ s there at. let here : s.number ≡ next = All-contains (λ (t : Published). t.number ≡ next) came s numbers there in grind (arith, nat_tests, is, at, here)) in
          omega (arith, none, stay n, distinct n lt)

  pub fronted-distinct : (new : List Published) → IsFronted next old new → AreDistinct new
  fronted-distinct new is n lt =
      omega (arith, joined-distinct is.left is.front (λ n. borne-some n old is.left is.some) is.one is.numbers n lt, ap (borne n) is.is, borne-append n is.front is.left)

  pub replaced-distinct : (taken new : List Published) (m : MappingData) → IsReplaced taken next m old new → AreDistinct new
  replaced-distinct taken new m is n lt =
      omega (arith, joined-distinct is.left (is.merged ∷ []) (λ n. borne-left n taken old is.left is.others) (omega arith) (all-one (λ (s : Published). s.number ≡ next) is.merged is.numbered) n lt, ap (borne n) is.is, borne-append n is.left (is.merged ∷ []))

pub distinct-one : (s : Published) → AreDistinct (s ∷ [])
distinct-one s n lt = few-borne n (s ∷ [])
