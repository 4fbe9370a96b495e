-- Slots, and the operations that they have.
use Rattle.std.proofs.Common.{◌≡◌, ℕ, zero, suc, ◌+◌, ◌-◌, ◌<◌, ◌++◌, false, List, [], ◌∷◌, length, get_or, take, drop, Result, Ok, Err, refl, sym, ap, subst, ◌∙◌, arith}
use Rattle.std.specs.List.Sorted.{IsSearchInRange, IsBinarySearchResult, IsNonDecreasingBy}
use Rattle.std.specs.Ordering.{nat_cmp, ordering_index}
use Rattle.std.proofs.lemmas.List.{take_more, map-append}
use Rattle.op.specs.declared.operation.Op.{Op}
use Rattle.op.specs.Operations.{IsAscending}
use Rattle.engine.specs.Slot.{SlotData, ops}
use Rattle.engine.proofs.PlaceLaws.{searched, IsPlace}

abbrev pub whole : Op → SlotData
whole o = record { op = o; gone = false }

pub length-ops : (ss : List SlotData) → length (ops ss) ≡ length ss
length-ops [] = refl
length-ops (s ∷ ss) = ap suc (length-ops ss)

-- the operation at a place is that of the slot
pub op-get : (ss : List SlotData) (k : ℕ) (d : SlotData) → get_or (ops ss) k d.op ≡ (get_or ss k d).op
op-get [] k d = refl
op-get (s ∷ ss) zero d = refl
op-get (s ∷ ss) (suc k) d = op-get ss k d

-- with one slot more
pub ops-more : (ss : List SlotData) (i : ℕ) (s : SlotData) → i < length ss → s ≡ get_or ss i s → ops (take (i + 1) ss) ≡ ops (take i ss) ++ s.op ∷ []
ops-more ss i s lt is = ap ops (take_more ss i s lt ∙ ap (λ (t : SlotData). take i ss ++ t ∷ []) (sym is)) ∙ map-append (λ (t : SlotData). t.op) (take i ss) (s ∷ [])

pub ops-drop : (n : ℕ) (ss : List SlotData) → ops (drop n ss) ≡ drop n (ops ss)
ops-drop zero ss = refl
ops-drop (suc n) [] = refl
ops-drop (suc n) (s ∷ ss) = ops-drop n ss

pub ops-take : (n : ℕ) (ss : List SlotData) → ops (take n ss) ≡ take n (ops ss)
ops-take zero ss = refl
ops-take (suc n) [] = refl
ops-take (suc n) (s ∷ ss) = ap (λ os. s.op ∷ os) (ops-take n ss)

-- ---- a binary search in slots is one in their operations

module _ (n : ℕ) where
  rise_in : (ss : List SlotData) → IsNonDecreasingBy (λ (o : Op). ordering_index (nat_cmp o.seq n)) (ops ss) → IsNonDecreasingBy (λ (s : SlotData). ordering_index (nat_cmp s.op.seq n)) ss
  rise_in ss up = λ i j d le lt.
      rw (sym (op-get ss i d), sym (op-get ss j d)) (up i j d.op le (rw (length-ops ss) lt))

  in_ops : (ss : List SlotData) (r : Result ℕ ℕ) → IsBinarySearchResult (λ (s : SlotData). nat_cmp s.op.seq n) ss r → IsBinarySearchResult (λ (o : Op). nat_cmp o.seq n) (ops ss) r
  in_ops ss (Ok at) equal = λ d. ap (λ (o : Op). nat_cmp o.seq n) (op-get ss at (whole d)) ∙ equal (whole d)
  in_ops ss (Err at) parted = λ up.
      let parts = parted (rise_in ss up) in (
        λ k d low lt. ap (λ (o : Op). nat_cmp o.seq n) (op-get ss k (whole d)) ∙ parts.0 k (whole d) low lt,
        λ k d low lt. ap (λ (o : Op). nat_cmp o.seq n) (op-get ss k (whole d)) ∙ parts.1 k (whole d) low (rw (length-ops ss) at lt),
      )

  pub searched_slots : (ss : List SlotData) → IsAscending (ops ss) → (r : Result ℕ ℕ) → IsSearchInRange r (length ss) → IsBinarySearchResult (λ (s : SlotData). nat_cmp s.op.seq n) ss r → IsPlace n (ops ss) r
  searched_slots ss up r in_range found = searched n (ops ss) up r (subst (IsSearchInRange r) (sym (length-ops ss)) in_range) (in_ops ss r found)

-- the last slot has the last operation
pub last-ops : (ss : List SlotData) (s : SlotData) → 0 < length ss → s ≡ get_or ss (length ss - 1) s → (0 < length (ops ss)) × (s.op ≡ get_or (ops ss) (length (ops ss) - 1) s.op)
last-ops ss s some is = (
  omega (arith, some, length-ops ss),
  ap (λ (t : SlotData). t.op) is ∙ sym (op-get ss (length ss - 1) s) ∙ ap (λ k. get_or (ops ss) (k - 1) s.op) (sym (length-ops ss)),
)

pub ops-push : (ss : List SlotData) (s : SlotData) → ops (ss ++ s ∷ []) ≡ ops ss ++ s.op ∷ []
ops-push ss s = map-append (λ (t : SlotData). t.op) ss (s ∷ [])

pub ops-append : (ss ts : List SlotData) → ops (ss ++ ts) ≡ ops ss ++ ops ts
ops-append ss ts = map-append (λ (t : SlotData). t.op) ss ts
