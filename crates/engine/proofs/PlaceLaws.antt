-- Where a number is, or goes, in a list of operations.
use Rattle.std.proofs.Common.{◌≡◌, ◌∙◌, subst, ℕ, zero, suc, ◌<◌, ◌≤◌, List, [], ◌∷◌, length, get_or, None, slice_get, Result, Ok, Err, IfOk, IfErr, refl, sym, ap, arith}
use Rattle.std.specs.List.{AllWithin, AllByRecursion}
use Rattle.std.specs.List.Sorted.{IsSearchInRange, IsBinarySearchResult, IsNonDecreasingBy}
use Rattle.std.specs.Ordering.{nat_cmp, ordering_index}
use Rattle.std.proofs.lemmas.Cmp.{ranked}
use Rattle.std.proofs.lemmas.Bool.Decides.{nat_tests}
use Rattle.op.specs.declared.operation.Op.{Op}
use Rattle.op.specs.Operations.{IsAscending, op_at}
use Rattle.op.proofs.OperationLaws.{above_less}
use Rattle.std.proofs.lemmas.List.{get_or-map, length-map}
use Rattle.engine.specs.Place.{IsGap}
use Rattle.engine.specs.Slot.{SlotData, ops}

-- the operations before place i are below the number
abbrev pub IsBelowBefore : List Op → ℕ → ℕ → Type 0
IsBelowBefore os n i = AllWithin (λ p. p.seq < n) os 0 i

tail_below : (p : Op) (ps : List Op) (n i : ℕ) → IsBelowBefore (p ∷ ps) n (suc i) → IsBelowBefore ps n i
tail_below p ps n i h k d low lt = h (suc k) d (omega arith) (omega arith)

-- the first that is not below the number, and has it, is found
pub op_at_found : (os : List Op) (n i : ℕ) (d : Op) → i < length os → IsBelowBefore os n i → (get_or os i d).seq ≡ n → slice_get os i ≡ op_at os n
op_at_found [] n i d lt h is = absurd (omega arith)
op_at_found (p ∷ ps) n zero d lt h is = grind (arith, nat_tests)
op_at_found (p ∷ ps) n (suc i) d lt h is = let here : p.seq < n = h 0 d (omega arith) (omega arith) in grind (arith, nat_tests, op_at_found ps n i d (omega arith) (tail_below p ps n i h) is)

above_none : (os : List Op) (n : ℕ) → AllByRecursion (λ p. n < p.seq) os → op_at os n ≡ None
above_none [] n all = refl
above_none (p ∷ ps) n all = let h : n < p.seq = all.0 in grind (arith, nat_tests, above_none ps n all.1)

-- the first that is not below the number, and is above it, is where the number goes
pub is_gap : (os : List Op) (n i : ℕ) (d : Op) → IsAscending os → i ≤ length os → IsBelowBefore os n i → (i < length os → n < (get_or os i d).seq) → IsGap os n i
is_gap [] n zero d up le h above = record { in_range = le; free = refl; place = λ o is. refl }
is_gap [] n (suc i) d up le h above = absurd (omega arith)
is_gap (p ∷ ps) n zero d up le h above =
    let here : n < p.seq = above (omega arith) in
    record { in_range = le; free = above_none (p ∷ ps) n (here, above_less n p.seq ps here up.0); place = λ o is. grind (arith, nat_tests) }
is_gap (p ∷ ps) n (suc i) d up le h above =
    let here : p.seq < n = h 0 d (omega arith) (omega arith) in
    let rest = is_gap ps n i d up.1 (omega arith) (tail_below p ps n i h) (λ lt. above (omega arith)) in
    record { in_range = le; free = grind (arith, nat_tests, rest.free); place = λ o is. grind (arith, nat_tests, rest.place o is) }

-- where all are below the number, it goes to the end
pub end_gap : (os : List Op) (n : ℕ) → IsAscending os → (i : ℕ) → length os ≤ i → IsBelowBefore os n i → IsGap os n (length os)
end_gap [] n up i le h = record { in_range = omega arith; free = refl; place = λ o is. refl }
end_gap (p ∷ ps) n up i le h =
    is_gap (p ∷ ps) n (length (p ∷ ps)) p up (omega arith) (λ k d low lt. h k d low (omega arith)) (λ lt. absurd (omega arith))

each_at : (P : Op → Type 0) (os : List Op) (k : ℕ) (d : Op) → AllByRecursion P os → k < length os → P (get_or os k d)
each_at P [] k d all lt = absurd (omega arith)
each_at P (o ∷ os) zero d all lt = all.0
each_at P (o ∷ os) (suc k) d all lt = each_at P os k d all.1 (omega arith)

-- the numbers rise, place by place
pub rise : (os : List Op) (i j : ℕ) (d : Op) → IsAscending os → i < j → j < length os → (get_or os i d).seq < (get_or os j d).seq
rise [] i j d up lt in_range = absurd (omega arith)
rise (o ∷ os) i zero d up lt in_range = absurd (omega arith)
rise (o ∷ os) zero (suc j) d up lt in_range = each_at (λ p. o.seq < p.seq) os j d up.0 (omega arith)
rise (o ∷ os) (suc i) (suc j) d up lt in_range = rise os i j d up.1 (omega arith) (omega arith)

same_or : (os : List Op) (i : ℕ) (d e : Op) → i < length os → get_or os i d ≡ get_or os i e
same_or [] i d e lt = absurd (omega arith)
same_or (o ∷ os) zero d e lt = refl
same_or (o ∷ os) (suc i) d e lt = same_or os i d e (omega arith)

-- an operation that has the number is the one that has it
pub op_at-here : (os : List Op) (n i : ℕ) (d : Op) → IsAscending os → i < length os → (get_or os i d).seq ≡ n → slice_get os i ≡ op_at os n
op_at-here os n i d up lt is =
    op_at_found os n i d lt
    (λ k e low le. let at : (get_or os i e).seq ≡ n = ap (λ (o : Op). o.seq) (same_or os i e d lt) ∙ is in omega (arith, at, rise os k i e up le lt)) is

-- a number above the last one goes to the end
pub gap-above : (os : List Op) (n i : ℕ) (d : Op) → IsAscending os → length os ≡ suc i → (get_or os i d).seq < n → IsGap os n (length os)
gap-above os n i d up len above =
    end_gap os n up (length os) (omega arith)
    (λ k e low lt.
    let last : (get_or os i e).seq < n = subst (λ (o : Op). o.seq < n) (same_or os i d e (omega (arith, len))) above in
    grind (arith, len, last, rise os k i e up, λ (same : k ≡ i). ap (λ j. (get_or os j e).seq) same))

-- the same of slots
pub op_at-slot : (ss : List SlotData) (n : ℕ) (d : SlotData) → IsAscending (ops ss) → n < length ss → (get_or ss n d).op.seq ≡ n → slice_get (ops ss) n ≡ op_at (ops ss) n
op_at-slot ss n d up lt is =
    op_at-here (ops ss) n n d.op up (omega (arith, lt, length-map ss (λ (s : SlotData). s.op))) (ap (λ (o : Op). o.seq) (get_or-map (λ (s : SlotData). s.op) ss n d d.op lt) ∙ is)

pub gap-slot : (ss : List SlotData) (n i : ℕ) (d : SlotData) → IsAscending (ops ss) → length ss ≡ suc i → (get_or ss i d).op.seq < n → IsGap (ops ss) n (length ss)
gap-slot ss n i d up len above =
    let long = length-map ss (λ (s : SlotData). s.op) in
    subst (λ k. IsGap (ops ss) n k) long
    (gap-above (ops ss) n i d.op up (long ∙ len) (subst (λ (o : Op). o.seq < n) (sym (get_or-map (λ (s : SlotData). s.op) ss i d d.op (omega (arith, len)))) above))

module _ (n : ℕ) where
  -- the comparisons with the number rise along the list, as a binary search asks
  comparisons_rise : (os : List Op) → IsAscending os → IsNonDecreasingBy (λ o. ordering_index (nat_cmp o.seq n)) os
  comparisons_rise os up = λ i j d le in_range.
      let numbers_rise : (get_or os i d).seq ≤ (get_or os j d).seq = grind (arith, rise os i j d up, λ (same : i ≡ j). ap (λ k. (get_or os k d).seq) same) in
      grind (arith, nat_tests)

  pub record IsPlace (os : List Op) (r : Result ℕ ℕ) : Type 0 where
    pub found : IfOk r (λ at. slice_get os at ≡ op_at os n)
    pub there : IfOk r (λ at. suc at ≤ length os)
    pub absent : IfErr r (IsGap os n)

  -- a binary search ends at the number, or at its gap
  pub searched : (os : List Op) → IsAscending os → (r : Result ℕ ℕ) → IsSearchInRange r (length os) → IsBinarySearchResult (λ o. nat_cmp o.seq n) os r → IsPlace os r
  searched [] up (Ok at) in_range equal = absurd (omega (arith, in_range))
  searched (p ∷ ps) up (Ok at) in_range equal = record {
    found = op_at_found (p ∷ ps) n at p in_range
        (λ k d low lt. let same : (get_or (p ∷ ps) at d).seq ≡ n = ranked _ n _ (sym (equal d)) in omega (arith, rise (p ∷ ps) k at d up lt in_range))
        (ranked _ n _ (sym (equal p)));
    there = omega (arith, in_range);
    absent = tt;
  }
  searched [] up (Err at) in_range parted = record { found = tt; there = tt; absent = let none : at ≡ 0 = omega (arith, in_range) in rw none (end_gap [] n up 0 (omega arith) (λ k d low lt. absurd (omega arith))) }
  searched (p ∷ ps) up (Err at) in_range parted = record {
    found = tt;
    there = tt;
    absent = is_gap (p ∷ ps) n at p up in_range
        (λ k d low lt. ranked _ n _ (sym ((parted (comparisons_rise (p ∷ ps) up)).0 k d low lt)))
        (λ lt. ranked _ n _ (sym ((parted (comparisons_rise (p ∷ ps) up)).1 at p (omega arith) lt)));
  }
