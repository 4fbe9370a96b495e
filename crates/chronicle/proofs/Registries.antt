-- Ledgers whose numbers rise.
use Rattle.std.proofs.Common.{◌≡◌, ℕ, ◌<◌, ◌≤◌, List, [], ◌∷◌, ◌++◌, length, refl, ap, sym, subst, ◌∙◌, ⊎_elim, arith, append-nil}
use Rattle.std.proofs.lemmas.Bool.{cases_lt}
use mathlib.Core.List.{IsPrefix}
use Rattle.chronicle.specs.declared.registry.Numbered.{Numbered}
use Rattle.chronicle.specs.Written.{Line}
use Rattle.chronicle.specs.Registered.{SeatData, seat_at, seat_of, last_seat, AreAbove, AreRising, IsAny}

module _ {E : Type 0} where
  -- one that comes last has a greater number than all before it
  above_last : (number : ℕ) (n : Numbered E) (ns : List (Numbered E)) → AreAbove number (n ∷ ns) → number < (last_seat (n ∷ ns)).number
  above_last number n [] above = above.0
  above_last number n (m ∷ ns) above = above_last number m ns above.1

  rises : (xs : List (Numbered E)) (n : Numbered E) (rest : List (Numbered E)) → IsAny xs → AreRising (xs ++ n ∷ rest) → (last_seat xs).number < (last_seat (xs ++ n ∷ rest)).number
  rises [] n rest any rising = absurd any
  rises (x ∷ []) n rest any rising = above_last x.number n rest rising.0
  rises (x ∷ y ∷ xs) n rest any rising = rises (y ∷ xs) n rest tt rising.1

  same_last : (xs rest : List (Numbered E)) → IsAny xs → AreRising (xs ++ rest) → (last_seat (xs ++ rest)).number ≡ (last_seat xs).number → last_seat (xs ++ rest) ≡ last_seat xs
  same_last xs [] any rising same = ap last_seat (append-nil xs)
  same_last xs (n ∷ rest) any rising same = absurd (let less = rises xs n rest any rising in omega (arith, less, same))

  -- where one list begins another, the last of both is one if their numbers are one
  begun : (xs ys : List (Numbered E)) → IsPrefix xs ys → IsAny xs → AreRising ys → (last_seat ys).number ≡ (last_seat xs).number → last_seat ys ≡ last_seat xs
  begun xs ys pre any rising same =
      let is : xs ++ pre.0 ≡ ys = pre.1 in
      ap last_seat (sym is) ∙ same_last xs pre.0 any (subst AreRising (sym is) rising) (ap (λ zs. (last_seat zs).number) is ∙ same)

  pub one_seat : (xs ys : List (Numbered E)) → IsAny xs → IsAny ys → AreRising xs → AreRising ys → (length xs ≤ length ys → IsPrefix xs ys) → (length ys ≤ length xs → IsPrefix ys xs)
      → (last_seat ys).number ≡ (last_seat xs).number → last_seat ys ≡ last_seat xs
  one_seat xs ys anyx anyy risex risey shorter longer same =
      ⊎_elim (λ (lt : length xs < length ys). begun xs ys (shorter (omega (arith, lt))) anyx risey same) (λ (le : length ys ≤ length xs). sym (begun ys xs (longer le) anyy risex (sym same))) (cases_lt (length xs) (length ys))

  -- one more, whose number is greater than the last
  above_more : (number : ℕ) (ns : List (Numbered E)) (n : Numbered E) → AreAbove number ns → number < n.number → AreAbove number (ns ++ n ∷ [])
  above_more number [] n above less = (less, tt)
  above_more number (m ∷ ns) n above less = (above.0, above_more number ns n above.1 less)

  rising_last : (m : Numbered E) (ns : List (Numbered E)) → AreRising (m ∷ ns) → m.number ≤ (last_seat (m ∷ ns)).number
  rising_last m [] rising = omega arith
  rising_last m (k ∷ ns) rising = let less = above_last m.number k ns rising.0 in omega (arith, less)

  pub rising_more : (ns : List (Numbered E)) (n : Numbered E) → AreRising ns → (last_seat ns).number < n.number → AreRising (ns ++ n ∷ [])
  rising_more [] n rising less = (tt, tt)
  rising_more (m ∷ []) n rising less = ((less, tt), (tt, tt))
  rising_more (m ∷ k ∷ ns) n rising less =
      let last = rising_last k ns rising.1 in
      (above_more m.number (k ∷ ns) n rising.0 (omega (arith, rising.0.0, last, less)), rising_more (k ∷ ns) n rising.1 less)

  pub last_more : (ns : List (Numbered E)) (n : Numbered E) → last_seat (ns ++ n ∷ []) ≡ seat_of n
  last_more [] n = refl
  last_more (m ∷ []) n = refl
  last_more (m ∷ k ∷ ns) n = last_more (k ∷ ns) n

  pub any_more : (ns : List (Numbered E)) (n : Numbered E) → IsAny (ns ++ n ∷ [])
  any_more [] n = tt
  any_more (m ∷ ns) n = tt

-- a seat with what it says of a beginning
pub seat_self : (s : SeatData) (number : ℕ) (line first : Line) → s ≡ seat_at number line first → s ≡ seat_at number line s.first
seat_self s number line first is = is ∙ ap (seat_at number line) (sym (ap (λ (x : SeatData). x.first) is))
