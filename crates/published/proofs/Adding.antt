-- The exchange that adds a listing keeps the rule of the history.
use Rattle.std.proofs.Common.{◌≡◌, ℕ, ◌+◌, ◌<◌, ◌==◌, Bool, true, false, List, [], ◌∷◌, ◌++◌, length, refl, ap, sym, subst, arith, inl, length-append, MatchBool, None}
use Rattle.std.proofs.lemmas.List.{append-nil}
use Rattle.std.proofs.lemmas.Bool.Decides.{nat_tests}
use mathlib.Core.List.{IsPrefix}
use prog.Atomic.{either}
use Rattle.logbook.specs.Pages.{Cell, cell, keeps, no_nib, step, Moves, Goes}
use Rattle.published.specs.declared.listing.Listing.{Listing}
use Rattle.published.specs.Chain.{IsKept, IsChain, MayFollow, Adds}
use Rattle.published.proofs.Chains.{prefix_whole, chain-snoc}

abbrev pub shown : List Listing → List Listing
shown log = []

abbrev pub moved : List Listing → List Listing → ℕ → Type 0
moved xs ys n = Unit {0}

pub adds_goes : (log v : List Listing) (e : Listing) (old : ℕ) → length v ≡ old → MayFollow v e → IsChain log → IsPrefix v log
    → (b : Bool) → (length log == old) ≡ b
    → Goes IsKept shown moved 0 (v, (no_nib, None)) (λ n. either (n == old) (old + 1) n) (Adds (step 0 old (old + 1) e) (v, (no_nib, None))) ((length log, true) ∷ (0, true) ∷ []) log
adds_goes log v e old len may chain pre true is =
    let here : length log ≡ old = grind (arith, nat_tests) in
    let same : v ≡ log = prefix_whole v log pre (omega arith) in
    let chain' : IsChain (log ++ e ∷ []) = chain-snoc log e chain (subst (λ (l : List Listing). MayFollow l e) same may) in
    let n : either (length log == old) (old + 1) (length log) ≡ length (log ++ e ∷ []) = rw is (omega (arith, length-append log (e ∷ []))) in (
      keeps,
      e ∷ [],
      None,
      tt,
      record { words = ap (λ (k : ℕ). (k, true) ∷ (0, true) ∷ []) n; chain = chain' },
      inl (refl, refl),
      rw is (ap (λ w. w ++ e ∷ []) (sym same), chain'),
    )
adds_goes log v e old len may chain pre false is =
    let all : log ++ [] ≡ log = append-nil log in
    let chain' : IsChain (log ++ []) = subst IsChain (sym all) chain in
    let n : either (length log == old) (old + 1) (length log) ≡ length (log ++ []) = rw is (ap length (sym all)) in (
      keeps,
      [],
      None,
      tt,
      record { words = ap (λ (k : ℕ). (k, true) ∷ (0, true) ∷ []) n; chain = chain' },
      inl (refl, refl),
      rw is (ap length all, chain'),
    )

-- whatever the book is, the exchange adds the entry to all that was seen, or finds that the history is longer
pub adds_moves : (v : List Listing) (e : Listing) (old : ℕ) → length v ≡ old → MayFollow v e
    → Moves IsKept shown moved 0 (v, (no_nib, None)) (λ n. either (n == old) (old + 1) n) (Adds (step 0 old (old + 1) e) (v, (no_nib, None)))
adds_moves v e old len may cs log kept pre away =
    let P : List Cell → Type 0 = λ c. (0 < length c) × ((cell c 0).1 ≡ true) × Goes IsKept shown moved 0 (v, (no_nib, None)) (λ n. either (n == old) (old + 1) n) (Adds (step 0 old (old + 1) e) (v, (no_nib, None))) c log in
    subst P (sym kept.words) (omega arith, refl, adds_goes log v e old len may kept.chain pre (length log == old) refl)

-- the exchange that found what it expected has added the entry
pub adds_hit : (old found : ℕ) (v w : List Listing) (e : Listing) → found ≡ old → MatchBool (found == old) ((w ≡ v ++ e ∷ []) × IsChain w) ((length w ≡ found) × IsChain w)
    → (w ≡ v ++ e ∷ []) × IsChain w
adds_hit old found v w e same h =
    let is : (found == old) ≡ true = grind (arith, nat_tests) in
    subst (λ b. MatchBool b ((w ≡ v ++ e ∷ []) × IsChain w) ((length w ≡ found) × IsChain w)) is h
