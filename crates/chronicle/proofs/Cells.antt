-- Which words are at home after a step.
use Rattle.std.proofs.Common.{◌≡◌, ℕ, zero, suc, ◌<◌, ◌==◌, Bool, true, false, List, [], ◌∷◌, ◌++◌, length, slice_set, refl, ap, sym, ◌∙◌, arith, get_or-set_same, true≢false}
use Rattle.std.proofs.lemmas.Bool.Decides.{nat_tests}
use Rattle.logbook.specs.Pages.{Cell, cell}
use Rattle.chronicle.specs.declared.law.Noted.{Noted}
use Rattle.chronicle.specs.Log.{IsUnused, IsHome, AreHome}

pub home-lt : (cells : List Cell) → IsHome cells 0 → 0 < length cells
home-lt [] h = absurd (cc h)
home-lt (c ∷ cells) h = omega arith

pub home-set : (cells : List Cell) (at key n : ℕ) → IsHome cells key → IsHome (slice_set cells at (n, true)) key
home-set [] at key n h = h
home-set (c ∷ cells) zero zero n h = refl
home-set (c ∷ cells) zero (suc key) n h = h
home-set (c ∷ cells) (suc at) zero n h = h
home-set (c ∷ cells) (suc at) (suc key) n h = home-set cells at key n h

pub home-at : (cells : List Cell) (at n : ℕ) → at < length cells → IsHome (slice_set cells at (n, true)) at
home-at cells at n lt = ap (λ (c : Cell). c.1) (get_or-set_same cells at (n, true) (0, false) lt)

pub home-snoc : (cells : List Cell) (key : ℕ) → IsHome cells key → IsHome (cells ++ (0, false) ∷ []) key
home-snoc [] zero h = h
home-snoc [] (suc key) h = h
home-snoc (c ∷ cells) zero h = h
home-snoc (c ∷ cells) (suc key) h = home-snoc cells key h

-- a new word isn't at home
pub away-end : (cells : List Cell) → (cell cells (length cells)).1 ≡ false
away-end [] = refl
away-end (c ∷ cells) = away-end cells

apart : (cells : List Cell) (here there : ℕ) → IsHome cells here → (cell cells there).1 ≡ false → (b : Bool) → (here == there) ≡ b → b ≡ false
apart cells here there home away false is = refl
apart cells here there home away true is =
    let same : here ≡ there = grind (arith, nat_tests) in
    absurd (true≢false (sym home ∙ (ap (λ k. (cell cells k).1) same ∙ away)))

module _ {E : Type 0} where
  pub homes : (cells others : List Cell) (log : List (Noted E)) → ((key : ℕ) → IsHome cells key → IsHome others key) → AreHome cells log → AreHome others log
  homes cells others [] to h = tt
  homes cells others (e ∷ log) to h = (to e.right h.0, homes cells others log to h.1)

  pub homes-snoc : (cells : List Cell) (log : List (Noted E)) (e : Noted E) → AreHome cells log → IsHome cells e.right → AreHome cells (log ++ e ∷ [])
  homes-snoc cells [] e h home = (home, tt)
  homes-snoc cells (d ∷ log) e h home = (h.0, homes-snoc cells log e h.1 home)

  -- nobody used a right that isn't at home
  pub unused-away : (cells : List Cell) (key : ℕ) (log : List (Noted E)) → (cell cells key).1 ≡ false → AreHome cells log → IsUnused key log
  unused-away cells key [] away h = tt
  unused-away cells key (e ∷ log) away h = (apart cells e.right key h.0 away (e.right == key) refl, unused-away cells key log away h.1)
