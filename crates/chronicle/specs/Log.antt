-- The log of a chronicle, the lines in it, and the rule of its book.
use Rattle.std.specs.Prelude.{◌≡◌, ℕ, ◌==◌, true, false, List, [], ◌∷◌, ◌++◌, Option, option_to_list, if◌then◌else◌}
use mathlib.Core.List.{IsPrefix}
use Rattle.logbook.specs.Pages.{Book, Cell, Step, View, cell, nib, may_make}
use Rattle.chronicle.specs.declared.law.Noted.{Noted}
use Rattle.chronicle.specs.Written.{Written, line, written}

abbrev pub noted : {E : Type 0} → ℕ → ℕ → ℕ → Option E → Noted E
noted first right next what = record { first = first; right = right; next = next; what = what }

-- the book holds the word with this key
abbrev pub IsHome : List Cell → ℕ → Type 0
IsHome cells key = (cell cells key).1 ≡ true

module _ {E : Type 0} where
  -- the right that a writer has after an entry, which is its own where its right was used
  abbrev pub next_of : ℕ → Noted E → ℕ
  next_of right e = if e.right == right then e.next else right

  abbrev pub own_of : ℕ → Noted E → List E
  own_of right e = if e.right == right then option_to_list e.what else []

  -- what was written by a right, the one that followed, and so on
  abbrev pub entries_of : ℕ → List (Noted E) → List E
  entries_of right [] = []
  entries_of right (e ∷ log) = own_of right e ++ entries_of (next_of right e) log

  -- the right that followed last
  abbrev pub last_of : ℕ → List (Noted E) → ℕ
  last_of right [] = right
  last_of right (e ∷ log) = last_of (next_of right e) log

  -- the line of the last entry
  abbrev pub first_of : List (Noted E) → ℕ
  first_of [] = 0
  first_of (e ∷ []) = e.first
  first_of (e ∷ d ∷ log) = first_of (d ∷ log)

  -- the line with this first right, as far as the log goes
  abbrev pub written_in : Book → ℕ → List (Noted E) → Written E
  written_in book first log = written (line book first) (entries_of first log)

  -- no entry was written by this right
  abbrev pub IsUnused : ℕ → List (Noted E) → Type 0
  IsUnused right [] = Unit {0}
  IsUnused right (e ∷ log) = ((e.right == right) ≡ false) × IsUnused right log

  -- each right that was used is at home
  abbrev pub AreHome : List Cell → List (Noted E) → Type 0
  AreHome cells [] = Unit {0}
  AreHome cells (e ∷ log) = IsHome cells e.right × AreHome cells log

  -- the first word, which steps are made on, is at home, and so is each right that was used
  pub record IsKept (cells : List Cell) (log : List (Noted E)) : Type 0 where
    pub head : IsHome cells 0
    pub rights : AreHome cells log

  -- the pen can make a word whose key is the right to write, and that nobody used
  abbrev pub Makes : Step (Noted E) → View (Noted E) ℕ → ℕ → View (Noted E) ℕ → Type 0
  Makes s v found w = (w.1.0 ≡ nib may_make w.1.0.key 0) × IsUnused w.1.0.key w.0

  -- nobody used the pen's right, which it still is
  abbrev pub Looks : Step (Noted E) → View (Noted E) ℕ → ℕ → View (Noted E) ℕ → Type 0
  Looks s v found w = (w.1.0 ≡ v.1.0) × IsUnused v.1.0.key w.0

  -- the entry was added to a log that had grown from another, and in which nobody had used the right
  abbrev pub Adds : ℕ → Noted E → List (Noted E) → List (Noted E) → Type 0
  Adds right e before after = (log : List (Noted E)) × IsPrefix before log × IsUnused right log × (after ≡ log ++ e ∷ [])

  abbrev pub Writes : Step (Noted E) → View (Noted E) ℕ → ℕ → View (Noted E) ℕ → Type 0
  Writes s v found w = Adds v.1.0.key s.ask v.0 w.0
