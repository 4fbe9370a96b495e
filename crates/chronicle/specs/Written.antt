-- What a writer has written.
use Rattle.std.specs.Prelude.{◌≡◌, ℕ, true, List, Some, slice_get}
use base.Stored.{Coded, coded×, coded_ℕ, coded_list, coded_via}
use Rattle.logbook.specs.Pages.{Book, book_coded, Named}

-- the list that a writer appends to, and the key of the first right that it had
pub record Line : Type 0 where
  pub book : Book
  pub first : ℕ

abbrev pub line : Book → ℕ → Line
line book first = record { book = book; first = first }

abbrev pub line_coded : Coded Line
line_coded = coded_via (coded× book_coded coded_ℕ) (λ (l : Line). (l.book, l.first)) (λ x y e i. record { book = (e i).0; first = (e i).1 })

-- a writer's line, and its first entries in order
pub record Written (E : Type 0) : Type 0 where
  pub line : Line
  pub entries : List E

abbrev pub written : {E : Type 0} → Line → List E → Written E
written line entries = record { line = line; entries = entries }

abbrev pub written_coded : {E : Type 0} → Coded E → Coded (Written E)
written_coded {E} c = coded_via (coded× line_coded (coded_list c)) (λ (w : Written E). (w.line, w.entries)) (λ x y e i. record { line = (e i).0; entries = (e i).1 })

-- the entry is at a place of the line
abbrev pub Stands : {E : Type 0} → Written E → ℕ → E → Type 0
Stands w place what = slice_get w.entries place ≡ Some what

-- the word that steps are made on
abbrev pub head_of : Book → Named
head_of b = record { tracked = true; key = 0; book = b }
