-- Ledgers that are registered, each under a number of its own.
use Rattle.std.specs.Prelude.{ℕ, ◌<◌, List, [], ◌∷◌, Option, Some, None}
use base.Stored.{Coded, coded×, coded_ℕ, coded_list, coded_via}
use Rattle.chronicle.specs.Written.{Line, Written, line, line_coded}
use Rattle.chronicle.specs.Ledger.{LedgerData}
use Rattle.chronicle.specs.declared.registry.Numbered.{Numbered}

-- the number of a ledger, its line, and the line that says what it began with
pub record SeatData : Type 0 where
  pub number : ℕ
  pub line : Line
  pub first : Line

abbrev pub seat_at : ℕ → Line → Line → SeatData
seat_at number line first = record { number = number; line = line; first = first }

abbrev pub seat_coded : Coded SeatData
seat_coded = coded_via (coded× coded_ℕ (coded× line_coded line_coded)) (λ (s : SeatData). (s.number, (s.line, s.first))) (λ x y e i. record { number = (e i).0; line = (e i).1.0; first = (e i).1.1 })

-- which registry it is, and which ledger stands next to it
pub record NamesData : Type 0 where
  pub registry : Line
  pub ledger : Line

abbrev pub names : Line → Line → NamesData
names registry ledger = record { registry = registry; ledger = ledger }

abbrev pub names_coded : Coded NamesData
names_coded = coded_via (coded× line_coded line_coded) (λ (n : NamesData). (n.registry, n.ledger)) (λ x y e i. record { registry = (e i).0; ledger = (e i).1 })

-- the first entries of the ledger with this number
pub record PrefixData (E : Type 0) : Type 0 where
  pub number : ℕ
  pub entries : List E

abbrev pub prefix : {E : Type 0} → ℕ → List E → PrefixData E
prefix number entries = record { number = number; entries = entries }

abbrev pub prefix_coded : {E : Type 0} → Coded E → Coded (PrefixData E)
prefix_coded {E} c = coded_via (coded× coded_ℕ (coded_list c)) (λ (p : PrefixData E). (p.number, p.entries)) (λ x y e i. record { number = (e i).0; entries = (e i).1 })

-- which registry it is, and the first entries of its ledger with this number
pub record UptoData (E : Type 0) : Type 0 where
  pub registry : Line
  pub number : ℕ
  pub entries : List E

abbrev pub upto : {E : Type 0} → Line → ℕ → List E → UptoData E
upto registry number entries = record { registry = registry; number = number; entries = entries }

-- the entries up to a mark; none without one
abbrev pub entries_of : {E : Type 0} → Option (Written E) → List E
entries_of None = []
entries_of (Some w) = w.entries

-- a ledger with its number, and the line that says what it began with
pub record RegisteredData (E : Type 0) : Type 0 where
  pub number : ℕ
  pub first : Line
  pub ledger : LedgerData E

abbrev pub registered : {E : Type 0} → ℕ → Line → LedgerData E → RegisteredData E
registered number first ledger = record { number = number; first = first; ledger = ledger }

-- the line of no ledger
abbrev pub no_line : Line
no_line = line (record { number = 0; log_name = 0; cells_name = 0 }) 0

module _ {E : Type 0} where
  abbrev pub seat_of : Numbered E → SeatData
  seat_of n = seat_at n.number n.ledger.line n.first

  -- that of the ledger that was registered last
  abbrev pub last_seat : List (Numbered E) → SeatData
  last_seat [] = seat_at 0 no_line no_line
  last_seat (n ∷ []) = seat_of n
  last_seat (n ∷ m ∷ ns) = last_seat (m ∷ ns)

  -- each has a greater number than this
  abbrev pub AreAbove : ℕ → List (Numbered E) → Type 0
  AreAbove number [] = Unit {0}
  AreAbove number (n ∷ ns) = (number < n.number) × AreAbove number ns

  -- each has a greater number than those before it, so that no two have one
  abbrev pub AreRising : List (Numbered E) → Type 0
  AreRising [] = Unit {0}
  AreRising (n ∷ ns) = AreAbove n.number ns × AreRising ns

  abbrev pub IsAny : List (Numbered E) → Type 0
  IsAny [] = ⊥
  IsAny (n ∷ ns) = Unit {0}
