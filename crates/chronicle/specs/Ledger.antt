-- Entries that memory may have.
use Rattle.std.specs.Prelude.{Bool, List}
use base.Stored.{Coded, coded×, coded_bool, coded_list, coded_via}
use Rattle.chronicle.specs.Written.{Line, line_coded}

-- the line that the entries stand in, whether memory has them, whether there is room for one more, and the entries in order
pub record LedgerData (E : Type 0) : Type 0 where
  pub line : Line
  pub kept : Bool
  pub ready : Bool
  pub entries : List E

abbrev pub recorded : {E : Type 0} → Line → Bool → Bool → List E → LedgerData E
recorded line kept ready entries = record { line = line; kept = kept; ready = ready; entries = entries }

abbrev pub ledger_coded : {E : Type 0} → Coded E → Coded (LedgerData E)
ledger_coded {E} c = coded_via (coded× line_coded (coded× coded_bool (coded× coded_bool (coded_list c)))) (λ (l : LedgerData E). (l.line, (l.kept, (l.ready, l.entries)))) (λ x y e i. record { line = (e i).0; kept = (e i).1.0; ready = (e i).1.1.0; entries = (e i).1.1.1 })
