-- The faults of queries, apart from lack of memory.
use Rattle.std.specs.Prelude.{ℕ, List, codes, Option, Some, None, string_bytes}
use Rattle.query.specs.declared.fault.QueryFault.{QueryFault}
use Rattle.query.specs.declared.fault.QueryFault.TheVariants.{Parsing, ParsingAt, TooManyClauses, TooDeep, WrongKind, NoMemory, WindowTooLarge}

pub data Fault : Type 0 where
  parsing : Fault
  too_many_clauses : Fault
  too_deep : Fault
  wrong_kind : List ℕ → Fault
  window_too_large : Fault

-- the fault; none for lack of memory
abbrev pub fault_of : QueryFault → Option Fault
fault_of (Parsing what) = Some parsing
fault_of (ParsingAt key what) = Some parsing
fault_of TooManyClauses = Some too_many_clauses
fault_of TooDeep = Some too_deep
fault_of (WrongKind field) = Some (wrong_kind (string_bytes field))
fault_of NoMemory = None
fault_of WindowTooLarge = Some window_too_large

-- the name of a fault
abbrev pub name_of : Fault → List ℕ
name_of parsing = codes "Parsing"
name_of too_many_clauses = codes "TooManyClauses"
name_of too_deep = codes "TooDeep"
name_of (wrong_kind field) = codes "WrongKind"
name_of window_too_large = codes "WindowTooLarge"
