-- The refusals of the master, apart from lack of memory and faults of the log.
use Rattle.std.specs.Prelude.{ℕ, Bool, true, false, List, codes, Option, Some, None}
use Rattle.master.specs.declared.fault.MasterFault.{MasterFault}
use Rattle.master.specs.declared.fault.MasterFault.TheVariants.{OldTerm, NotInSync, IsPrimary, Gone, Log, NoMemory, Full}

-- the fault; none for lack of memory and for a fault of the log
abbrev pub fault_of : MasterFault → Option MasterFault
fault_of OldTerm = Some OldTerm
fault_of NotInSync = Some NotInSync
fault_of IsPrimary = Some IsPrimary
fault_of Gone = Some Gone
fault_of (Log f) = None
fault_of NoMemory = None
fault_of Full = Some Full

-- whether a fault is one of the log
abbrev pub is_log : MasterFault → Bool
is_log OldTerm = false
is_log NotInSync = false
is_log IsPrimary = false
is_log Gone = false
is_log (Log f) = true
is_log NoMemory = false
is_log Full = false

-- the name of a fault
abbrev pub name_of : MasterFault → List ℕ
name_of OldTerm = codes "OldTerm"
name_of NotInSync = codes "NotInSync"
name_of IsPrimary = codes "IsPrimary"
name_of Gone = codes "Gone"
name_of (Log f) = codes "Log"
name_of NoMemory = codes "NoMemory"
name_of Full = codes "Full"
