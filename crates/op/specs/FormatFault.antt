-- Why a record can't be written or read, apart from lack of memory.
use Rattle.std.specs.Prelude.{Option, Some, None}
use Rattle.op.specs.declared.fault.OpFault.{OpFault}
use Rattle.op.specs.declared.fault.OpFault.TheVariants.{Malformed, NoMemory, TooLarge}

pub data Fault : Type 0 where
  malformed : Fault
  too_large : Fault

-- the fault; none for lack of memory
abbrev pub fault_of : OpFault → Option Fault
fault_of Malformed = Some malformed
fault_of NoMemory = None
fault_of TooLarge = Some too_large
