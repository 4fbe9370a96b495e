-- The faults of a head, apart from a lack of memory; and those that end a stream.
use Rattle.std.specs.Prelude.{Bool, true, false, Option, Some, None}
use Rattle.wire.specs.declared.head_fault.HeadFault.{HeadFault}
use Rattle.wire.specs.declared.head_fault.HeadFault.TheVariants.{BadHead, TransferCoding, BodyTooLarge, NoMemory}
use Rattle.wire.specs.declared.fault.StreamFault.{StreamFault}
use Rattle.wire.specs.declared.fault.StreamFault.TheVariants as streams

pub data Fault : Type 0 where
  bad_head : Fault
  transfer_coding : Fault
  body_too_large : Fault

-- the fault, or nothing where memory ran out
abbrev pub fault_of : HeadFault → Option Fault
fault_of BadHead = Some bad_head
fault_of TransferCoding = Some transfer_coding
fault_of BodyTooLarge = Some body_too_large
fault_of NoMemory = None

-- whether a stream ended since nothing more could be written
abbrev pub is_write : StreamFault → Bool
is_write streams.Read = false
is_write streams.Write = true
is_write streams.NoMemory = false
