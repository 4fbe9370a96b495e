-- What is wrong with a log or a content, apart from lack of memory and a device's failure.
use Rattle.std.specs.Prelude.{ℕ, Bool, true, false, Option, Some, None, Result, Ok, Err}
use Rattle.translog.specs.declared.fault.LogFault.{LogFault}
use Rattle.translog.specs.declared.fault.LogFault.TheVariants.{BadMagic, Damaged, Device, NoMemory, TooLarge}
use Rattle.translog.specs.declared.device.DeviceFault.{DeviceFault}
use Rattle.translog.specs.declared.device.DeviceFault.TheVariants as devices

pub data Fault : Type 0 where
  bad_magic : Fault
  damaged : ℕ → Fault
  too_large : Fault

-- the fault; none for lack of memory and for a device's failure
abbrev pub fault_of : LogFault → Option Fault
fault_of BadMagic = Some bad_magic
fault_of (Damaged offset) = Some (damaged offset)
fault_of Device = None
fault_of NoMemory = None
fault_of TooLarge = Some too_large

-- what a device's fault is to a log
abbrev pub of_device : DeviceFault → LogFault
of_device devices.NoMemory = NoMemory
of_device devices.Failed = Device

-- whether a device failed, and didn't just lack memory
abbrev pub is_failed : DeviceFault → Bool
is_failed devices.NoMemory = false
is_failed devices.Failed = true

-- whether a log's device failed
abbrev pub is_device : LogFault → Bool
is_device BadMagic = false
is_device (Damaged offset) = false
is_device Device = true
is_device NoMemory = false
is_device TooLarge = false

-- whether a call answered such a fault
abbrev pub errs_with : {T E : Type 0} → (E → Bool) → Result T E → Bool
errs_with test (Ok x) = false
errs_with test (Err e) = test e
