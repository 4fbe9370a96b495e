-- What is refused is what the definition refuses.
use Rattle.std.proofs.Common.{◌≡◌, Result, Err}
use Rattle.doc.specs.Outcome.{Fails}
use Rattle.master.specs.declared.fault.MasterFault.{MasterFault}
use Rattle.master.specs.declared.fault.MasterFault.TheVariants.{OldTerm, NotInSync, IsPrimary, Gone, Log, NoMemory, Full}
use Rattle.master.specs.Fault.{fault_of}

pub fails_as : {Y : Type 0} (e : MasterFault) (given : Result Y MasterFault) → given ≡ Err e → Fails fault_of e given
fails_as OldTerm given is = is
fails_as NotInSync given is = is
fails_as IsPrimary given is = is
fails_as Gone given is = is
fails_as (Log f) given is = tt
fails_as NoMemory given is = tt
fails_as Full given is = is
