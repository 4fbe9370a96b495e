-- A step in two halves.
use Rattle.std.specs.Prelude.{◌≡◌, ◌⊎◌, ◌&&◌, not, false, Result, IfOk, OnOk, IfErr, IsErrOf, IsOk}
use Rattle.translog.specs.declared.fault.LogFault.TheVariants.{Device}
use Rattle.translog.specs.Device.{count_after}
use Rattle.translog.specs.Fault.{errs_with}
use Rattle.replica.specs.declared.fault.CopyFault.{CopyFault}
use Rattle.replica.specs.declared.fault.CopyFault.TheVariants.{Log, NoMemory}
use Rattle.replica.specs.declared.output.Output.{Output}
use Rattle.replica.specs.declared.prepared.Prepared.{Prepared}
use Rattle.replica.specs.Fault.{has_failed}
use Rattle.replica.specs.Logged.{Logged, IsClosed, is_kept, is_restarted, output_of, prepared_copy}

-- the second half
pub record IsCommitted (mid new : Logged) (p : Prepared) (r : Result Output CopyFault) : Type 0 where
  pub output : IfOk r (λ o. o ≡ output_of p)
  pub copy : OnOk r (new.copy ≡ prepared_copy mid.copy p)
  pub opened : OnOk r (new.closed ≡ (mid.closed && not (is_restarted p)))
  pub counts : new.failures ≡ count_after (errs_with has_failed r) mid.failures
  pub cause : IfErr r (λ e. (e ≡ NoMemory) ⊎ (e ≡ Log Device))
  pub sure : is_kept p ≡ false → IsOk r
  pub memory : IsErrOf r NoMemory → new ≡ mid
  pub closed : IsErrOf r (Log Device) → IsClosed mid new p
