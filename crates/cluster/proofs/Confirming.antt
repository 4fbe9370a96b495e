-- What a write shows that its copy kept, once its wait has ended.
use Rattle.std.proofs.Common.{◌≡◌, List, sym, ap, subst, ◌∙◌}
use Rattle.std.specs.Prelude.{Some}
use Rattle.replica.specs.declared.input.Input.TheVariants.{Write as Client, Bulk}
use Rattle.replica.specs.declared.input.Write.{Write}
use Rattle.replica.specs.declared.output.Written.{Written}
use Rattle.node.specs.Entry.{Receipt, IsEntry}
use Rattle.cluster.specs.declared.confirmed.Confirmed.{Confirmed}
use Rattle.cluster.specs.declared.fault.WriteFault.{WriteFault}
use Rattle.cluster.specs.declared.fault.WriteFault.TheVariants.{NoPrimary, Refused, Lost, Unconfirmed, Cluster}
use Rattle.cluster.specs.Bulks.{HasKept, IsBulkLost, IsBulkRefused}
use Rattle.cluster.specs.Confirmed.{wrote, IsAcknowledgedWrite, IsConfirmed, IsEndedBy, IsEndOf, IsLost, IsWriteRefused}

lost : (write : Write) (r : Receipt) (w : Written) → r.deed.input ≡ Client write → IsEntry r → wrote r.deed.answer ≡ Some w → IsLost write r
lost write r w asked stands kept = record { asked = asked; stands = stands; kept = (w, kept) }

pub refused_end : {J : Type 0} (write : Write) (r : Receipt) (w : Written) (f : WriteFault J) → r.deed.input ≡ Client write → IsEntry r → wrote r.deed.answer ≡ Some w → IsEndOf r f → IsWriteRefused write f
refused_end write r w (NoPrimary x) asked stands kept end = absurd end
refused_end write r w (Refused x) asked stands kept end = absurd end
refused_end write r w (Lost x last) asked stands kept end =
    (subst (λ (y : Receipt). IsLost write y) (sym end.0) (lost write r w asked stands kept), subst (λ (y : Receipt). IsEndedBy y last) (sym end.0) end.1)
refused_end write r w (Unconfirmed x) asked stands kept end = subst (λ (y : Receipt). IsLost write y) (sym end) (lost write r w asked stands kept)
refused_end write r w (Cluster f) asked stands kept end = tt

pub confirmed_end : {J : Type 0} (write : Write) (r : Receipt) (w : Written) (c : Confirmed J) → r.deed.input ≡ Client write → IsEntry r → wrote r.deed.answer ≡ Some w → IsAcknowledgedWrite r w c → IsConfirmed write c
confirmed_end write r w c asked stands kept end = record {
  written = w;
  asked = ap (λ (x : Receipt). x.deed.input) end.is ∙ asked;
  stands = subst IsEntry (sym end.is) stands;
  kept = ap (λ (x : Receipt). wrote x.deed.answer) end.is ∙ kept;
  acknowledged = end.acknowledged;
  behind = end.behind;
}

lost_bulk : (writes : List Write) (r : Receipt) → r.deed.input ≡ Bulk writes → IsEntry r → HasKept r → IsBulkLost writes r
lost_bulk writes r asked stands kept = record { asked = asked; stands = stands; kept = kept }

pub refused_bulk_end : {J : Type 0} (writes : List Write) (r : Receipt) (f : WriteFault J) → r.deed.input ≡ Bulk writes → IsEntry r → HasKept r → IsEndOf r f → IsBulkRefused writes f
refused_bulk_end writes r (NoPrimary x) asked stands kept end = absurd end
refused_bulk_end writes r (Refused x) asked stands kept end = absurd end
refused_bulk_end writes r (Lost x last) asked stands kept end =
    (subst (λ (y : Receipt). IsBulkLost writes y) (sym end.0) (lost_bulk writes r asked stands kept), subst (λ (y : Receipt). IsEndedBy y last) (sym end.0) end.1)
refused_bulk_end writes r (Unconfirmed x) asked stands kept end = subst (λ (y : Receipt). IsBulkLost writes y) (sym end) (lost_bulk writes r asked stands kept)
refused_bulk_end writes r (Cluster f) asked stands kept end = tt
