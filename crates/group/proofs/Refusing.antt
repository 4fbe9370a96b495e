-- Conflicts, and the entries that show them.
use Rattle.std.proofs.Common.{◌≡◌, List, map, refl, sym, ◌∙◌, Err}
use Rattle.replica.specs.declared.fault.CopyFault.{CopyFault}
use Rattle.replica.specs.declared.fault.CopyFault.TheVariants as copy
use Rattle.front.specs.declared.reply.Refusal.{Refusal}
use Rattle.front.specs.declared.reply.Refusal.TheVariants.{VersionConflict}
use Rattle.cluster.specs.declared.fault.WriteFault.{WriteFault}
use Rattle.cluster.specs.declared.fault.WriteFault.TheVariants.{NoPrimary, Refused, Lost, Unconfirmed, Cluster}
use Rattle.front.specs.Command.{Command, write, bulk, get, search, count, refresh, promote}
use Rattle.front.specs.Reply.{Reply, refused}
use Rattle.shard.specs.Answering.{refusal_of}
use Rattle.group.specs.Group.{IsConflict, IsFaultOf, IsRefused, MayConflict}

pub conflict_of : (f : CopyFault) → refusal_of f ≡ VersionConflict → f ≡ copy.VersionConflict
conflict_of copy.VersionConflict e = refl
conflict_of copy.NotPrimary e = absurd cc
conflict_of copy.WindowFull e = absurd cc
conflict_of copy.OldTerm e = absurd cc
conflict_of copy.NotSynced e = absurd cc
conflict_of copy.BeyondWindow e = absurd cc
conflict_of copy.Mismatch e = absurd cc
conflict_of copy.Closed e = absurd cc
conflict_of (copy.Log f) e = absurd cc
conflict_of copy.NoMemory e = absurd cc
conflict_of copy.WrongAddress e = absurd cc
conflict_of copy.Exhausted e = absurd cc

-- a fault that is a conflict is of a write or a bulk, and shows its entry
pub may_conflict : {J : Type 0} (c : Command) (f : WriteFault J) → IsFaultOf c f → IsConflict f → MayConflict c
may_conflict (write w) (Refused r) is conflict = record { entry = r; asked = is.0; stands = is.1; answer = conflict }
may_conflict (bulk ws) (Refused r) is conflict = record { entry = r; asked = is.0; stands = is.1; answer = conflict }
may_conflict (get id) (Refused r) is conflict = absurd is
may_conflict (search q page) (Refused r) is conflict = absurd is
may_conflict (count q) (Refused r) is conflict = absurd is
may_conflict refresh (Refused r) is conflict = absurd is
may_conflict (promote copy) (Refused r) is conflict = absurd is
may_conflict c (NoPrimary r) is conflict = absurd conflict
may_conflict c (Lost r last) is conflict = absurd conflict
may_conflict c (Unconfirmed r) is conflict = absurd conflict
may_conflict c (Cluster f) is conflict = absurd conflict

pub is_refused : {J : Type 0} (c : Command) (f : WriteFault J) (r : Reply) (refusal : Refusal) → r ≡ refused refusal → (refusal ≡ VersionConflict → IsConflict f) → IsFaultOf c f → IsRefused c r
is_refused c f r refusal told conflict is = record { refusal = refusal; told = told; conflict = λ e. may_conflict c f is (conflict e) }
