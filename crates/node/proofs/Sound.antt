-- What a copy begins with keeps the rules of records.
use Rattle.std.proofs.Common.{◌≡◌, false, ℕ, Bool, List, [], ◌∷◌, ◌++◌, refl, sym, subst}
use Rattle.std.specs.List.{flat_map, AllByRecursion}
use Rattle.op.specs.declared.record.Record.{Record}
use Rattle.op.specs.Records.{IsRecord}
use Rattle.translog.specs.Kept.{IsTranslog}
use Rattle.replica.specs.Logged.{Logged, IsLogged}
use Rattle.journal.specs.declared.journal.Deed.{Deed}
use Rattle.node.specs.Entry.{HasSoundRecords}
use Rattle.replica.specs.Copy.{Copy}
use Rattle.node.specs.Held.{journal, IsHeld}
use Rattle.translog.proofs.KeptLaws.{pieces_rules}

log_rules : (bytes : List ℕ) (rs : List Record) (groups : Bool) → IsTranslog bytes rs groups → AllByRecursion IsRecord rs
log_rules bytes rs groups log = subst (λ (l : List Record). AllByRecursion IsRecord l) (sym log.records) (pieces_rules log.pieces log.log.each)

-- an open copy has the records of its log
pub sound : (l : Logged) → IsLogged l → l.closed ≡ false → HasSoundRecords l.copy
sound l logged now_open = log_rules l.log l.copy.records l.groups (logged now_open)

-- a journal that begins is that of its copy
pub held_new : (kept : Bool) (ds : List Deed) (l : Logged) (began : Copy) → IsLogged l → l.closed ≡ false → began ≡ l.copy → ds ≡ [] → IsHeld (journal kept began ds) l
held_new kept ds l began logged now_open begins none =
    subst (λ (x : Copy). IsHeld (journal kept x ds) l) (sym begins)
    (subst (λ (x : List Deed). IsHeld (journal kept l.copy x) l) (sym none) (record { sound = sound l logged now_open; legal = tt; replayed = (now_open, refl) }))
