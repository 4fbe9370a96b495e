-- What the steps of a copy tell of the answers that its journal may have.
use Rattle.std.proofs.Common.{◌≡◌, ℕ, ◌+◌, Bool, true, false, length, Option, Some, Result, Ok, Err, IfSome, refl, sym, ap, subst, ◌∙◌, arith}
use Rattle.std.specs.Prelude.{◌↔◌, IsTrue, ◌||◌, nat_lt, if◌then◌else◌}
use Rattle.std.proofs.lemmas.Bool.Decides.{nat_tests}
use Rattle.replica.specs.declared.fault.CopyFault.{CopyFault}
use Rattle.replica.specs.declared.fault.CopyFault.TheVariants.{NotPrimary, VersionConflict, WindowFull, OldTerm, NotSynced, BeyondWindow, Mismatch, Closed, Log, NoMemory, WrongAddress, Exhausted}
use Rattle.replica.specs.declared.input.Input.{Input}
use Rattle.replica.specs.declared.input.Input.TheVariants.{Restart as Restarting}
use Rattle.replica.specs.declared.output.Output.{Output}
use Rattle.replica.specs.Copy.{Copy}
use Rattle.replica.specs.Fault.{fault_of, is_log}
use Rattle.replica.specs.Logged.{is_restart}
use Rattle.replica.specs.Step.{Step, Stepped, copy_step, torn}
use Rattle.audit.specs.declared.following.Cut.{Cut}
use Rattle.journal.specs.declared.journal.Deed.{Deed}
use Rattle.audit.specs.declared.judge.Wrong.TheVariants.{At}
use Rattle.audit.specs.Following.{shut_by, IsReport, MayFail}
use Rattle.journal.specs.Journal.{Standing, found, keeps_record, left_by, reopened, torn_move, IsReopening, MayAnswer}
use Rattle.audit.specs.Judge.{IsRefused}
use Rattle.audit.proofs.Links.{reopens, restarts}
use Rattle.audit.proofs.Nodes.{copy_after}

-- ---- refusals

-- a refusal that isn't for want of memory or of the log is one of the step
pub told : (e : CopyFault) → is_log e ≡ false → (e ≡ NoMemory → ⊥) → fault_of e ≡ Some e
told NotPrimary log memory = refl
told VersionConflict log memory = refl
told WindowFull log memory = refl
told OldTerm log memory = refl
told NotSynced log memory = refl
told BeyondWindow log memory = refl
told Mismatch log memory = refl
told Closed log memory = refl
told (Log f) log memory = absurd cc
told NoMemory log memory = absurd (memory refl)
told WrongAddress log memory = refl
told Exhausted log memory = refl

pub not_memory : (e : CopyFault) (is : Bool) → IsTrue is ↔ (e ≡ NoMemory) → is ≡ false → e ≡ NoMemory → ⊥
not_memory e true same none memory = absurd cc
not_memory e false same none memory = let yes : false ≡ true = same.1 memory in absurd cc

-- a step that isn't refused, or otherwise, isn't refused so
pub no_refusal : (fault : CopyFault) (r : Step) (s : Stepped) → is_log fault ≡ false → (fault ≡ NoMemory → ⊥) → r ≡ Ok s → IsTrue false ↔ IfSome (fault_of fault) (λ f. r ≡ Err f)
no_refusal fault r s log memory is = rw (told fault log memory) ((λ no. absurd cc), (λ other. let both : Ok s ≡ Err fault = sym is ∙ other in absurd cc))

pub a_refusal : (fault made : CopyFault) (r : Step) (same : Bool) → is_log fault ≡ false → (fault ≡ NoMemory → ⊥) → fault_of made ≡ Some made → IfSome (fault_of made) (λ f. r ≡ Err f) → IsTrue same ↔ (made ≡ fault) → IsTrue same ↔ IfSome (fault_of fault) (λ f. r ≡ Err f)
a_refusal fault made r same log memory known given is =
    let made_so : r ≡ Err made = subst (λ (o : Option CopyFault). IfSome o (λ f. r ≡ Err f)) known given in
    rw (told fault log memory) (
      (λ yes. made_so ∙ ap Err (is.0 yes)),
      (λ other. let both : Err made ≡ Err fault = sym made_so ∙ other in is.1 cc),
    )

-- ---- records

-- a step keeps a record just where it adds some
pub grows : (c : Copy) (r : Step) (added : ℕ) → length (left_by c r).records ≡ length c.records + added → keeps_record c r ≡ nat_lt 0 added
grows c (Ok s) added more = grind (arith, nat_tests, more)
grows c (Err e) added more = grind (arith, nat_tests, more)

-- one that may fail restarts or keeps a record
pub kept_or_restart : (c : Copy) (input : Input) (added : ℕ) → MayFail c input added → (is_restart input || keeps_record c (copy_step c input)) ≡ true
kept_or_restart c input added may = rw (grows c (copy_step c input) added may.adds) may.may

-- a restart may fail, and adds none
pub restart_fails : (c : Copy) → MayFail c Restarting 0
restart_fails c = record { may = refl; adds = let none : length (left_by c (copy_step c Restarting)).records ≡ length c.records = ap (λ (d : Copy). length d.records) (restarts c) in omega (arith, none) }

-- ---- restarts

-- what a restart answers, and what its output tells
pub reopening : (c : Copy) (f : Cut) (input : Input) (output : Output) → MayFail c f.input f.added → is_restart input ≡ true → IsReport (length c.records) (length c.records + f.added) output ↔ IsReopening c (shut_by c f) input output
reopening c f input output may restart =
    let count = may.adds in (
      λ h. record { restart = restart; point = rw count h.point; sent = h.sent; acknowledged = h.acknowledged; members = h.members },
      λ h. record { point = rw count at h.point; sent = h.sent; acknowledged = h.acknowledged; members = h.members },
    )

by_kept : (c : Copy) (f : Cut) (kept : Bool) → found c (shut_by c f) kept ≡ (if kept then (left_by c (copy_step c f.input)).records else c.records)
by_kept c f true = refl
by_kept c f false = refl

-- a copy that restarts after a step that may fail is the one that the journal says
after_cut : (c : Copy) (f : Cut) (kept restart : Bool) → MayFail c f.input f.added → is_restart f.input ≡ restart → copy_after c (torn_move restart f.input kept) ≡ reopened c (found c (shut_by c f) kept)
after_cut c f kept restart may is =
    let other = (left_by c (copy_step c f.input)).records in
    subst (λ (b : Bool). copy_after c (torn_move b f.input kept) ≡ reopened c (if kept then other else c.records)) is (reopens c f.input other kept refl (kept_or_restart c f.input f.added may))
    ∙ ap (reopened c) (sym (by_kept c f kept))

pub by_tear : (c d : Copy) (f : Cut) (kept : Bool) → MayFail c f.input f.added → is_restart f.input ≡ false → d ≡ torn c (copy_step c f.input) kept → d ≡ reopened c (found c (shut_by c f) kept)
by_tear c d f kept may is e = e ∙ after_cut c f kept false may is

-- an answer that may not be given there
pub not_answer : (old : Standing) (place : ℕ) (d : Deed) (a : Result Output CopyFault) → d.answer ≡ a → (MayAnswer old.copy old.shut d.input a → ⊥) → IsRefused old place d (At place)
not_answer old place d a is never = (refl, λ legal. never (subst (λ (x : Result Output CopyFault). MayAnswer old.copy old.shut d.input x) is legal))
