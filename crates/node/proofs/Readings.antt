-- A copy is read without an entry.
use Rattle.std.proofs.Common.{◌≡◌, ℕ, List, [], ◌||◌, Bool, true, false, refl, sym, ap, subst, ◌∙◌, Option, Some, None, Err}
use Rattle.std.specs.Prelude.{is_some, IfSome, IfNone}
use Rattle.chronicle.specs.Registered.{PrefixData, prefix}
use Rattle.journal.specs.declared.journal.Deed.{Deed}
use Rattle.doc.specs.Id.{Id}
use Rattle.translog.specs.Kept.{kept}
use Rattle.replica.specs.declared.fault.CopyFault.{CopyFault}
use Rattle.replica.specs.declared.input.Input.TheVariants.{Get}
use Rattle.replica.specs.declared.output.Answer.{Answer}
use Rattle.replica.specs.Copy.{Copy}
use Rattle.replica.specs.Fault.{is_log}
use Rattle.replica.specs.Logged.{Logged, IsPrepared, IsUntouched}
use Rattle.journal.specs.Journal.{Shut, IsLegal, open_at}
use Rattle.node.specs.Held.{JournalData, IsHeld}
use Rattle.node.specs.Entry.{IsJournalOf}
use Rattle.node.specs.Reading.{GotData, IsGot, IsRead, entries_in, got_by, standing}
use Rattle.node.specs.Replay.{IsIdle, IsReplayedAs}

no_more : (a b c : Bool) → a ≡ (b || c) → c ≡ false → a ≡ b
no_more a true c e n = e
no_more a false c e n = e ∙ n

-- a get that wasn't made ready changes nothing of an open copy
pub unread : (old new : Logged) (id : Id) (e : CopyFault) → old.closed ≡ false → IsPrepared old new (Get id) (Err e) → IsUntouched old new (Err e) → IsIdle old new
unread old new id e opened is left = record {
  copy = left.copy;
  closed = no_more new.closed old.closed (is_log e) left.closes (is.no_log refl);
  records = ap kept (left.log opened);
}

-- an open copy is what its journal says, and one that the journal says is shut is closed
open_as : (c : Copy) (shut : Option Shut) (l : Logged) → IsReplayedAs c shut l → l.closed ≡ false → (shut ≡ None) × (l.copy ≡ c)
open_as c None l is opened = (refl, is.1)
open_as c (Some f) l is opened = absurd (let no : true ≡ false = sym is.closed ∙ opened in cc)

pub read_from : (h : JournalData) (l : Logged) (id : Id) (answer : Answer) → IsHeld h l → l.closed ≡ false → answer ≡ got_by l.copy id → IsRead h id answer
read_from h l id answer is opened has =
    let both = open_as (standing h).copy (standing h).shut l is.replayed opened in
    record { open_then = both.0; has = has ∙ ap (λ (c : Copy). got_by c id) both.1 }

shut_as : (c : Copy) (shut : Option Shut) (l : Logged) → IsReplayedAs c shut l → l.closed ≡ true → is_some shut ≡ true
shut_as c None l is closed = absurd (let no : true ≡ false = sym closed ∙ is.0 in cc)
shut_as c (Some f) l is closed = refl

pub closed_in : (h : JournalData) (l : Logged) → IsHeld h l → l.closed ≡ true → is_some (standing h).shut ≡ true
closed_in h l is closed = shut_as (standing h).copy (standing h).shut l is.replayed closed

-- the entries that a journal has up to now
pub upto_entries : (o : Option (PrefixData Deed)) (n : ℕ) (es : List Deed) → IfSome o (λ p. p ≡ prefix n es) → IfNone o (es ≡ []) → es ≡ entries_in o
upto_entries None n es some none = none
upto_entries (Some p) n es some none = sym (ap (λ (x : PrefixData Deed). x.entries) some)

pub upto_number : (o : Option (PrefixData Deed)) (n node : ℕ) (es : List Deed) → IfSome o (λ p. p ≡ prefix n es) → node ≡ n → IfSome o (λ p. p.number ≡ node)
upto_number None n node es some is = tt
upto_number (Some p) n node es some is = ap (λ (x : PrefixData Deed). x.number) some ∙ sym is

-- what was read tells a journal of its copy
pub heard_journal : (g : GotData) (o : Option (PrefixData Deed)) (p : PrefixData Deed) (n : ℕ) → IsGot g → g.deeds ≡ entries_in o → o ≡ Some p → n ≡ g.node → IsJournalOf n p.entries
heard_journal g o p n is same some node = record {
  opening = is.journal.opening;
  sound = is.sound;
  legal = subst (λ (ds : List Deed). IsLegal (open_at is.journal.opening) 0 ds) (is.deeds_is ∙ same ∙ ap entries_in some) is.legal;
  node_is = is.node_is ∙ sym node;
}
