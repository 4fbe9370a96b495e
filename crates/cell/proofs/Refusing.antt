-- What a call of a cell leaves.
use Rattle.std.proofs.Common.{◌≡◌, true, false, refl, sym, ap, subst, ◌∙◌, inl, inr, Result, Ok, Err, IfOk, IfErr}
use Rattle.std.specs.Prelude.{IsOk}
use Rattle.replica.specs.declared.input.Input.{Input}
use Rattle.replica.specs.Logged.{Logged, is_refresh}
use Rattle.published.specs.Line.{Line}
use Rattle.node.specs.declared.fault.NodeFault.{NodeFault}
use Rattle.node.specs.declared.fault.NodeFault.TheVariants.{NoMemory, NoSeat, Copy as Refused, Stray, Forgotten}
use Rattle.node.specs.Entry.{Receipt}
use Rattle.node.specs.Passes.{PassData}
use Rattle.node.specs.Held.{JournalData, IsCall, IsHeld}
use Rattle.cell.specs.Publishing.{CellData, IsKept, IsPublished, IsRefusedCall, IsShownAfter, IsStepped, IsAllShown}
use Rattle.node.specs.Reading.{standing}
use Rattle.node.specs.Stands.{IsDenied}
use Rattle.cell.proofs.Growing.{call_later, call_shows, published_later}

called_published : (h new : JournalData) (p q : PassData) (input : Input) (r : Receipt) (l : Logged) (line : Line) → IsHeld h l → IsCall h new p q input r → IsPublished h line → IsPublished new line
called_published h new p q input r l line held call is = published_later (standing h).copy (standing new).copy line (call_later h new r.deed l held call.journal) is

pub same_published : (h new : JournalData) (line : Line) → new ≡ h → IsPublished h line → IsPublished new line
same_published h new line same is = subst (λ (j : JournalData). IsPublished j line) (sym same) is

denied_published : (h new : JournalData) (p q : PassData) (input : Input) (e : NodeFault) (l : Logged) (line : Line) → IsHeld h l → IsDenied h new p q input e → IsPublished h line → IsPublished new line
denied_published h new p q input NoMemory l line held d is = same_published h new line d.0 is
denied_published h new p q input NoSeat l line held d is = absurd d
denied_published h new p q input (Stray place) l line held d is = same_published h new line d.0 is
denied_published h new p q input (Forgotten place) l line held d is = same_published h new line d.0 is
denied_published h new p q input (Refused e) l line held d is = called_published h new p q input d.0.0 l line held d.0.1 is

-- what was published begins the records after a call too
pub step_published : (h new : JournalData) (p q : PassData) (input : Input) (result : Result Receipt NodeFault) (l : Logged) (line : Line) → IsHeld h l
    → IfOk result (λ r. IsCall h new p q input r × IsOk r.deed.answer) → IfErr result (IsDenied h new p q input) → IsPublished h line → IsPublished new line
step_published h new p q input (Ok r) l line held ok err is = called_published h new p q input r l line held ok.0 is
step_published h new p q input (Err e) l line held ok err is = denied_published h new p q input e l line held err is

pub stepped : (h new : JournalData) (line : Line) (p q : PassData) (input : Input) (result : Result Receipt NodeFault)
    → IfOk result (λ r. IsCall h new p q input r × IsOk r.deed.answer) → IfOk result (λ r. IsStepped input (record { journal = h; line = line }) (record { journal = new; line = line }))
stepped h new line p q input (Ok r) call = record { line = refl; whole = λ e. call_shows h new r.deed call.0.journal (ap is_refresh call.0.asked ∙ e) call.1 }
stepped h new line p q input (Err e) call = tt

pub kept : (h new : JournalData) (line : Line) (p q : PassData) (input : Input) (result : Result Receipt NodeFault)
    → IfErr result (IsDenied h new p q input) → IfErr result (IsKept (record { journal = h; line = line }) (record { journal = new; line = line }) p q input)
kept h new line p q input (Ok r) d = tt
kept h new line p q input (Err e) d = record { denied = d; line = refl }

pub refused : (old new : CellData) (p q : PassData) (input : Input) (e : NodeFault) → IsKept old new p q input e → IsRefusedCall old new p q input e
refused old new p q input NoMemory k = inl k
refused old new p q input NoSeat k = absurd (k.denied)
refused old new p q input (Stray place) k = k
refused old new p q input (Forgotten place) k = k
refused old new p q input (Refused e) k = k

-- a call with its journal as it was before what it shows
pub call_as : (old mid new : CellData) (p q : PassData) (input : Input) (r : Receipt) → new.journal ≡ mid.journal → IsCall old.journal mid.journal p q input r → IsCall old.journal new.journal p q input r
call_as old mid new p q input r same call = subst (λ (j : JournalData). IsCall old.journal j p q input r) (sym same) call

pub unshown : (old mid new : CellData) (p q : PassData) (input : Input) (r : Receipt) (e : NodeFault) → e ≡ NoMemory → is_refresh input ≡ true → IsStepped input old mid → new.journal ≡ mid.journal
    → new.line.shown ≡ mid.line.shown → IsCall old.journal mid.journal p q input r → IsRefusedCall old new p q input e
unshown old mid new p q input r e memory refresh step same shown call = subst (λ (f : NodeFault). IsRefusedCall old new p q input f) (sym memory) (inr (record {
  refresh = refresh;
  receipt = r;
  call = call_as old mid new p q input r same call;
  shown = shown ∙ ap (λ (l : Line). l.shown) step.line;
}))

pub shown_all : (input : Input) (old new : CellData) → is_refresh input ≡ true → IsAllShown new → IsShownAfter input old new
shown_all input old new refresh is = record { whole = λ e. is; same = λ e. absurd (let no : true ≡ false = sym refresh ∙ e in cc) }

pub shown_same : (input : Input) (old new : CellData) → is_refresh input ≡ false → IsStepped input old new → IsShownAfter input old new
shown_same input old new other step = record { whole = λ e. absurd (let no : false ≡ true = sym other ∙ e in cc); same = λ e. step.line }
