use Rattle.std.proofs.Common.{◌≡◌, List, [], ◌∷◌, ◌++◌, Option, Some, None, sym, ap, subst, ◌∙◌}
use Rattle.journal.specs.declared.journal.Ruling.{Ruling}
use Rattle.master.specs.declared.state.State.{State}
use Rattle.ruled.specs.declared.entry.MasterEntry.{MasterEntry}
use Rattle.ruled.specs.Entries.{opened_after, rulings_in}
use Rattle.ruled.proofs.Gathering.{opened_push, opened_push_answered, rulings_push, rulings_push_opened}
use Rattle.ruled.proofs.entry.journal_of.Goals as goal

pub loop-entry-preserved-in-Opened : goal.loop-entry-preserved-in-Opened
loop-entry-preserved-in-Opened c =
    let so_far = c.loop-entry.yielded in
    let opened : Option State = Some c.in-Opened.state in
    subst (λ (e : MasterEntry). (opened ≡ opened_after None (so_far ++ e ∷ [])) × (c.loop-entry.rulings.items ≡ rulings_in (so_far ++ e ∷ []))) (sym c.in-Opened.is)
    (sym (opened_push None so_far c.in-Opened.state), c.loop-entry.invariant.1 ∙ sym (rulings_push_opened so_far c.in-Opened.state))

pub loop-entry-preserved : goal.loop-entry-preserved
loop-entry-preserved c =
    let so_far = c.loop-entry.yielded in
    let r = c.in-Answered.ruling in
    subst (λ (e : MasterEntry). (c.loop-entry.opening ≡ opened_after None (so_far ++ e ∷ [])) × (c.push.new.self.items ≡ rulings_in (so_far ++ e ∷ []))) (sym c.in-Answered.is)
    (c.loop-entry.invariant.0 ∙ sym (opened_push_answered None so_far r), c.in_ok-push-in-Answered.ensures.items ∙ ap (λ (rs : List Ruling). rs ++ r ∷ []) c.loop-entry.invariant.1 ∙ sym (rulings_push so_far r))
