use Rattle.std.proofs.Common.{◌≡◌, length, refl, sym, ap, ◌∙◌, subst}
use Rattle.replica.specs.declared.input.Input.{Input}
use Rattle.node.specs.Held.{JournalData, journal, IsHeld}
use Rattle.node.specs.Telling.{IsEntered}
use Rattle.node.specs.declared.telling.Entered.{Entered}
use Rattle.node.proofs.Calls.{entered, grown, held_same, ready}
use Rattle.node.proofs.held.Held.enter.Goals as goal

pub invariant_of-self-in_err-own : goal.invariant_of-self-in_err-own
invariant_of-self-in_err-own g c =
    let h : JournalData = journal c.self.inside.deeds.ledger.kept c.self.inside.began c.self.inside.deeds.ledger.entries in
    let same = ready c.reserve.new.self.ledger c.self.inside.deeds.ledger.kept c.self.inside.deeds.ledger.entries c.self.inside.began c.reserve.ensures.kept c.reserve.ensures.same in (
      c.reserve.ensures.number ∙ c.self.invariant.0,
      subst (λ (x : JournalData). IsHeld x c.tell.new.copy) same (held_same h c.self.inside.copy c.tell.new.copy c.self.invariant.1 c.in_err-own.ensures.err),
      c.self.invariant.2 ∙ sym c.reserve.ensures.kept,
      c.self.invariant.3,
    )

pub invariant_of-self-2 : goal.invariant_of-self-2
invariant_of-self-2 g c =
    let h : JournalData = journal c.self.inside.deeds.ledger.kept c.self.inside.began c.self.inside.deeds.ledger.entries in
    let new : JournalData = journal c.push-upto.new.self.ledger.kept c.self.inside.began c.push-upto.new.self.ledger.entries in
    let t = c.in_ok-own.field-0 in
    let e : Entered = record { place = length h.deeds; kept = t.kept; given = t.given } in
    let more = grown c.reserve.new.self.ledger c.push-upto.new.self.ledger c.self.inside.deeds.ledger.kept c.self.inside.deeds.ledger.entries c.self.inside.began t.own c.reserve.ensures.kept c.reserve.ensures.same (ap (λ x. x.ledger) c.push-upto.ensures.added) in (
      ap (λ x. x.number) c.push-upto.ensures.added ∙ (c.reserve.ensures.number ∙ c.self.invariant.0),
      (entered h new c.self.inside.copy c.tell.new.copy c.args.pass c.in_ok-inputs.inputs.asked t e c.self.invariant.1 c.is_logged.ensures c.in_ok-own.ensures.told more refl).0,
      c.self.invariant.2 ∙ sym (ap (λ (x : JournalData). x.kept) more),
      c.self.invariant.3,
    )

pub returns-clause-ok : goal.returns-clause-ok
returns-clause-ok g c =
    let h : JournalData = journal c.self.inside.deeds.ledger.kept c.self.inside.began c.self.inside.deeds.ledger.entries in
    let new : JournalData = journal c.push-upto.new.self.ledger.kept c.self.inside.began c.push-upto.new.self.ledger.entries in
    let t = c.in_ok-own.field-0 in
    let e : Entered = record { place = c.len-place.result; kept = t.kept; given = t.given } in
    let more = grown c.reserve.new.self.ledger c.push-upto.new.self.ledger c.self.inside.deeds.ledger.kept c.self.inside.deeds.ledger.entries c.self.inside.began t.own c.reserve.ensures.kept c.reserve.ensures.same (ap (λ x. x.ledger) c.push-upto.ensures.added) in
    let place : c.len-place.result ≡ length h.deeds = (c.len-place.ensures ∙ ap (λ l. length l.entries) c.ledger.ensures) ∙ ap length c.reserve.ensures.same in
    let same : e ≡ record { place = length h.deeds; kept = t.kept; given = t.given } = ap (λ n. let x : Entered = record { place = n; kept = t.kept; given = t.given } in x) place in
    let both = entered h new c.self.inside.copy c.tell.new.copy c.args.pass c.in_ok-inputs.inputs.asked t e c.self.invariant.1 c.is_logged.ensures c.in_ok-own.ensures.told more same in
    subst (λ (i : Input). IsEntered c.args.self.now new c.args.pass i e) c.in_ok-inputs.ensures.0
    (subst (λ (x : JournalData). IsEntered x new c.args.pass c.in_ok-inputs.inputs.asked e) c.self.view_is both.1)
