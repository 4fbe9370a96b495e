use Rattle.std.proofs.Common.{◌≡◌, true, Option, Some, Ok, sym, subst, ◌∙◌, true≢false}
use Rattle.std.specs.Prelude.{IsTrue}
use Rattle.journal.specs.declared.journal.Ruling.{Ruling}
use Rattle.master.specs.Log.{kept_state}
use Rattle.ruled.specs.declared.entry.MasterEntry.TheVariants.{Answered}
use Rattle.ruled.specs.Ruled.{IsRuled, RuledData, with_journal}
use Rattle.ruled.proofs.Rulings.{found_ruled, pushed, with_one}
use Rattle.ruled.proofs.ruled.Ruled.settle.Goals as goal

pub invariant_of-self-in-Some : goal.invariant_of-self-in-Some
invariant_of-self-in-Some g c =
    let old : RuledData = with_journal c.self.inside.entries c.self.inside.unsure c.self.inside.master in
    let closed : old.master.closed ≡ true = sym c.is_closed.ensures ∙ c.if-not-is_closed.false in
    let there : old.unsure ≡ Some c.in-Some.ruling = sym c.in-Some.ensures.value in
    let opened : kept_state old.master.log ≡ Ok c.reopen.new.self.state = c.in_default.ensures.state in
    let other : c.reopen.new.self.state ≡ old.master.state → ⊥ = λ e. true≢false (sym (subst IsTrue c.if-is.false (c.is.ensures.1 (c.state-2.ensures ∙ e ∙ sym (c.in_ok-known.ensures ∙ c.state.ensures))))) in
    let more = found_ruled old c.reopen.new.self c.in-Some.ruling c.self.invariant closed there opened other c.in_default.ensures.opened in
    let unsure = subst (λ (o : Option Ruling). IsRuled (with_one old c.in-Some.ruling o c.reopen.new.self)) (sym c.take.ensures.after) more in
    pushed c.self.inside.entries c.reserve.new.self c.push.new.self (Answered c.in-Some.ruling) c.take.new.self c.reopen.new.self c.in_ok-reserve.ensures.kept c.in_ok-reserve.ensures.same c.push.ensures.added unsure
