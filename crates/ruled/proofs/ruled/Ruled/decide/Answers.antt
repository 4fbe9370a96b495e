use Rattle.std.proofs.Common.{◌≡◌, Ok, sym, subst}
use Rattle.master.specs.Decide.{decision_of, master_step}
use Rattle.ruled.specs.declared.entry.MasterEntry.TheVariants.{Answered}
use Rattle.ruled.specs.Entries.{ruling}
use Rattle.ruled.specs.Ruled.{RuledData, with_journal}
use Rattle.ruled.proofs.Rulings.{made_more, pushed}
use Rattle.ruled.proofs.ruled.Ruled.decide.Goals as goal

pub invariant_of-self-in-Ok : goal.invariant_of-self-in-Ok
invariant_of-self-in-Ok g c =
    let old : RuledData = with_journal c.self.inside.entries c.self.inside.unsure c.self.inside.master in
    let looked : decision_of (master_step old.master.state c.args.request) ≡ Ok c.args.looked = subst (λ (d : RuledData). decision_of (master_step d.master.state c.args.request) ≡ Ok c.args.looked) (sym c.self.view_is) c.requires.looked in
    let more = made_more old c.step.new.self c.args.pass c.args.request c.args.looked c.self.invariant c.in-Ok.made c.in-Ok.ensures.done looked in
    pushed c.self.inside.entries c.reserve.new.self c.push.new.self (Answered (ruling c.args.pass c.args.request (Ok c.args.looked))) c.self.inside.unsure c.step.new.self c.in_ok-reserve.ensures.kept c.in_ok-reserve.ensures.same c.push.ensures.added more
