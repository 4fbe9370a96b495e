use Rattle.std.proofs.Common.{◌≡◌, false, Err, sym, subst}
use Rattle.master.specs.declared.fault.MasterFault.{MasterFault}
use Rattle.master.specs.Decide.{master_step}
use Rattle.ruled.specs.declared.entry.MasterEntry.TheVariants.{Answered}
use Rattle.ruled.specs.Entries.{ruling}
use Rattle.ruled.specs.Ruled.{IsRuled, RuledData, with_journal}
use Rattle.ruled.proofs.Rulings.{denied_more, pushed, with_one}
use Rattle.ruled.proofs.ruled.Ruled.refuse.Goals as goal

pub invariant_of-self-2 : goal.invariant_of-self-2
invariant_of-self-2 g c =
    let old : RuledData = with_journal c.self.inside.entries c.self.inside.unsure c.self.inside.master in
    let now_open : old.master.closed ≡ false = subst (λ (d : RuledData). d.master.closed ≡ false) (sym c.self.view_is) c.requires.open in
    let cause : master_step old.master.state c.args.request ≡ Err c.args.fault = subst (λ (d : RuledData). master_step d.master.state c.args.request ≡ Err c.args.fault) (sym c.self.view_is) c.requires.cause in
    let more = denied_more old c.args.pass c.args.request c.args.fault c.self.invariant now_open c.requires.refused cause in
    let copied = subst (λ (f : MasterFault). IsRuled (with_one old (ruling c.args.pass c.args.request (Err f)) old.unsure old.master)) (sym c.copied.ensures) more in
    pushed c.self.inside.entries c.reserve.new.self c.push.new.self (Answered (ruling c.args.pass c.args.request (Err c.copied.result))) c.self.inside.unsure c.self.inside.master c.in_ok-reserve.ensures.kept c.in_ok-reserve.ensures.same c.push.ensures.added copied
