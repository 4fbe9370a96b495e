use Rattle.std.proofs.Common.{List, ◌++◌, sym, subst}
use Rattle.journal.specs.declared.journal.Deed.{Deed}
use Rattle.journals.specs.Entries.{IsTextOf, TellsDeed}
use Rattle.journals.proofs.Texts.{ends, goes_on}
use Rattle.journals.proofs.reading.deeds_of.Goals as goal

pub returns-in_default : goal.returns-in_default
returns-in_default c = subst (IsTextOf TellsDeed c.args.text.now) (sym c.from_vec.ensures)
    (ends TellsDeed c.args.text.now c.lines.rest.now c.cut_at.result.0.now c.lines.found.items c.cut_at.ensures.before (rw c.in_default.is at c.cut_at.ensures.after) c.in_ok-check_end.ensures c.lines.invariant)

pub lines-preserved : goal.lines-preserved
lines-preserved c = subst (λ xs. (more : List Deed) → IsTextOf TellsDeed c.in-Some.behind.now more → IsTextOf TellsDeed c.args.text.now (xs ++ more)) (sym c.in_ok-push-in-Ok.ensures.items)
    (goes_on TellsDeed c.args.text.now c.lines.rest.now c.cut_at.result.0.now c.in-Some.behind.now c.lines.found.items c.in-Ok.deed c.cut_at.ensures.before (rw c.in-Some.is at c.cut_at.ensures.after) c.in-Ok.ensures c.lines.invariant)
