use Rattle.std.proofs.Common.{List, ◌++◌, sym, subst}
use Rattle.journal.specs.declared.journal.Ruling.{Ruling}
use Rattle.journals.specs.Entries.{IsTextOf, TellsRuling}
use Rattle.journals.proofs.Texts.{ends, goes_on}
use Rattle.journals.proofs.reading.rulings_of.Goals as goal

pub returns-in_default : goal.returns-in_default
returns-in_default c = subst (IsTextOf TellsRuling c.args.text.now) (sym c.from_vec.ensures)
    (ends TellsRuling c.args.text.now c.lines.rest.now c.cut_at.result.0.now c.lines.found.items c.cut_at.ensures.before (rw c.in_default.is at c.cut_at.ensures.after) c.in_ok-check_end.ensures c.lines.invariant)

pub lines-preserved : goal.lines-preserved
lines-preserved c = subst (λ xs. (more : List Ruling) → IsTextOf TellsRuling c.in-Some.behind.now more → IsTextOf TellsRuling c.args.text.now (xs ++ more)) (sym c.in_ok-push-in-Ok.ensures.items)
    (goes_on TellsRuling c.args.text.now c.lines.rest.now c.cut_at.result.0.now c.in-Some.behind.now c.lines.found.items c.in-Ok.ruling c.cut_at.ensures.before (rw c.in-Some.is at c.cut_at.ensures.after) c.in-Ok.ensures c.lines.invariant)
