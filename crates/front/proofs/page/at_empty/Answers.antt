use Rattle.std.proofs.Common.{◌∙◌, sym, drop}
use Rattle.front.proofs.Greetings.{before_at, before_none}
use Rattle.front.proofs.page.at_empty.Goals as goal

pub returns-in-Some-clause-head : goal.returns-in-Some-clause-head
returns-in-Some-clause-head c =
    let found = c.in-Some.ensures.cases in
    c.split_at.ensures.front ∙ sym (before_at c.args.page.now (drop found.0 c.args.page.now) c.in-Some.at found.1.0 found.1.1.split)

pub returns-in-None-clause-head : goal.returns-in-None-clause-head
returns-in-None-clause-head c = sym (before_none c.args.page.now c.in-None.ensures.cases)
