use Rattle.std.proofs.Common.{◌∙◌, sym, drop}
use Rattle.front.proofs.Greetings.{before_at}
use Rattle.front.proofs.pieces.split_head.Goals as goal

pub returns-in-Some-clause-head : goal.returns-in-Some-clause-head
returns-in-Some-clause-head c =
    let found = c.in-Some.ensures.cases in
    c.split_at.ensures.front ∙ sym (before_at c.args.text.now (drop found.0 c.args.text.now) c.in-Some.at found.1.0 found.1.1.split)
