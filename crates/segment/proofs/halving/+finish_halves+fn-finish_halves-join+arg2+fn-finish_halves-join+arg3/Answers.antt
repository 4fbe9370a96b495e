use Rattle.std.proofs.lemmas.Result.{IfOk-at_ok}
use Rattle.segment.specs.Added.{AreFinished}
use Rattle.segment.proofs.HalvingLaws.{halves-finished}
use Rattle.segment.proofs.halving.+finish_halves+fn-finish_halves-join+arg2+fn-finish_halves-join+arg3.Goals as goal

-- both halves are finished
pub returns : goal.returns
returns g t c =
    let halves = c.in_ok-halves.halves in
    let first = IfOk-at_ok (AreFinished c.args.len halves.0) c.in_ok-first.was c.join-first.ensures.first in
    let rest = IfOk-at_ok (AreFinished c.args.len halves.1) c.in_ok-columns.was c.join-first.ensures.second in
    halves-finished c.args.len c.args.makings halves.0 halves.1 c.in_ok-first.field-0 c.in_ok-columns.columns c.add_all.new.columns c.in_ok-halves.ensures.all first rest c.in_ok-add_all.ensures
