use Rattle.std.proofs.Common.{◌<◌, length, arith}
use Rattle.engine.specs.Shown.{shown_view}
use Rattle.engine.proofs.ChosenLaws.{same-at}
use Rattle.engine.proofs.read.block.are_same.Goals as goal

-- two that differ at a place aren't the same
pub returns-then-not-is_same : goal.returns-then-not-is_same
returns-then-not-is_same c =
    let ys = c.args.right.now in
    let within : c.loop-at.at < length ys = omega (arith, c.loop-at-test.true, c.if-left-right.false) in
    (λ t. cc, λ same. c.if-not-is_same.ensures.1 (same-at shown_view c.args.left.now ys c.loop-at.at c.index-left-at.result c.index-right-at.result c.loop-at-test.true within c.index-left-at.is c.index-right-at.is same))
