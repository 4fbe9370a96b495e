use Rattle.std.proofs.Common.{ℕ, ◌∙◌, ap, arith}
use Rattle.std.specs.Prelude.{filter}
use Rattle.op.specs.Ids.{has}
use Rattle.checkpoint.proofs.Spans.{done-on, left-on, narrowed}
use Rattle.checkpoint.proofs.span.Span.intersect.Goals as goal

pub loop-step-preserved : goal.loop-step-preserved
loop-step-preserved c =
    let p = λ (n : ℕ). has c.args.numbers.now n in
    let first = c.self.inside.first in
    let step = c.loop-step.step in
    record {
      done = done-on p first step c.block.result c.self.inside.words c.loop-step.words c.keep.new.words c.loop-step-test.true c.keep.ensures c.block.ensures c.loop-step.invariant.done c.loop-step.invariant.left;
      left = left-on p first step c.block.result c.self.inside.words c.loop-step.words c.keep.new.words c.loop-step-test.true c.keep.ensures c.block.ensures c.loop-step.invariant.done c.loop-step.invariant.left;
    }

pub returns : goal.returns
returns c =
    let p = λ (n : ℕ). has c.args.numbers.now n in
    narrowed p c.self.inside.first c.self.inside.words c.loop-step.words (λ k lo hi. c.loop-step.invariant.done k lo (omega (arith, hi, c.loop-step-test.false))) ∙ ap (filter p) c.self.view_is
