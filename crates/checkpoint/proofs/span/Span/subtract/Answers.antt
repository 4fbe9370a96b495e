use Rattle.std.proofs.Common.{ℕ, ◌≡◌, ◌<◌, ◌+◌, ◌*◌, ◌∙◌, not, ap, arith, w64}
use Rattle.std.specs.Prelude.{filter}
use Rattle.std.specs.Int.{bit_not}
use Rattle.op.specs.Ids.{has}
use Rattle.checkpoint.specs.Span.{is_set}
use Rattle.checkpoint.proofs.Spans.{done-on, left-on, narrowed}
use Rattle.checkpoint.proofs.WordBits.{set-not}
use Rattle.checkpoint.proofs.span.Span.subtract.Goals as goal

pub loop-step-preserved : goal.loop-step-preserved
loop-step-preserved c =
    let p = λ (n : ℕ). not (has c.args.others.now n) in
    let first = c.self.inside.first in
    let step = c.loop-step.step in
    let mask = bit_not w64 c.block.result in
    let masks : (i : ℕ) → i < 64 → is_set mask i ≡ p ((first + step) * 64 + i) = λ i lt. set-not c.block.result i (omega arith) lt ∙ ap not (c.block.ensures i lt) in
    record {
      done = done-on p first step mask c.self.inside.words c.loop-step.words c.keep.new.words c.loop-step-test.true c.keep.ensures masks c.loop-step.invariant.done c.loop-step.invariant.left;
      left = left-on p first step mask c.self.inside.words c.loop-step.words c.keep.new.words c.loop-step-test.true c.keep.ensures masks c.loop-step.invariant.done c.loop-step.invariant.left;
    }

pub returns : goal.returns
returns c =
    let p = λ (n : ℕ). not (has c.args.others.now n) in
    narrowed p c.self.inside.first c.self.inside.words c.loop-step.words (λ k lo hi. c.loop-step.invariant.done k lo (omega (arith, hi, c.loop-step-test.false))) ∙ ap (filter p) c.self.view_is
