use Rattle.std.proofs.Common.{◌≡◌, ◌/◌, ◌+◌, ◌∙◌, ap, arith, ⊎_elim, nat_lt}
use Rattle.std.proofs.lemmas.Bool.{cases_eq}
use mathlib.Core.Logic.{◌≢◌}
use Rattle.checkpoint.proofs.Spans.{none-from, in_block-above}
use Rattle.checkpoint.proofs.blocks.ends_before.Goals as goal

pub loop-step-preserved : goal.loop-step-preserved
loop-step-preserved c = λ k lo hi le. ⊎_elim
    (λ (same : k / 64 ≡ c.args.first + c.loop-step.step).
    none-from c.args.words.now (c.args.first + c.loop-step.step) c.args.number c.word.result c.low_bits-below.result c.word.ensures (omega arith) (λ i lt. c.low_bits-below.ensures i lt ∙ ap (λ n. nat_lt i n) c.saturating_sub.ensures) (omega (arith, c.if-word-below-ne0.false)) k same le)
    (λ (apart : k / 64 ≢ c.args.first + c.loop-step.step). c.loop-step.invariant k lo (omega (arith, hi, apart)) le)
    (cases_eq (k / 64) (c.args.first + c.loop-step.step))

pub returns-then-word-below-ne0-clause-all : goal.returns-then-word-below-ne0-clause-all
returns-then-word-below-ne0-clause-all c = λ all. absurd (
    in_block-above c.args.words.now c.args.first (c.args.first + c.loop-step.step) c.args.number c.word.result c.low_bits-below.result (omega arith) (omega (arith, c.loop-step-test.true)) c.word.ensures (omega arith)
    (λ i lt. c.low_bits-below.ensures i lt ∙ ap (λ n. nat_lt i n) c.saturating_sub.ensures) (omega (arith, c.if-word-below-ne0.true)) (omega arith) all)
