use Rattle.std.proofs.Common.{◌∙◌, ◌++◌, ◌*◌, ap, refl, arith, length, take, slice_index}
use Rattle.marks.specs.Bits.{marked_from, set_bits}
use Rattle.marks.proofs.Runs.{marked-word, marked-enough}
use Rattle.marks.proofs.words.first.Goals as goal

pub loop-at-init : goal.loop-at-init
unfolding marked_from
loop-at-init c = c.new-found.ensures.items

pub returns-then-len-wanted : goal.returns-then-len-wanted
returns-then-len-wanted c =
    c.truncate.ensures.items ∙ ap (take c.args.wanted) c.loop-at.invariant
    ∙ marked-enough c.args.words.now (64 * c.loop-at.at) (64 * length c.args.words.now) c.args.wanted (omega (arith, c.loop-at-test.true)) (omega (arith, c.if-len-wanted.true, c.len.ensures, c.loop-at.found.ok.0, ap length c.loop-at.invariant))

pub loop-at-preserved : goal.loop-at-preserved
loop-at-preserved c =
    c.in_ok-push_bits.ensures ∙ ap (λ l. l ++ set_bits 64 (64 * c.loop-at.at) (slice_index c.args.words.now c.loop-at.at)) c.loop-at.invariant
    ∙ marked-word c.args.words.now c.loop-at.at (slice_index c.args.words.now c.loop-at.at) refl
