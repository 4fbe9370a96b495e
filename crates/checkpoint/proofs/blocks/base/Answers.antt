use Rattle.std.proofs.Common.{◌≡◌, ◌+◌, ◌*◌, ◌/◌, arith}
use Rattle.checkpoint.proofs.Spans.{span-moved, span-empty, in_block}
use Rattle.checkpoint.proofs.blocks.base.Goals as goal

pub returns-then-word-ne0-clause-same : goal.returns-then-word-ne0-clause-same
returns-then-word-ne0-clause-same c = span-moved c.args.words.now c.args.first c.loop-step.step c.loop-step.invariant

pub returns-then-word-ne0-clause-near : goal.returns-then-word-ne0-clause-near
returns-then-word-ne0-clause-near c = λ near.
    let block = c.args.first + c.loop-step.step in
    let found = in_block c.args.words.now c.args.first block c.word.result (omega arith) (omega (arith, c.loop-step-test.true)) c.word.ensures (omega (arith, c.if-word-ne0.true)) (omega arith) in
    let at : (block * 64 + found.0) / 64 ≡ block = omega (arith, found.1) in
    let both = near (block * 64 + found.0) found.3 in
    (omega (arith, at, both.0), omega (arith, at, both.1))

pub returns-clause-same : goal.returns-clause-same
returns-clause-same c = span-empty c.args.words.now c.args.first c.loop-step.step c.loop-step.invariant c.args.other (omega (arith, c.loop-step-test.false))
