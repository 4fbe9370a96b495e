use Rattle.std.proofs.Common.{◌+◌, ◌*◌, ◌∙◌, ap, arith}
use Rattle.op.specs.Ids.{has}
use Rattle.checkpoint.specs.Span.{is_set}
use Rattle.checkpoint.proofs.Spans.{block-inside, block-below, block-above}
use Rattle.checkpoint.proofs.span.Span.block.Goals as goal
use Rattle.checkpoint.proofs.span.Span.block.Goals.{then-block-self-via-then-block-self, then-block-self-via-else-block-self+then-block-self-ge-BLOCKS}

pub returns-then-block-self : goal.returns-then-block-self
returns-then-block-self c = λ i lt. elim c.then-block-self.branch [
  | then-block-self-via-then-block-self w ↦ block-below c.self.inside.words c.self.inside.first c.args.block i lt w.if-block-self.true ∙ ap (λ ns. has ns (c.args.block * 64 + i)) c.self.view_is
  | then-block-self-via-else-block-self+then-block-self-ge-BLOCKS w ↦ block-above c.self.inside.words c.self.inside.first c.args.block i lt (omega (arith, w.if-block-self.false, w.if-block-self-ge-BLOCKS.true)) ∙ ap (λ ns. has ns (c.args.block * 64 + i)) c.self.view_is
]

pub returns : goal.returns
returns c = λ i lt.
    ap (λ w. is_set w i) c.word.ensures ∙ block-inside c.self.inside.words c.self.inside.first c.args.block i lt (omega (arith, c.if-block-self.false)) (omega (arith, c.if-block-self.false, c.if-block-self-ge-BLOCKS.false))
    ∙ ap (λ ns. has ns (c.args.block * 64 + i)) c.self.view_is
