use Rattle.std.proofs.Common.{◌+◌, ◌*◌, ◌∙◌, ap, nat_lt}
use Rattle.op.specs.Ids.{has}
use Rattle.checkpoint.proofs.Spans.{block-past, block-window}
use Rattle.checkpoint.proofs.tracker.Tracker.block.Goals as goal

pub returns-then-start-self : goal.returns-then-start-self
returns-then-start-self c = λ i lt. block-past c.self.inside.words c.self.inside.count c.args.block i lt c.if-start-self.true ∙ ap (λ ns. has ns (c.args.block * 64 + i)) c.self.view_is

pub returns : goal.returns
returns c = λ i lt.
    block-window c.self.inside.words c.self.inside.count c.args.block c.low_bits-near.result c.low_bits-all.result i lt c.if-start-self.false (c.low_bits-near.ensures i lt) (c.low_bits-all.ensures i lt ∙ ap (λ n. nat_lt i n) c.saturating_sub.ensures)
    ∙ ap (λ ns. has ns (c.args.block * 64 + i)) c.self.view_is
