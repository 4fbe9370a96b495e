use Rattle.checkpoint.proofs.Spans.{span-none, unset}
use Rattle.checkpoint.proofs.span.Span.empty.Goals as goal

pub returns : goal.returns
returns c = span-none _ 0 unset
