use Rattle.std.proofs.Common.{int_lt}
use Rattle.std.specs.Ordering.{int_cmp}
use Rattle.std.proofs.lemmas.Cmp.{int_cmp_total}
use Rattle.segment.proofs.SpanLaws.{forward, wide_longs, less_is_int}
use Rattle.segment.proofs.spans.of_longs.Goals as goal

pub returns-clause-forward : goal.returns-clause-forward
returns-clause-forward c = forward int_cmp int_cmp_total int_lt less_is_int c.first_long-low.result c.first_long-high.result c.long_span.result.0 c.long_span.result.1 c.long_span.ensures.start c.long_span.ensures.end

pub returns-clause-wide : goal.returns-clause-wide
returns-clause-wide c = wide_longs c.args.bounds.now c.first_long-low.result c.first_long-high.result c.long_span.result.0 c.long_span.result.1 c.first_long-low.ensures c.first_long-high.ensures c.long_span.ensures.start c.long_span.ensures.end
