use Rattle.std.proofs.Common.{option_map}
use Rattle.std.specs.Range.Bound.{bound_map}
use Rattle.std.specs.String.{string_cmp, string_cmp_total}
use Rattle.segment.specs.Spans.{is_less_text}
use Rattle.segment.proofs.SpanLaws.{forward, wide_texts, less_is_text}
use Rattle.segment.proofs.spans.of_texts.Goals as goal

pub returns-clause-forward : goal.returns-clause-forward
returns-clause-forward c = forward string_cmp string_cmp_total is_less_text less_is_text (option_map (λ s. s.now) c.first_text-low.result) (option_map (λ s. s.now) c.first_text-high.result) (bound_map (λ s. s.now) c.text_span.result.0) (bound_map (λ s. s.now) c.text_span.result.1) c.text_span.ensures.start c.text_span.ensures.end

pub returns-clause-wide : goal.returns-clause-wide
returns-clause-wide c = wide_texts c.args.bounds.now (option_map (λ s. s.now) c.first_text-low.result) (option_map (λ s. s.now) c.first_text-high.result) (bound_map (λ s. s.now) c.text_span.result.0) (bound_map (λ s. s.now) c.text_span.result.1) c.first_text-low.ensures c.first_text-high.ensures c.text_span.ensures.start c.text_span.ensures.end
