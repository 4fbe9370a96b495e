use Rattle.std.proofs.Common.{◌+◌, ◌*◌, ◌++◌, ◌∙◌, sym, ap, arith}
use Rattle.checkpoint.specs.Span.{is_set_from, is_spanned, span_of}
use Rattle.checkpoint.specs.Window.{marked_from}
use Rattle.checkpoint.proofs.Spans.{marked-zero, numbers-on}
use Rattle.checkpoint.proofs.span.Span.to_vec.Goals as goal

pub loop-step-init : goal.loop-step-init
loop-step-init c = c.new-numbers.ensures.items ∙ sym (marked-zero (is_spanned c.self.inside.words) (c.self.inside.first * 64))

pub loop-step-preserved : goal.loop-step-preserved
loop-step-preserved c =
    let start = (c.self.inside.first + c.loop-step.step) * 64 in
    c.in_ok-push_block.ensures ∙ ap (λ ns. ns ++ marked_from (is_set_from c.word.result start) start 64) c.loop-step.invariant
    ∙ numbers-on c.self.inside.words c.self.inside.first c.loop-step.step c.word.result c.word.ensures

pub returns : goal.returns
unfolding span_of
returns c = c.loop-step.invariant ∙ ap (marked_from (is_spanned c.self.inside.words) (c.self.inside.first * 64)) (omega (arith, c.loop-step-test.false, c.loop-step.auto.step-end)) ∙ c.self.view_is
