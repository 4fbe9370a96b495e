use Rattle.std.proofs.Common.{◌≡◌, ◌<◌, ◌+◌, true, sym, ◌∙◌, arith}
use Rattle.checkpoint.specs.Window.{is_marked}
use Rattle.checkpoint.proofs.Windows.{moved_on, fresh_up, marked_below}
use Rattle.checkpoint.proofs.window.settle.Goals as goal

pub loop-step-preserved : goal.loop-step-preserved
loop-step-preserved c =
    let n = c.loop-step.next in
    let each = c.clear.ensures in
    let is : is_marked c.loop-step.words n ≡ true = sym c.is_marked.ensures ∙ c.if-not-is_marked.false in
    let below : n < 9223372036854775808 = marked_below c.loop-step.words n 9223372036854775808 (n + 1024) is c.loop-step.invariant.signed (omega arith) in
    record {
      at = omega (arith, c.loop-step.invariant.at);
      numbers = sym (moved_on n c.loop-step.words c.clear.new.words each is) ∙ c.loop-step.invariant.numbers;
      fresh = fresh_up n c.loop-step.words c.clear.new.words each (c.args.count + 1024) c.loop-step.invariant.fresh;
      signed = fresh_up n c.loop-step.words c.clear.new.words each 9223372036854775808 c.loop-step.invariant.signed;
      small = omega (arith, below);
    }
