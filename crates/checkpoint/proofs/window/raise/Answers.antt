use Rattle.std.proofs.Common.{◌+◌, refl, sym, ap, ◌∙◌, arith}
use Rattle.checkpoint.specs.Numbers.{with_below}
use Rattle.checkpoint.proofs.Sets.{with_below-twice}
use Rattle.checkpoint.proofs.Windows.{less_stays, moved_up, same_above, passed, unset, fresh_up}
use Rattle.checkpoint.proofs.window.raise.Goals as goal

pub returns-then-end-count-ge-SIZE-clause-numbers : goal.returns-then-end-count-ge-SIZE-clause-numbers
returns-then-end-count-ge-SIZE-clause-numbers c = sym (passed c.args.count c.args.end c.args.words.now _ (omega arith) (λ k _ _. unset k))

pub loop-number-init : goal.loop-number-init
loop-number-init c = record {
  numbers = sym (less_stays c.args.count c.args.count c.args.words.now (omega arith));
  above = λ k _ _. refl;
  fresh = λ k lo hi. absurd (omega (arith, lo, hi));
}

pub loop-number-preserved : goal.loop-number-preserved
loop-number-preserved c =
    let n = c.loop-number.number in
    let each = c.clear.ensures in
    record {
      numbers = sym (moved_up n c.loop-number.words c.clear.new.words each) ∙ ap (λ ns. with_below ns (n + 1)) c.loop-number.invariant.numbers ∙ with_below-twice n (n + 1) _ (omega arith);
      above = λ k lo hi. same_above n c.loop-number.words c.clear.new.words each k (omega (arith, lo)) (omega (arith, hi)) ∙ c.loop-number.invariant.above k (omega (arith, lo)) hi;
      fresh = fresh_up n c.loop-number.words c.clear.new.words each (c.args.count + 1024) c.loop-number.invariant.fresh;
    }
