use Rattle.std.proofs.Common.{◌≡◌, ◌-◌, arith, subst, ℕ}
use Rattle.segment.proofs.PlacedLaws.{all-stand, none-stands, one-stands, ArePlacedFrom}
use Rattle.segment.proofs.weaving.placed.Goals as goal

-- none yet
pub loop-left-init : goal.loop-left-init
loop-left-init c = record {
  left = omega arith;
  so_far = none-stands c.args.sources.now c.args.taken.now c.args.part.now c.args.to.now (omega (arith, c.if-len-sources.false, c.len.ensures)) c.in_ok-mine.mine (omega (arith, c.if-part-to.false)) c.in_ok-mine.ensures;
}

-- one document more
pub loop-left-preserved : goal.loop-left-preserved
loop-left-preserved c =
    let from = c.loop-left.left - 1 in
    record {
      left = omega (arith, c.loop-left.invariant.left);
      so_far = one-stands c.args.sources.now c.args.taken.now c.args.part.now c.args.to.now (omega (arith, c.if-len-sources.false, c.len.ensures)) c.loop-left.mine c.mark_next.new.mine c.loop-left.bound c.in-Some.next from c.loop-left.left c.index-part-left.result c.index-part-left.is
          (omega (arith, c.loop-left.invariant.left, c.loop-left-test.true)) (omega (arith, c.if-part-to.false)) (omega (arith, c.loop-left-test.true)) c.loop-left.invariant.so_far c.in-Some.ensures;
    }

-- all
pub returns : goal.returns
returns c =
    let none : c.loop-left.left ≡ 0 = omega (arith, c.loop-left-test.false) in
    all-stand c.args.sources.now c.args.taken.now c.args.part.now c.args.to.now (omega (arith, c.if-len-sources.false, c.len.ensures)) c.loop-left.mine c.loop-left.bound
    (subst (λ (n : ℕ). ArePlacedFrom c.args.sources.now c.args.taken.now c.loop-left.mine c.args.part.now c.args.to.now c.loop-left.bound n) none c.loop-left.invariant.so_far)
