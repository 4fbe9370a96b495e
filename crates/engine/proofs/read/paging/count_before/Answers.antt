use Rattle.std.proofs.Common.{◌≡◌, ◌<◌, ◌+◌, ◌-◌, ◌/◌, ◌∙◌, ℕ, suc, true, false, ap, sym, subst, arith, drop, length, get_or, take}
use Rattle.std.proofs.lemmas.List.{length-map}
use Rattle.engine.specs.Before.{is_before}
use Rattle.engine.specs.Shown.{seen}
use Rattle.engine.proofs.PartLaws.{true_T}
use Rattle.engine.proofs.PageLaws.{AllBefore, Counted, NoneBefore, before_front, behind_rest, counted, seen-at, seen-within}
use Rattle.engine.specs.Shown.{shown_view}
use Rattle.engine.proofs.read.paging.count_before.Goals as goal

-- the document in the middle stands before the id, and so do those before it
pub loop-low-preserved-then-is_before : goal.loop-low-preserved-then-is_before
loop-low-preserved-then-is_before c =
    let rs = c.args.list.now in
    let id = c.args.id.now in
    let k = c.loop-low.low + (c.loop-low.high - c.loop-low.low) / 2 in
    let r = c.index-list-middle.result in
    let lt : k < length rs = omega (arith, c.loop-low.invariant.within, c.loop-low-test.true) in
    let is : is_before id (get_or (seen rs) k (shown_view r.now)) ≡ true = ap (is_before id) (seen-at rs k r lt c.index-list-middle.is) ∙ sym c.is_before.ensures ∙ c.if-is_before.true in
    let one : suc k ≡ k + 1 = omega arith in
    record {
      order = omega (arith, c.loop-low-test.true);
      within = c.loop-low.invariant.within;
      front = subst (λ (n : ℕ). AllBefore id (take n (seen rs))) one (before_front id (seen rs) k (shown_view r.now) (true_T _ c.requires) (seen-within rs k lt) is);
      rest = c.loop-low.invariant.rest;
    }

-- it doesn't, and nor do those behind it
pub loop-low-preserved : goal.loop-low-preserved
loop-low-preserved c =
    let rs = c.args.list.now in
    let id = c.args.id.now in
    let k = c.loop-low.low + (c.loop-low.high - c.loop-low.low) / 2 in
    let r = c.index-list-middle.result in
    let lt : k < length rs = omega (arith, c.loop-low.invariant.within, c.loop-low-test.true) in
    let isnt : is_before id (get_or (seen rs) k (shown_view r.now)) ≡ false = ap (is_before id) (seen-at rs k r lt c.index-list-middle.is) ∙ sym c.is_before.ensures ∙ c.if-is_before.false in
    record {
      order = omega arith;
      within = omega (arith, lt);
      front = c.loop-low.invariant.front;
      rest = behind_rest id (seen rs) k (shown_view r.now) (true_T _ c.requires) (seen-within rs k lt) isnt;
    }

pub returns : goal.returns
returns c =
    let rs = c.args.list.now in
    let id = c.args.id.now in
    let n = c.loop-low.low in
    let same : c.loop-low.high ≡ n = omega (arith, c.loop-low.invariant.order, c.loop-low-test.false) in
    let cut : Counted id (seen rs) n =
    counted id (seen rs) n (omega (arith, c.loop-low.invariant.order, c.loop-low.invariant.within, length-map rs (λ r. shown_view r.now))) c.loop-low.invariant.front
    (subst (λ (k : ℕ). NoneBefore id (drop k (seen rs))) same c.loop-low.invariant.rest) in
    record { within = omega (arith, c.loop-low.invariant.order, c.loop-low.invariant.within); count = cut.count; rest = cut.rest }
