use native.Mathlib.Nat.{zero-mul}
use Rattle.std.proofs.Common.{◌≡◌, ◌<◌, ◌≤◌, ◌+◌, ◌-◌, ◌*◌, ◌/◌, ◌^◌, ◌∙◌, ◌∷◌, [], ℕ, List, Bor, Result, length, map, ap, subst, sym, arith}
use Rattle.std.specs.List.{flat_map, range_with_len, AllZip}
use Rattle.std.specs.Prelude.{IfOk}
use Rattle.std.proofs.lemmas.List.{nil_from_length}
use Rattle.std.proofs.lemmas.Grind.{div_ceil_times}
use Rattle.std.proofs.lemmas.Result.{IfOk-at_ok}
use Rattle.rayon.specs.Numbers.{nat_range}
use Rattle.rayon.proofs.ListFacts.{IfOk-then}
use Rattle.rayon.proofs.ToStd.{nat_range-All}
use Rattle.op.specs.declared.record.Record.{Record}
use Rattle.translog.specs.declared.fault.LogFault.{LogFault}
use Rattle.translog.specs.declared.stretches.Stretch.{Stretch}
use Rattle.translog.specs.Frames.{framed, AreContents}
use Rattle.translog.specs.Pieces.{ArePieces}
use Rattle.translog.proofs.StretchLaws.{all-read, begins, in_turn, none-read, same_flag, was_ok, stretch, stretch-more, AreStretches, IsSoFar}
use Rattle.translog.proofs.stretches.together.Goals as goal

-- each stretch begins within the contents
pub collect-requires-clause-ready : goal.collect-requires-clause-ready
collect-requires-clause-ready g c κs within =
    let xs = c.args.contents.now in
    let size = length xs / 8 + 1 in
    let some : 0 < size = omega arith in
    let count = c.div_ceil.result in
    let ends = c.into_par_iter.ensures in
    let all = subst (λ (k : ℕ). (length xs ≤ k * size) × (k * size < length xs + size)) (sym c.div_ceil.ensures) (div_ceil_times (length xs) size some) in
    let small = AreContents (map (λ (v : Bor (List ℕ)). v.now) xs) in
    let offsets = 4 + length (flat_map framed (map (λ (v : Bor (List ℕ)). v.now) xs)) < 2 ^ 64 in
    let inside = nat_range-All (λ i. (i * size < length xs) × (small × offsets)) 0 count (λ i low high. (begins i count (length xs) size high all.1, (c.requires.small, c.requires.offsets))) in
    rw (c.map.ensures.base, c.map.ensures.f, c.with_min_len.ensures.base, ends.0, ends.1) (λ k d lt. (inside k d lt, λ y p. tt))

-- no stretch yet
pub loop-stretch-init : goal.loop-stretch-init
loop-stretch-init g c =
    let xs = c.args.contents.now in
    let size = length xs / 8 + 1 in
    let some : 0 < size = omega arith in
    let count = c.div_ceil.result in
    let stretches = c.in_ok-stretches.stretches in
    let gives = c.into_iter-stretch-iterator.ensures.into_iter_gives in
    let ends = c.into_par_iter.ensures in
    let made = was_ok _ stretches c.in_ok-stretches.ensures.value in
    let whole : count - 0 ≡ count = omega arith in
    let beside = λ (ns : List ℕ) (rs : List (Result Stretch LogFault)). AllZip (λ i r. IfOk r (λ s. ArePieces s.before (stretch (λ v. v.now) xs size (i * size)) s.records.items s.after)) ns rs in
    let collected : IfOk c.collect.result (λ v. beside (range_with_len 0 count) v.items) = IfOk-then c.collect.result _ _ c.collect.ensures (λ v h.
    let chain = rw (c.map.ensures.base, c.map.ensures.f, c.with_min_len.ensures.base) at h.1 in
    let places : chain.0 ≡ range_with_len 0 count = chain.1 ∙ (λ i. nat_range (ends.0 i) (ends.1 i)) ∙ ap (range_with_len 0) whole in
    subst (beside (range_with_len 0 count)) (sym h.2) (subst (λ ns. beside ns h.0) places chain.2)) in
    let each = IfOk-at_ok (λ v. beside (range_with_len 0 count) v.items) made collected in
    let all = subst (λ (k : ℕ). (length xs ≤ k * size) × (k * size < length xs + size)) (sym c.div_ceil.ensures) (div_ceil_times (length xs) size some) in
    let from : count ≡ 0 + count = omega arith in
    let ended = subst (λ (j : ℕ). length xs ≤ j * size) from all.0 in
    let empty : c.in_ok-records.records.items ≡ [] = rw (was_ok _ c.in_ok-records.records c.in_ok-records.ensures.value) at c.with_capacity.ensures.items in
    let rest : AreStretches (λ v. v.now) xs size 0 c.into_iter-stretch-iterator.result.rest.items
    = subst (AreStretches (λ v. v.now) xs size 0) (sym gives.0) (subst (λ (b : ℕ). AreStretches (λ v. v.now) xs size b stretches.items) (zero-mul size) (in_turn (λ v. v.now) xs size 0 count stretches.items ended each)) in (
      subst (λ (rs : List Record). IsSoFar (λ v. v.now) xs size c.args.groups rs c.args.groups c.into_iter-stretch-iterator.result.rest.items) (sym empty) (none-read (λ v. v.now) xs size c.args.groups _ rest),
      gives.1 ∙ stretches.ok.0 ∙ sym (ap length gives.0),
    )

-- one stretch more
pub loop-stretch-preserved : goal.loop-stretch-preserved
loop-stretch-preserved g c =
    let xs = c.args.contents.now in
    let size = length xs / 8 + 1 in
    let old = c.loop-stretch.records.items in
    let now = c.loop-stretch.may_group in
    let left = c.next.new.self.rest.items in
    let steps = c.in-Some.ensures.steps in
    let read = was_ok _ c.in_ok-next.next c.in_ok-next.ensures.value in
    let added = rw (was_ok _ _ c.in_ok-ok.ensures.value) at c.append.ensures.items in (
      stretch-more (λ v. v.now) xs size c.args.groups now old c.append.new.self.items c.in_ok-next.next left
          (subst (IsSoFar (λ v. v.now) xs size c.args.groups old now) (steps.0 ∙ ap (λ (r : Result Stretch LogFault). r ∷ left) read) c.loop-stretch.invariant.0) (same_flag _ _ c.if-next-may_group.false) added,
      omega (arith, steps.1, c.loop-stretch.invariant.1, ap length steps.0),
    )

-- all stretches
pub returns : goal.returns
returns g c =
    let xs = c.args.contents.now in
    let size = length xs / 8 + 1 in
    let old = c.loop-stretch.records.items in
    let now = c.loop-stretch.may_group in
    let left = c.loop-stretch.stretch-iterator.rest.items in
    let none : left ≡ [] = nil_from_length left (omega (arith, c.loop-stretch.invariant.1, c.in-None.ensures.steps.0)) in
    all-read (λ v. v.now) xs size c.args.groups now old (subst (IsSoFar (λ v. v.now) xs size c.args.groups old now) none c.loop-stretch.invariant.0)
