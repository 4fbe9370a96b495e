use denote.Param.Send.{sendable}
use native.Mathlib.Nat.{zero-mul}
use Rattle.std.proofs.Common.{◌≡◌, ◌∙◌, ◌<◌, ◌≤◌, ◌+◌, ◌-◌, ◌*◌, ◌^◌, ◌∷◌, [], rules, arith, sym, ap, subst, map, length, List, ℕ, Result}
use Rattle.std.specs.Prelude.{IfOk}
use Rattle.std.specs.List.{AllZip, range_with_len}
use Rattle.std.proofs.lemmas.Grind.{div_ceil_times}
use Rattle.rayon.specs.Numbers.{nat_range}
use Rattle.rayon.proofs.ToStd.{nat_range-All}
use Rattle.std.specs.declared.alloc.AllocError.{AllocError}
use Rattle.std.proofs.lemmas.List.{length-map, nil_from_length}
use Rattle.std.proofs.lemmas.Result.{IfOk-weaker}
use Rattle.doc.specs.Document.{all_values}
use Rattle.segment.specs.Added.{AreFinished}
use Rattle.segment.specs.Joined.{behind, AreMakings}
use Rattle.segment.proofs.AddedLaws.{makings-few, makings-finished, Makings}
use Rattle.segment.proofs.JoinedLaws.{nothing-yet}
use Rattle.segment.proofs.PieceLaws.{all-pieces, begins, in_turn, piece, ArePieces, IsSoFar, long-piece, long-so_far, piece-more}
use Rattle.segment.proofs.pieces.columns_of.Goals as goal

-- each piece begins within the texts
pub collect-requires-clause-ready : goal.collect-requires-clause-ready
collect-requires-clause-ready g c κs within =
    let ss = c.args.sources.now in
    let size = c.piece_size-size.result in
    let some : 0 < size = omega (arith, c.piece_size-size.ensures) in
    let count = c.div_ceil.result in
    let ends = c.into_par_iter.ensures in
    let all = subst (λ (k : ℕ). (length ss ≤ k * size) × (k * size < length ss + size)) (sym c.div_ceil.ensures) (div_ceil_times (length ss) size some) in
    let inside = nat_range-All (λ i. (length ss < 2 ^ 32) × ((0 < size) × (i * size < length ss))) 0 count (λ i low high. (c.requires, (some, begins i count (length ss) size high all.1))) in
    rw (c.map.ensures.base, c.map.ensures.f, c.with_min_len.ensures.base, ends.0, ends.1) (λ k d lt. (inside k d lt, λ y p. tt))

-- no piece yet
pub loop-piece-init : goal.loop-piece-init
loop-piece-init g c =
    let m = c.args.mapping.now in
    let ss = c.args.sources.now in
    let size = c.piece_size-size.result in
    let some : 0 < size = omega (arith, c.piece_size-size.ensures) in
    let count = c.div_ceil.result in
    let pieces = c.in_ok-pieces.pieces in
    let gives = c.into_iter-piece-iterator.ensures.into_iter_gives in
    let ends = c.into_par_iter.ensures in
    let given = c.in_ok-pieces.ensures in
    let chain = rw (c.map.ensures.base, c.map.ensures.f, c.with_min_len.ensures.base) at given.1 in
    let whole : count - 0 ≡ count = omega arith in
    let places : chain.0 ≡ range_with_len 0 count = chain.1 ∙ (λ i. nat_range (ends.0 i) (ends.1 i)) ∙ ap (range_with_len 0) whole in
    let beside = λ (ns : List ℕ) (rs : List (Result Makings AllocError)). AllZip (λ i r. IfOk r (AreMakings m.fields (behind (i * size) (piece m size (length ss) ss (i * size))) (length ss))) ns rs in
    let each : beside (range_with_len 0 count) pieces.items = subst (beside (range_with_len 0 count)) (sym given.2) (subst (λ ns. beside ns given.0) places chain.2) in
    let all = subst (λ (k : ℕ). (length ss ≤ k * size) × (k * size < length ss + size)) (sym c.div_ceil.ensures) (div_ceil_times (length ss) size some) in
    let from : count ≡ 0 + count = omega arith in
    let ended = subst (λ (j : ℕ). length ss ≤ j * size) from all.0 in
    let below : (i : ℕ) → i * size < length ss → i * size ≤ length ss = λ i lt. omega (arith, lt) in
    let started = λ (i : ℕ) (lt : i < 0 + count). below i (begins i count (length ss) size (omega (arith, lt)) all.1) in (
      record {
        begin = 0;
        columns = nothing-yet m.fields 0 (length ss) c.new-makings.result (λ w. search rules);
        rest = subst (ArePieces m size (length ss) ss 0) (sym gives.0)
            (subst (λ (b : ℕ). ArePieces m size (length ss) ss b pieces.items) (zero-mul size) (in_turn m size (length ss) ss 0 count pieces.items ended started each));
      },
      gives.1 ∙ pieces.ok.0 ∙ sym (ap length gives.0),
    )

pub join-requires-clause-long : goal.join-requires-clause-long
join-requires-clause-long g c = long-so_far c.args.mapping.now c.piece_size-size.result (length c.args.sources.now) c.args.sources.now c.loop-piece.makings c.loop-piece.piece-iterator.rest.items c.loop-piece.invariant.0

pub join-requires-clause-later : goal.join-requires-clause-later
join-requires-clause-later g c =
    let m = c.args.mapping.now in
    let ss = c.args.sources.now in
    let left = c.next.new.self.rest.items in
    long-piece m c.piece_size-size.result (length ss) ss c.loop-piece.makings c.in_ok-piece.field-0 left
    (subst (IsSoFar m c.piece_size-size.result (length ss) ss c.loop-piece.makings) (c.in-Some.ensures.steps.0 ∙ ap (λ (r : Result Makings AllocError). r ∷ left) c.in_ok-piece.was) c.loop-piece.invariant.0)

-- one piece more
pub loop-piece-preserved : goal.loop-piece-preserved
loop-piece-preserved g c =
    let m = c.args.mapping.now in
    let ss = c.args.sources.now in
    let left = c.next.new.self.rest.items in
    let steps = c.in-Some.ensures.steps in (
      piece-more m c.piece_size-size.result (length ss) ss c.loop-piece.makings c.in_ok-piece.field-0 c.join.new.makings left
          (subst (IsSoFar m c.piece_size-size.result (length ss) ss c.loop-piece.makings) (steps.0 ∙ ap (λ (r : Result Makings AllocError). r ∷ left) c.in_ok-piece.was) c.loop-piece.invariant.0) c.in_ok-join.ensures,
      omega (arith, steps.1, c.loop-piece.invariant.1, ap length steps.0),
    )

pub finish_halves-requires : goal.finish_halves-requires
finish_halves-requires g c =
    let m = c.args.mapping.now in
    let ss = c.args.sources.now in
    let left = c.loop-piece.piece-iterator.rest.items in
    let none : left ≡ [] = nil_from_length left (omega (arith, c.loop-piece.invariant.1, c.in-None.ensures.steps.0)) in (
      search (rules, sendable) depth 20,
      makings-few m.fields (map (all_values m) ss) (length ss) c.loop-piece.makings (sym (length-map ss (all_values m)))
          (all-pieces m c.piece_size-size.result (length ss) ss c.loop-piece.makings (subst (IsSoFar m c.piece_size-size.result (length ss) ss c.loop-piece.makings) none c.loop-piece.invariant.0)),
    )

-- all documents
pub returns : goal.returns
returns g c =
    let m = c.args.mapping.now in
    let ss = c.args.sources.now in
    let left = c.loop-piece.piece-iterator.rest.items in
    let none : left ≡ [] = nil_from_length left (omega (arith, c.loop-piece.invariant.1, c.in-None.ensures.steps.0)) in
    IfOk-weaker c.finish_halves.result (AreFinished (length ss) c.loop-piece.makings) _
    (λ columns made. makings-finished m.fields (map (all_values m) ss) (length ss) c.loop-piece.makings columns (sym (length-map ss (all_values m)))
    (all-pieces m c.piece_size-size.result (length ss) ss c.loop-piece.makings (subst (IsSoFar m c.piece_size-size.result (length ss) ss c.loop-piece.makings) none c.loop-piece.invariant.0)) made) c.finish_halves.ensures
