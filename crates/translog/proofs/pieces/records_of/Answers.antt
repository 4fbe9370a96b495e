use Rattle.std.proofs.Common.{◌≡◌, ◌++◌, ℕ, List, [], Bor, get_or, map, ap, refl, sym, subst, ◌∙◌, arith}
use Rattle.std.proofs.lemmas.List.{get_or_default}
use Rattle.std.proofs.lemmas.Result.{err_from_is_err_and}
use Rattle.std.proofs.lemmas.List.{drop_all}
use Rattle.translog.specs.Fault.{fault_of}
use Rattle.translog.specs.Pieces.{piece_records, ArePieces}
use Rattle.translog.proofs.RecordsLaws.{with_front, drop_next, take_next, small_at, room_left, next_offset}
use Rattle.translog.proofs.PieceReading.{goes_on, ends, is_done, pieces_more}
use Rattle.translog.proofs.pieces.records_of.Goals as goal

pub returns-in_err-may_group-clause-found : goal.returns-in_err-may_group-clause-found
returns-in_err-may_group-clause-found c =
    let none : Bor (List ℕ) = record { ref_ptr = (0, 0); now = [] } in
    let item : Bor (List ℕ) = get_or c.args.contents.now c.loop-content.content-index none in
    let there : item ≡ get_or c.args.contents.now c.loop-content.content-index item = get_or_default c.args.contents.now c.loop-content.content-index none item c.loop-content-test.true in
    let p = err_from_is_err_and c.from_residual.result c.from_residual.ensures.1 in
    let next = drop_next (λ v. v.now) c.args.contents.now c.loop-content.content-index item c.loop-content-test.true there in
    let so_far = ap (λ l. with_front c.loop-content.records.items (piece_records c.loop-content.may_group c.loop-content.offset l)) (sym next) ∙ c.loop-content.invariant.found in
    rw (p.1, p.2) (ends fault_of c.in_err-may_group.field-0.0 c.loop-content.records.items c.loop-content.may_group c.loop-content.offset item.now _ _ (c.in_err-may_group.ensures.refused) so_far)

pub overflow_add-offset-in-loop-content : goal.overflow_add-offset-in-loop-content
overflow_add-offset-in-loop-content c =
    let none : Bor (List ℕ) = record { ref_ptr = (0, 0); now = [] } in
    let item : Bor (List ℕ) = get_or c.args.contents.now c.loop-content.content-index none in
    let there : item ≡ get_or c.args.contents.now c.loop-content.content-index item = get_or_default c.args.contents.now c.loop-content.content-index none item c.loop-content-test.true in
    omega (arith, c.requires.offsets, c.loop-content.invariant.at, room_left (λ v. v.now) c.args.contents.now c.loop-content.content-index item c.loop-content-test.true there)

pub loop-content-preserved : goal.loop-content-preserved
loop-content-preserved c =
    let none : Bor (List ℕ) = record { ref_ptr = (0, 0); now = [] } in
    let item : Bor (List ℕ) = get_or c.args.contents.now c.loop-content.content-index none in
    let there : item ≡ get_or c.args.contents.now c.loop-content.content-index item = get_or_default c.args.contents.now c.loop-content.content-index none item c.loop-content-test.true in
    let next = drop_next (λ v. v.now) c.args.contents.now c.loop-content.content-index item c.loop-content-test.true there in
    let so_far = ap (λ l. with_front c.loop-content.records.items (piece_records c.loop-content.may_group c.loop-content.offset l)) (sym next) ∙ c.loop-content.invariant.found in
    let more = take_next (λ v. v.now) c.args.contents.now c.loop-content.content-index item c.loop-content-test.true there in
    let far = next_offset (λ v. v.now) c.args.contents.now c.loop-content.content-index item c.loop-content-test.true there in
    let small = small_at (λ v. v.now) c.args.contents.now c.loop-content.content-index item c.loop-content-test.true there c.requires.small in
    let is = c.in_ok-may_group.ensures.found in
    rw is.added record {
      found = goes_on c.loop-content.records.items c.loop-content.may_group c.loop-content.offset _ item.now _ is.records c.in_ok-may_group.may_group _ is.piece refl so_far;
      pieces = subst (λ l. ArePieces c.args.groups l (c.loop-content.records.items ++ is.records) c.in_ok-may_group.may_group) (sym more) (pieces_more c.args.groups c.loop-content.may_group _ item.now c.loop-content.records.items is.records c.in_ok-may_group.may_group c.loop-content.invariant.pieces is.piece small);
      at = omega (arith, far, c.loop-content.invariant.at);
    }

pub returns-clause-found : goal.returns-clause-found
returns-clause-found c =
    let none = drop_all c.loop-content.content-index c.args.contents.now c.loop-content-test.false in
    is_done c.loop-content.records.items c.loop-content.may_group c.loop-content.offset _ (ap (λ l. with_front c.loop-content.records.items (piece_records c.loop-content.may_group c.loop-content.offset (map (λ v. v.now) l))) (sym none) ∙ c.loop-content.invariant.found)
