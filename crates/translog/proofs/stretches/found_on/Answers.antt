use Rattle.std.proofs.Common.{◌≡◌, map}
use Rattle.std.proofs.lemmas.Result.{err_from_is_err_and}
use Rattle.translog.specs.Fault.{fault_of}
use Rattle.translog.specs.Kept.{kept}
use Rattle.translog.specs.Pieces.{piece_records}
use Rattle.translog.proofs.PieceReading.{fails_kept, found_kept}
use Rattle.translog.proofs.stretches.found_on.Goals as goal

pub returns-in_err-contents-clause-found : goal.returns-in_err-contents-clause-found
returns-in_err-contents-clause-found g c =
    let p = err_from_is_err_and c.from_residual.result c.from_residual.ensures.1 in
    rw (p.1, p.2) (fails_kept fault_of c.in_err-contents.field-0.0 c.header_of-header.result c.args.held.now c.header_of-header.ensures c.in_err-contents.ensures.found)

pub returns-in_err-records-clause-found : goal.returns-in_err-records-clause-found
returns-in_err-records-clause-found g c =
    let is : kept c.args.held.now ≡ piece_records c.has_groups.result 4 (map (λ v. v.now) c.in_ok-contents.contents.items) = found_kept c.header_of-header.result c.args.held.now _ c.has_groups.result c.header_of-header.ensures c.in_ok-contents.ensures.found c.has_groups.ensures in
    let p = err_from_is_err_and c.from_residual-in_err-records.result c.from_residual-in_err-records.ensures.1 in
    rw (p.1, p.2) (rw (is, ← c.as_slice.ensures.value) c.in_err-records.ensures.found)

pub returns-clause-found : goal.returns-clause-found
returns-clause-found g c =
    let is : kept c.args.held.now ≡ piece_records c.has_groups.result 4 (map (λ v. v.now) c.in_ok-contents.contents.items) = found_kept c.header_of-header.result c.args.held.now _ c.has_groups.result c.header_of-header.ensures c.in_ok-contents.ensures.found c.has_groups.ensures in
    rw (is, ← c.as_slice.ensures.value) c.in_ok-records.ensures.found
