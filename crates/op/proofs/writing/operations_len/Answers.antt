use Rattle.std.proofs.Common.{◌≤◌, ◌+◌, length, ap, arith}
use Rattle.std.proofs.lemmas.Result.{err_from_is_err_and}
use Rattle.std.proofs.lemmas.List.Folds.{length-flat_map-take}
use Rattle.std.specs.List.{flat_map}
use Rattle.op.specs.Format.{operation_bytes}
use Rattle.op.proofs.Lengths.{still_too_large}
use Rattle.op.proofs.writing.operations_len.Goals as goal

pub returns-in_err-len-clause-len : goal.returns-in_err-len-clause-len
returns-in_err-len-clause-len c =
    let p = err_from_is_err_and c.from_residual.result c.from_residual.ensures.1 in
    let fits : c.loop-op.len + length (operation_bytes c.op-item.result) ≤ length (flat_map operation_bytes c.args.operations.now) = omega (arith, length-flat_map-take operation_bytes c.args.operations.now c.loop-op.op-index c.op-item.result c.loop-op-test.true, ap (λ o. length (operation_bytes o)) c.op-item.is) in
    rw (p.1, p.2) (still_too_large c.in_err-len.field-0.0 _ (length (flat_map operation_bytes c.args.operations.now)) fits (rw c.operation_len.ensures.len at c.in_err-len.ensures.len))
