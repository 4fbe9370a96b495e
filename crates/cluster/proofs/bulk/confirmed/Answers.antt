use Rattle.std.proofs.Common.{true, refl}
use Rattle.std.specs.Prelude.{IsTrue}
use Rattle.std.proofs.lemmas.Result.{IfErr-weaker}
use Rattle.cluster.proofs.Confirming.{refused_bulk_end}
use Rattle.cluster.proofs.bulk.confirmed.Goals as goal

pub returns-in-Some-true-clause-refused : goal.returns-in-Some-true-clause-refused
returns-in-Some-true-clause-refused g c =
    let yes : IsTrue true = refl in
    let asked = c.if-not-is_of_bulk.ensures.is.0 yes in
    let kept = c.in-Some-true.ensures c.in-Some-true.field-0-test in
    IfErr-weaker c.ended.result _ _ (λ f end. refused_bulk_end c.args.writes.now c.in_ok-receipt.receipt f asked.input_is c.if-not-is_of_bulk.ensures.stands kept end) c.ended.ensures.lost
