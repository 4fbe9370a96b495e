use Rattle.std.proofs.lemmas.Result.{IfErr-weaker}
use Rattle.std.proofs.Common.{true, refl}
use Rattle.std.specs.Prelude.{IsTrue}
use Rattle.cluster.proofs.Confirming.{refused_end}
use Rattle.cluster.proofs.client.confirmed.Goals as goal

pub returns-in-Ok-clause-refused : goal.returns-in-Ok-clause-refused
returns-in-Ok-clause-refused g c =
    let yes : IsTrue true = refl in
    let asked = c.if-not-is_of_write.ensures.is.0 yes in
    IfErr-weaker c.ended.result _ _ (λ f end. refused_end c.args.write.now c.in_ok-receipt.receipt c.in-Some.written f asked.input_is c.if-not-is_of_write.ensures.stands c.in-Some.ensures end) c.ended.ensures.lost
