use Rattle.std.proofs.Common.{◌∙◌, ap, rules, SFits, w64}
use Rattle.std.proofs.lemmas.Int.{to_z-of_z}
use Rattle.op.specs.Checkpoint.{known}
use Rattle.op.specs.Operations.{next_seq}
use Rattle.replica.specs.Copy.{Copy, operations}
use Rattle.replica.proofs.WriteLaws.{known-checkpoint}
use Rattle.replica.specs.Searched.{Searched}
use Rattle.replica.proofs.state.State.next_seq.Goals as goal

pub returns-clause-next : goal.returns-clause-next
returns-clause-next c =
    let fits : SFits w64 c.greatest.result = search rules in
    let count = simp to_z-of_z at c.count.ensures.counted in
    count ∙ ap known c.greatest.ensures.number ∙ known-checkpoint _ ∙ ap (λ (x : Copy). next_seq (operations x)) (ap (λ (v : Searched). v.copy) c.self.view_is)
