use Rattle.std.proofs.Common.{◌∙◌, ap, rules, SFits, w64}
use Rattle.std.proofs.lemmas.Int.{to_z-of_z}
use Rattle.op.specs.Checkpoint.{known}
use Rattle.op.specs.Operations.{local_count}
use Rattle.op.proofs.CheckpointLaws.{known-checkpoint_of}
use Rattle.replica.specs.Copy.{Copy, operations}
use Rattle.replica.specs.Searched.{Searched}
use Rattle.replica.proofs.state.State.local_count.Goals as goal

pub returns-clause-count : goal.returns-clause-count
returns-clause-count c =
    let fits : SFits w64 c.local.result = search rules in
    let count = simp to_z-of_z at c.count.ensures.counted in
    count ∙ ap known c.local.ensures.number ∙ known-checkpoint_of _ ∙ ap (λ (x : Copy). local_count (operations x)) (ap (λ (v : Searched). v.copy) c.self.view_is)
