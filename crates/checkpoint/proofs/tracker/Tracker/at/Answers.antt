use Rattle.std.proofs.Common.{◌≡◌, arith, ◌∙◌, ap}
use Rattle.std.proofs.lemmas.Int.{to_z-of_z}
use Rattle.op.specs.Checkpoint.{known}
use Rattle.checkpoint.specs.Numbers.{up_to}
use Rattle.checkpoint.proofs.Windows.{numbers-none, unset}
use Rattle.checkpoint.proofs.tracker.Tracker.at.Goals as goal

pub returns : goal.returns
returns c =
    let same : c.count.result ≡ known c.args.checkpoint = grind (arith, to_z-of_z, c.count.ensures.counted) in
    numbers-none c.count.result _ (λ k _ _. unset k) ∙ ap up_to same
