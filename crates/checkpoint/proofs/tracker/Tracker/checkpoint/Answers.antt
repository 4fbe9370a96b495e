use Rattle.std.proofs.Common.{◌∙◌, ap, arith}
use Rattle.std.proofs.lemmas.Int.{to_z-of_z}
use Rattle.op.specs.Checkpoint.{checkpoint_of}
use Rattle.checkpoint.proofs.tracker.Tracker.checkpoint.Goals as goal

pub returns : goal.returns
returns c = grind (arith, to_z-of_z) ∙ c.from_count.ensures ∙ ap checkpoint_of c.count.ensures.count
