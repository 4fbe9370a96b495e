use Rattle.std.proofs.Common.{◌≡◌, ◌<◌, ◌+◌, ◌-◌, ℕ, sym, ap, ◌∙◌, arith}
use Rattle.std.specs.Prelude.{IsOk, OnOk, Result, Ok, Err}
use Rattle.std.proofs.lemmas.Int.{to_z-of_z}
use Rattle.op.specs.Ids.{with}
use Rattle.op.proofs.CheckpointLaws.{known-checkpoint_of}
use Rattle.checkpoint.specs.Numbers.{run, with_below, marked}
use Rattle.checkpoint.proofs.Sets.{run-with_below, marked-some}
use Rattle.checkpoint.proofs.tracker.Tracker.acknowledge.Goals as goal

marks : {A B P : Type 0} (r : Result A B) → IsOk r → OnOk r P → P
marks (Ok x) ok p = p
marks (Err e) ok p = absurd cc

pub returns-then-seq-gt0 : goal.returns-then-seq-gt0
returns-then-seq-gt0 c =
    let below : c.mark_up_to.new.self ≡ with_below c.args.self.now c.args.below = grind (arith, to_z-of_z, c.from_count.ensures, known-checkpoint_of c.args.below, c.mark_up_to.ensures) in
    let near : c.args.seq - 1 < run c.mark_up_to.new.self + 1024 = omega (arith, ap run below, run-with_below c.args.self.now c.args.below, c.requires.near, c.if-seq-gt0.true) in
    marks c.mark.result (c.mark.ensures.window.1 near) c.mark.ensures.ok ∙ ap (λ ns. with ns (c.args.seq - 1)) below ∙ sym (marked-some c.args.self.now c.args.seq c.args.below c.if-seq-gt0.true)

pub returns-else-seq-gt0 : goal.returns-else-seq-gt0
returns-else-seq-gt0 c =
    let below : c.mark_up_to.new.self ≡ with_below c.args.self.now c.args.below = grind (arith, to_z-of_z, c.from_count.ensures, known-checkpoint_of c.args.below, c.mark_up_to.ensures) in
    let none : 0 ≡ c.args.seq = omega (arith, c.if-seq-gt0.false) in
    below ∙ ap (λ (seq : ℕ). marked c.args.self.now seq c.args.below) none
