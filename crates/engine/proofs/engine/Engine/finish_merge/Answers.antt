use Rattle.std.proofs.Common.{sym, subst}
use Rattle.std.specs.Arc.{arc_value}
use Rattle.engine.specs.Changes.{ChangesData}
use Rattle.engine.specs.Contents.{segments_shown, Shows}
use Rattle.engine.specs.Published.{HasMerged}
use Rattle.engine.proofs.BegunLaws.{known-swapped}
use Rattle.engine.proofs.engine.Engine.finish_merge.Goals as goal

-- what a refresh was begun with is told by its numbers still
pub invariant_of-self-in-Some-2 : goal.invariant_of-self-in-Some-2
invariant_of-self-in-Some-2 c =
    let inside = c.self.inside in
    let after = c.in-Some-2.after in
    let made = c.in_ok-after.ensures in
    let merged : HasMerged (segments_shown inside.showing) (segments_shown after) = rw c.in-Some-2.is at made.merged in (
      subst (Shows (arc_value inside.mapping) inside.history.records inside.point) (sym (rw c.in-Some-2.is at made.snapshot)) c.self.invariant.0,
      c.self.invariant.1,
      c.self.invariant.2,
      rw c.take.ensures.after tt,
      known-swapped (λ (x : ChangesData). x.published) inside.pending merged.taken inside.showing after (rw c.in-Some-2.is at made.rises) merged.swapped c.self.invariant.4,
    )
