use Rattle.std.proofs.Common.{◌≡◌, [], true, false, refl, sym, subst}
use Rattle.std.specs.Arc.{arc_value}
use Rattle.engine.specs.Changes.{ChangesData}
use Rattle.engine.specs.Contents.{EngineData, Shows}
use Rattle.engine.specs.Published.{AreGone}
use Rattle.engine.proofs.BegunLaws.{known-after}
use Rattle.engine.proofs.engine.Engine.swap_merged.Goals as goal

-- a segment that was taken is there
pub returns-in-Some-clause-answer : goal.returns-in-Some-clause-answer
returns-in-Some-clause-answer c =
    let there = rw c.in-Some.is at c.in_ok-after.ensures.there in
    (λ t. subst (λ (e : EngineData). AreGone e.published c.args.merged.taken → c.args.merged.taken ≡ []) c.self.view_is there, λ some. refl)

-- none is
pub returns-in-None-clause-answer : goal.returns-in-None-clause-answer
returns-in-None-clause-answer c =
    (λ f. absurd (no f), λ some. absurd (c.in_ok-after.ensures.gone c.in-None.is (subst (λ (e : EngineData). AreGone e.published c.args.merged.taken → c.args.merged.taken ≡ []) (sym c.self.view_is) some)))
  where
    no : false ≡ true → ⊥
    no f = cc

-- what a refresh was begun with is told by its numbers still
pub invariant_of-self : goal.invariant_of-self
invariant_of-self c =
    let inside = c.self.inside in
    let after = c.in-Some.after in
    let made = c.in_ok-after.ensures in (
      subst (Shows (arc_value inside.mapping) inside.history.records inside.point) (sym (rw c.in-Some.is at made.snapshot)) c.self.invariant.0,
      c.self.invariant.1,
      c.self.invariant.2,
      tt,
      known-after (λ (x : ChangesData). x.published) inside.pending c.args.merged.taken inside.showing after (rw c.in-Some.is at made.rises) (λ none. rw c.in-Some.is at (made.none none)) (rw c.in-Some.is at made.swapped) c.self.invariant.4,
    )
