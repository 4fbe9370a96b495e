use Rattle.std.proofs.Common.{◌≡◌, ◌∷◌, ◌++◌, [], ◌||◌, ap, sym, ◌∙◌}
use Rattle.std.proofs.lemmas.List.{map_push}
use Rattle.doc.specs.Scalar.{is_scalar}
use Rattle.doc.specs.ScalarView.{scalar_view, scalars_view}
use Rattle.query.specs.Distinct.{distinct}
use Rattle.query.specs.SeenView.{has_seen}
use Rattle.query.proofs.Values.{has_more, new_turn}
use Rattle.query.proofs.seen.distinct.Goals as goal

-- a value that is new
pub loop-value-preserved-in-Continue-branch-2 : goal.loop-value-preserved-in-Continue-branch-2
loop-value-preserved-in-Continue-branch-2 c =
    let found = c.loop-value.found.items in
    let value = scalar_view c.in-Some.value in
    let e : scalars_view c.push.new.self.items ≡ scalars_view found ++ value ∷ [] = rw c.in_ok-push.ensures.items (map_push scalar_view found c.in-Some.value) in
    let rest = c.next.new.self.rest.items in
    let step : scalars_view c.loop-value.value-iterator.rest.items ≡ value ∷ scalars_view rest = ap scalars_view c.in-Some.ensures.steps.0 in (
      (λ v. c.in_ok-add.ensures.seen v ∙ ap (λ b. is_scalar value v || b) (c.loop-value.invariant.0 v) ∙ sym (rw e (has_more (scalars_view found) value v))),
      rw e (new_turn (has_seen c.loop-value.seen) (scalars_view found) value (scalars_view rest) (distinct (scalars_view c.args.values.items)) c.loop-value.invariant.0
          (sym c.if-branch.true ∙ c.in_ok-add.ensures.new) (rw step at c.loop-value.invariant.1)),
    )
