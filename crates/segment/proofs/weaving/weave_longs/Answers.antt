use Rattle.std.proofs.Common.{◌≡◌, ◌<◌, ◌∙◌, ◌∷◌, [], List, ℕ, ℤ, All, ap, sym, refl, subst, length, int_eq, int_cmp, w64, SFits, rules}
use Rattle.std.specs.List.{IsDistinct}
use Rattle.std.specs.Map.{keys_of}
use Rattle.std.specs.Option.{option_map_or}
use Rattle.std.specs.Ordering.{eq_by_cmp}
use Rattle.std.proofs.lemmas.Int.{to_z-of_z}
use Rattle.std.proofs.lemmas.Map.Keys.{IsDistinct-from_sorted, IsDistinct-tail}
use Rattle.segment.specs.Places.{as_list}
use Rattle.segment.specs.Posted.{places_so_far_long}
use Rattle.segment.specs.Woven.{moved_by}
use Rattle.segment.specs.declared.places.Places.{Places}
use Rattle.segment.proofs.TurnLaws.{all-turned, found, no-turn, number-apart, number-here, number-once, number_same, one-turn, AreTurns}
use Rattle.segment.proofs.WeavingLaws.{merged-here, none-merged, IsMerged}
use Rattle.segment.proofs.weaving.weave_longs.Goals as goal

-- no number's turn was
pub loop-number-init : goal.loop-number-init
loop-number-init c =
    let gives = c.into_iter-number-iterator.ensures.into_iter_gives in
    let es = c.args.numbers.now.entries in
    let old = places_so_far_long c.args.longs.now in
    let rel = IsMerged c.args.to.now in
    record {
      once = subst (λ (xs : List (ℤ × Places)). IsDistinct (eq_by_cmp int_cmp) (keys_of xs)) (sym gives.0) (IsDistinct-from_sorted int_cmp (keys_of es) gives.5);
      turns = subst (λ (xs : List (ℤ × Places)). AreTurns int_eq rel es old xs old) (sym gives.0) (no-turn int_eq rel es old old (λ z. refl));
    }

-- the places are those of documents
pub moved-requires : goal.moved-requires
moved-requires c =
    let rest = c.next.new.self in
    let k = c.in-Some.number.now in
    let entry : ℤ × Places = (k, c.in-Some.places.now) in
    let step : c.loop-number.number-iterator ≡ entry ∷ rest = c.in-Some.ensures.steps in
    let es = c.args.numbers.now.entries in
    let old = places_so_far_long c.args.longs.now in
    let now = places_so_far_long c.loop-number.longs in
    let rel = IsMerged c.args.to.now in
    let turns : AreTurns int_eq rel es old (entry ∷ rest) now = subst (λ (xs : List (ℤ × Places)). AreTurns int_eq rel es old xs now) step c.loop-number.invariant.turns in
    let there = found int_eq rel es old entry rest now turns k (number-here k) in
    subst (λ (ps : List ℕ). All (λ p. p < length c.args.to.now) ps) (ap (λ o. option_map_or as_list o []) there ∙ sym c.as_slice.ensures) (c.requires k)

-- one number's turn
pub loop-number-preserved : goal.loop-number-preserved
loop-number-preserved c =
    let rest = c.next.new.self in
    let k = c.in-Some.number.now in
    let fits : SFits w64 k = search rules in
    let ps = c.in-Some.places.now in
    let entry : ℤ × Places = (k, ps) in
    let step : c.loop-number.number-iterator ≡ entry ∷ rest = c.in-Some.ensures.steps in
    let es = c.args.numbers.now.entries in
    let to = c.args.to.now in
    let old = places_so_far_long c.args.longs.now in
    let now = places_so_far_long c.loop-number.longs in
    let now' = places_so_far_long c.merge.new.self in
    let rel = IsMerged to in
    let once : IsDistinct (eq_by_cmp int_cmp) (keys_of (entry ∷ rest)) = subst (λ (xs : List (ℤ × Places)). IsDistinct (eq_by_cmp int_cmp) (keys_of xs)) step c.loop-number.invariant.once in
    let turns : AreTurns int_eq rel es old (entry ∷ rest) now = subst (λ (xs : List (ℤ × Places)). AreTurns int_eq rel es old xs now) step c.loop-number.invariant.turns in
    let come : c.deref.result.now ≡ moved_by to (as_list ps) = c.deref.ensures.value ∙ c.in_ok-places.ensures ∙ ap (moved_by to) c.as_slice.ensures in
    record {
      once = IsDistinct-tail (eq_by_cmp int_cmp) k (keys_of rest) once;
      turns = one-turn int_eq rel es old entry rest now now' (number-once entry rest once)
          (λ z is. merged-here to ps now now' k _ c.deref.result.now (to_z-of_z w64 k fits) come c.in_ok-merge.ensures.here z (number_same entry rest z is))
          (λ z apart. c.in_ok-merge.ensures.others z (number-apart k _ z (to_z-of_z w64 k fits) apart)) turns;
    }

-- all had theirs
pub returns : goal.returns
returns c =
    let es = c.args.numbers.now.entries in
    let old = places_so_far_long c.args.longs.now in
    let now = places_so_far_long c.loop-number.longs in
    let rel = IsMerged c.args.to.now in
    all-turned int_eq rel es old now (none-merged c.args.to.now) (subst (λ (xs : List (ℤ × Places)). AreTurns int_eq rel es old xs now) c.in-None.ensures.steps.0 c.loop-number.invariant.turns)
