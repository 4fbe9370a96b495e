use Rattle.std.proofs.Common.{◌≡◌, ◌∷◌, List, sym, refl, subst, String, Box, Global, Option, option_map, string_bytes}
use Rattle.std.specs.Prelude.{IfSome}
use Rattle.std.specs.List.{IsDistinct}
use Rattle.std.specs.Map.{keys_of}
use Rattle.std.specs.Ordering.{eq_by_cmp}
use Rattle.std.specs.String.{string_cmp}
use Rattle.std.proofs.lemmas.Map.Keys.{IsDistinct-from_sorted, IsDistinct-tail}
use Rattle.segment.specs.Added.{making_at}
use Rattle.segment.specs.WovenColumns.{IsCovered}
use Rattle.segment.specs.declared.column.Column.{Column}
use Rattle.segment.proofs.TurnLaws.{is_at_text, all-turned, found, no-turn, one-turn, text-apart, text-here, text-once, text_same, AreTurns}
use Rattle.segment.proofs.WeavingLaws.{field-woven, IsWovenIn}
use Rattle.segment.proofs.weaving.weave_columns.Goals as goal

-- no field's turn was
pub loop-name-init : goal.loop-name-init
loop-name-init c =
    let gives = c.into_iter-name-iterator.ensures.into_iter_gives in
    let es = c.args.columns.now.entries in
    let old = making_at c.args.makings.now in
    let rel = IsWovenIn c.args.len c.args.to.now in
    record {
      once = subst (λ (xs : List (String Global × Box Column Global)). IsDistinct (eq_by_cmp string_cmp) (keys_of xs)) (sym gives.0) (IsDistinct-from_sorted string_cmp (keys_of es) gives.5);
      turns = subst (λ (xs : List (String Global × Box Column Global)). AreTurns is_at_text rel es old xs old) (sym gives.0) (no-turn is_at_text rel es old old (λ w. refl));
      long = c.requires.long;
    }

-- its documents are given places
pub weave_one-requires-clause-covered : goal.weave_one-requires-clause-covered
weave_one-requires-clause-covered c =
    let rest = c.next.new.self in
    let k = c.in-Some.name.now in
    let entry : String Global × Box Column Global = (k, c.in-Some.column.now) in
    let step : c.loop-name.name-iterator ≡ entry ∷ rest = c.in-Some.ensures.steps in
    let es = c.args.columns.now.entries in
    let old = making_at c.args.makings.now in
    let now = making_at c.loop-name.makings in
    let rel = IsWovenIn c.args.len c.args.to.now in
    let turns : AreTurns is_at_text rel es old (entry ∷ rest) now = subst (λ (xs : List (String Global × Box Column Global)). AreTurns is_at_text rel es old xs now) step c.loop-name.invariant.turns in
    let there = found is_at_text rel es old entry rest now turns (string_bytes k) (text-here k) in
    subst (IsCovered c.args.to.now) (sym c.as_ref.ensures)
    (subst (λ (o : Option (Box Column Global)). IfSome (option_map (λ b. b.value) o) (IsCovered c.args.to.now)) there (c.requires.covered (string_bytes k)))

-- one field's turn
pub loop-name-preserved : goal.loop-name-preserved
loop-name-preserved c =
    let rest = c.next.new.self in
    let k = c.in-Some.name.now in
    let b = c.in-Some.column.now in
    let entry : String Global × Box Column Global = (k, b) in
    let step : c.loop-name.name-iterator ≡ entry ∷ rest = c.in-Some.ensures.steps in
    let es = c.args.columns.now.entries in
    let old = making_at c.args.makings.now in
    let now = making_at c.loop-name.makings in
    let now' = making_at c.weave_one.new.makings in
    let rel = IsWovenIn c.args.len c.args.to.now in
    let once : IsDistinct (eq_by_cmp string_cmp) (keys_of (entry ∷ rest)) = subst (λ (xs : List (String Global × Box Column Global)). IsDistinct (eq_by_cmp string_cmp) (keys_of xs)) step c.loop-name.invariant.once in
    let turns : AreTurns is_at_text rel es old (entry ∷ rest) now = subst (λ (xs : List (String Global × Box Column Global)). AreTurns is_at_text rel es old xs now) step c.loop-name.invariant.turns in
    record {
      once = IsDistinct-tail (eq_by_cmp string_cmp) k (keys_of rest) once;
      turns = one-turn is_at_text rel es old entry rest now now' (text-once entry rest once)
          (λ w is. field-woven c.args.len c.args.to.now b c.as_ref.result.now now now' (string_bytes k) c.as_str.result.now c.as_str.ensures.value c.as_ref.ensures c.in_ok-weave_one.ensures.here w (text_same entry rest w is))
          (λ w apart. c.in_ok-weave_one.ensures.others w (text-apart k c.as_str.result.now w c.as_str.ensures.value apart)) turns;
      long = c.in_ok-weave_one.ensures.long;
    }

-- all had theirs
pub returns : goal.returns
returns c =
    let es = c.args.columns.now.entries in
    let old = making_at c.args.makings.now in
    let now = making_at c.loop-name.makings in
    let rel = IsWovenIn c.args.len c.args.to.now in
    all-turned is_at_text rel es old now (λ o n same. same) (subst (λ (xs : List (String Global × Box Column Global)). AreTurns is_at_text rel es old xs now) c.in-None.ensures.steps.0 c.loop-name.invariant.turns)
