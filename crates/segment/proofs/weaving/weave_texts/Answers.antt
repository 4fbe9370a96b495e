use Rattle.std.proofs.Common.{◌≡◌, ◌<◌, ◌∙◌, ◌∷◌, [], List, ℕ, All, ap, sym, refl, subst, length, String, Global, string_bytes}
use Rattle.std.specs.List.{IsDistinct}
use Rattle.std.specs.Map.{keys_of}
use Rattle.std.specs.Option.{option_map_or}
use Rattle.std.specs.Ordering.{eq_by_cmp}
use Rattle.std.specs.String.{string_cmp}
use Rattle.std.proofs.lemmas.Map.Keys.{IsDistinct-from_sorted, IsDistinct-tail}
use Rattle.segment.specs.Places.{as_list}
use Rattle.segment.specs.Posted.{places_so_far}
use Rattle.segment.specs.Woven.{moved_by}
use Rattle.segment.specs.declared.places.Places.{Places}
use Rattle.segment.proofs.TurnLaws.{is_at_text, all-turned, found, no-turn, one-turn, text-apart, text-here, text-once, text_same, AreTurns}
use Rattle.segment.proofs.WeavingLaws.{merged-here, none-merged, IsMerged}
use Rattle.segment.proofs.weaving.weave_texts.Goals as goal

-- no text's turn was
pub loop-word-init : goal.loop-word-init
loop-word-init c =
    let gives = c.into_iter-word-iterator.ensures.into_iter_gives in
    let es = c.args.words.now.entries in
    let old = places_so_far c.args.texts.now in
    let rel = IsMerged c.args.to.now in
    record {
      once = subst (λ (xs : List (String Global × Places)). IsDistinct (eq_by_cmp string_cmp) (keys_of xs)) (sym gives.0) (IsDistinct-from_sorted string_cmp (keys_of es) gives.5);
      turns = subst (λ (xs : List (String Global × Places)). AreTurns is_at_text rel es old xs old) (sym gives.0) (no-turn is_at_text rel es old old (λ w. refl));
    }

-- the places are those of documents
pub moved-requires : goal.moved-requires
moved-requires c =
    let rest = c.next.new.self in
    let k = c.in-Some.word.now in
    let entry : String Global × Places = (k, c.in-Some.places.now) in
    let step : c.loop-word.word-iterator ≡ entry ∷ rest = c.in-Some.ensures.steps in
    let es = c.args.words.now.entries in
    let old = places_so_far c.args.texts.now in
    let now = places_so_far c.loop-word.texts in
    let rel = IsMerged c.args.to.now in
    let turns : AreTurns is_at_text rel es old (entry ∷ rest) now = subst (λ (xs : List (String Global × Places)). AreTurns is_at_text rel es old xs now) step c.loop-word.invariant.turns in
    let there = found is_at_text rel es old entry rest now turns (string_bytes k) (text-here k) in
    subst (λ (ps : List ℕ). All (λ p. p < length c.args.to.now) ps) (ap (λ o. option_map_or as_list o []) there ∙ sym c.as_slice.ensures) (c.requires (string_bytes k))

-- one text's turn
pub loop-word-preserved : goal.loop-word-preserved
loop-word-preserved c =
    let rest = c.next.new.self in
    let k = c.in-Some.word.now in
    let ps = c.in-Some.places.now in
    let entry : String Global × Places = (k, ps) in
    let step : c.loop-word.word-iterator ≡ entry ∷ rest = c.in-Some.ensures.steps in
    let es = c.args.words.now.entries in
    let to = c.args.to.now in
    let old = places_so_far c.args.texts.now in
    let now = places_so_far c.loop-word.texts in
    let now' = places_so_far c.merge.new.self in
    let rel = IsMerged to in
    let once : IsDistinct (eq_by_cmp string_cmp) (keys_of (entry ∷ rest)) = subst (λ (xs : List (String Global × Places)). IsDistinct (eq_by_cmp string_cmp) (keys_of xs)) step c.loop-word.invariant.once in
    let turns : AreTurns is_at_text rel es old (entry ∷ rest) now = subst (λ (xs : List (String Global × Places)). AreTurns is_at_text rel es old xs now) step c.loop-word.invariant.turns in
    let come : c.deref.result.now ≡ moved_by to (as_list ps) = c.deref.ensures.value ∙ c.in_ok-places.ensures ∙ ap (moved_by to) c.as_slice.ensures in
    record {
      once = IsDistinct-tail (eq_by_cmp string_cmp) k (keys_of rest) once;
      turns = one-turn is_at_text rel es old entry rest now now' (text-once entry rest once)
          (λ w is. merged-here to ps now now' (string_bytes k) c.as_str.result.now c.deref.result.now c.as_str.ensures.value come c.in_ok-merge.ensures.here w (text_same entry rest w is))
          (λ w apart. c.in_ok-merge.ensures.others w (text-apart k c.as_str.result.now w c.as_str.ensures.value apart)) turns;
    }

-- all had theirs
pub returns : goal.returns
returns c =
    let es = c.args.words.now.entries in
    let old = places_so_far c.args.texts.now in
    let now = places_so_far c.loop-word.texts in
    let rel = IsMerged c.args.to.now in
    all-turned is_at_text rel es old now (none-merged c.args.to.now) (subst (λ (xs : List (String Global × Places)). AreTurns is_at_text rel es old xs now) c.in-None.ensures.steps.0 c.loop-word.invariant.turns)
