use Rattle.std.proofs.lemmas.Grind.{common_steps}
use Rattle.std.proofs.lemmas.Int.{to_z-of_z}
use Rattle.std.proofs.Common.{arith, append-nil, ◌≡◌, ◌<◌, if◌then◌else◌, ◌∙◌, ◌∷◌, [], ◌++◌, ◌&&◌, ap, sym, subst, All, filter, length, map, ℤ}
use Rattle.std.specs.BTreeMap.Range.{range_contains, IsEntryInRange}
use Rattle.std.specs.Map.Iter.{deref_pair}
use Rattle.std.specs.Option.{option_map_or}
use Rattle.std.specs.Ordering.{int_cmp}
use Rattle.std.proofs.lemmas.List.{map-append}
use Rattle.std.proofs.lemmas.Map.Iter.{rest_so_far}
use Rattle.doc.specs.Scalar.{long}
use Rattle.doc.specs.Document.{Values, all_values}
use Rattle.analysis.specs.Terms.{is_within}
use Rattle.analysis.specs.BoundsView.{bounds_view}
use Rattle.marks.specs.Lists.{places, marked}
use Rattle.segment.specs.Places.{as_list}
use Rattle.segment.specs.declared.places.Places.{Places}
use Rattle.segment.proofs.Listed.{middle}
use Rattle.segment.specs.Indexed.{has_term}
use Rattle.segment.proofs.Withins.{so_far, long_hit, none-so_far, more-so_far, whole-so_far, places-so_far, longs-end}
use Rattle.segment.proofs.segment.Segment.mark_lists.Goals as goal

-- nothing more is marked yet
pub loop-number-init : goal.loop-number-init
loop-number-init c = none-so_far c.args.self.now.mapping c.args.marks.now c.args.self.now.sources c.requires.whole (long_hit c.args.self.now.mapping c.args._name.now (is_within (bounds_view c.args.bounds.now)))

-- the places are those of documents
pub mark_if-requires : goal.mark_if-requires
mark_if-requires c =
    let m = c.args.self.now.mapping in
    let docs = map (all_values m) c.args.self.now.sources in
    let seen = map deref_pair c.loop-number.yielded in
    let rest = c.next.new.self in
    let k = c.in-Some.number.now in
    let entry : ℤ × Places = (k, c.in-Some.places.now) in
    let step : c.loop-number.number-iterator ≡ entry ∷ rest = c.in-Some.ensures.steps in
    let run_is : c.range-number-items.result ≡ seen ++ entry ∷ rest = sym c.into_iter-number-iterator.ensures.into_iter_gives ∙ rest_so_far deref_pair _ _ _ c.loop-number.yielded_by ∙ ap (λ xs. seen ++ xs) step in
    let here = IsEntryInRange int_cmp c.of_longs.result.0 c.of_longs.result.1 c.args.column.now.longs in
    let found : here entry = middle here seen rest entry (subst (λ xs. All here xs) run_is (c.range-number-items.ensures.in_range tt).0) in
    let test = λ (d : Values). has_term m.fields c.args._name.now (long (k)) d in
    let items : c.as_slice.result.now ≡ places test docs = c.as_slice.ensures ∙ ap (λ o. option_map_or as_list o []) (sym found.1) ∙ c.requires.is.longs (k) in
    subst (λ ms. All (λ p. p < length ms) c.as_slice.result.now) (sym c.loop-number.invariant)
    (places-so_far m c.args.marks.now c.args.self.now.sources c.requires.whole (long_hit m c.args._name.now (is_within (bounds_view c.args.bounds.now))) seen test c.as_slice.result.now items)

-- one more key
pub loop-number-preserved : goal.loop-number-preserved
loop-number-preserved c =
    let m = c.args.self.now.mapping in
    let sources = c.args.self.now.sources in
    let docs = map (all_values m) sources in
    let seen = map deref_pair c.loop-number.yielded in
    let rest = c.next.new.self in
    let k = c.in-Some.number.now in
    let entry : ℤ × Places = (k, c.in-Some.places.now) in
    let step : c.loop-number.number-iterator ≡ entry ∷ rest = c.in-Some.ensures.steps in
    let run_is : c.range-number-items.result ≡ seen ++ entry ∷ rest = sym c.into_iter-number-iterator.ensures.into_iter_gives ∙ rest_so_far deref_pair _ _ _ c.loop-number.yielded_by ∙ ap (λ xs. seen ++ xs) step in
    let here = IsEntryInRange int_cmp c.of_longs.result.0 c.of_longs.result.1 c.args.column.now.longs in
    let found : here entry = middle here seen rest entry (subst (λ xs. All here xs) run_is (c.range-number-items.ensures.in_range tt).0) in
    let test = λ (d : Values). has_term m.fields c.args._name.now (long (k)) d in
    let items : c.as_slice.result.now ≡ places test docs = c.as_slice.ensures ∙ ap (λ o. option_map_or as_list o []) (sym found.1) ∙ c.requires.is.longs (k) in
    let more : map deref_pair (c.loop-number.yielded ++ (c.in-Some.number, c.in-Some.places) ∷ []) ≡ seen ++ entry ∷ [] = map-append deref_pair c.loop-number.yielded ((c.in-Some.number, c.in-Some.places) ∷ []) in
    let asked = is_within (bounds_view c.args.bounds.now) in
    let passes : c.is_within-passes.result ≡ asked (long (k)) = grind (arith, common_steps, to_z-of_z, c.is_within-passes.ensures) in
    let hits = long_hit m c.args._name.now asked in
    c.mark_if.ensures
    ∙ ap (λ ms. marked ms (if c.is_within-passes.result then c.as_slice.result.now else [])) c.loop-number.invariant
    ∙ more-so_far m c.args.marks.now sources c.requires.whole hits seen entry c.is_within-passes.result test c.as_slice.result.now items (λ s. ap (λ b. b && test (all_values m s)) passes)
    ∙ ap (so_far hits c.args.marks.now sources) (sym more)

-- no key is left
pub returns-clause-is : goal.returns-clause-is
returns-clause-is c =
    let m = c.args.self.now.mapping in
    let asked = is_within (bounds_view c.args.bounds.now) in
    let hits = long_hit m c.args._name.now asked in
    let run_is : c.range-number-items.result ≡ map deref_pair c.loop-number.yielded ++ c.loop-number.number-iterator = sym c.into_iter-number-iterator.ensures.into_iter_gives ∙ rest_so_far deref_pair _ _ _ c.loop-number.yielded_by in
    let q = λ (k : ℤ). range_contains int_cmp c.of_longs.result.0 c.of_longs.result.1 k in
    let whole : map deref_pair c.loop-number.yielded ≡ filter (λ e. q e.0) c.args.column.now.longs.entries = sym (append-nil (map deref_pair c.loop-number.yielded)) ∙ ap (λ xs. map deref_pair c.loop-number.yielded ++ xs) (sym c.in-None.ensures.steps.0) ∙ sym run_is ∙ c.range-number-items.ensures.between tt in
    c.loop-number.invariant ∙ ap (so_far hits c.args.marks.now c.args.self.now.sources) whole
    ∙ longs-end m c.args.marks.now c.args.self.now.sources c.requires.whole c.args._name.now asked c.args.column.now.longs.entries q c.of_longs.ensures.wide c.requires.is.longs

pub returns-clause-whole : goal.returns-clause-whole
returns-clause-whole c =
    ap length c.loop-number.invariant ∙ whole-so_far c.args.self.now.mapping c.args.marks.now c.args.self.now.sources c.requires.whole (long_hit c.args.self.now.mapping c.args._name.now (is_within (bounds_view c.args.bounds.now))) (map deref_pair c.loop-number.yielded)
