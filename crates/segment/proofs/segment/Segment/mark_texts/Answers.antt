use Rattle.std.proofs.Common.{append-nil, ◌≡◌, ◌<◌, if◌then◌else◌, ◌∙◌, ◌∷◌, [], ◌++◌, ◌&&◌, ap, sym, subst, All, filter, length, map, String, Global, string_bytes}
use Rattle.std.specs.BTreeMap.Range.{range_contains, IsEntryInRange}
use Rattle.std.specs.Map.Iter.{deref_pair}
use Rattle.std.specs.Option.{option_map_or}
use Rattle.std.specs.String.{string_cmp}
use Rattle.std.specs.Range.Bound.{bound_map}
use Rattle.std.proofs.lemmas.List.{map-append}
use Rattle.std.proofs.lemmas.Map.Iter.{rest_so_far}
use Rattle.doc.specs.Scalar.{text}
use Rattle.doc.specs.Document.{Values, all_values}
use Rattle.analysis.specs.Terms.{is_within}
use Rattle.analysis.specs.BoundsView.{bounds_view}
use Rattle.marks.specs.Lists.{places, marked}
use Rattle.segment.specs.Places.{as_list}
use Rattle.segment.specs.declared.places.Places.{Places}
use Rattle.segment.proofs.Listed.{middle}
use Rattle.segment.specs.Indexed.{has_term}
use Rattle.segment.proofs.Withins.{so_far, text_hit, none-so_far, more-so_far, whole-so_far, places-so_far, texts-end}
use Rattle.segment.proofs.segment.Segment.mark_texts.Goals as goal

-- nothing more is marked yet
pub loop-word-init : goal.loop-word-init
loop-word-init c = none-so_far c.args.self.now.mapping c.args.marks.now c.args.self.now.sources c.requires.whole (text_hit c.args.self.now.mapping c.args._name.now (is_within (bounds_view c.args.bounds.now)) {Y = Global})

-- the places are those of documents
pub mark_if-requires : goal.mark_if-requires
mark_if-requires c =
    let m = c.args.self.now.mapping in
    let docs = map (all_values m) c.args.self.now.sources in
    let seen = map deref_pair c.loop-word.yielded in
    let rest = c.next.new.self in
    let k = c.in-Some.word.now in
    let entry : String Global × Places = (k, c.in-Some.places.now) in
    let step : c.loop-word.word-iterator ≡ entry ∷ rest = c.in-Some.ensures.steps in
    let run_is : c.range-word-items.result ≡ seen ++ entry ∷ rest = sym c.into_iter-word-iterator.ensures.into_iter_gives ∙ rest_so_far deref_pair _ _ _ c.loop-word.yielded_by ∙ ap (λ xs. seen ++ xs) step in
    let here = IsEntryInRange string_cmp (bound_map (λ s. s.now) c.of_texts.result.0) (bound_map (λ s. s.now) c.of_texts.result.1) c.args.column.now.texts in
    let found : here entry = middle here seen rest entry (subst (λ xs. All here xs) run_is (c.range-word-items.ensures.in_range tt).0) in
    let test = λ (d : Values). has_term m.fields c.args._name.now (text (string_bytes k)) d in
    let items : c.as_slice.result.now ≡ places test docs = c.as_slice.ensures ∙ ap (λ o. option_map_or as_list o []) (sym found.1) ∙ c.requires.is.texts (string_bytes k) in
    subst (λ ms. All (λ p. p < length ms) c.as_slice.result.now) (sym c.loop-word.invariant)
    (places-so_far m c.args.marks.now c.args.self.now.sources c.requires.whole (text_hit m c.args._name.now (is_within (bounds_view c.args.bounds.now))) seen test c.as_slice.result.now items)

-- one more key
pub loop-word-preserved : goal.loop-word-preserved
loop-word-preserved c =
    let m = c.args.self.now.mapping in
    let sources = c.args.self.now.sources in
    let docs = map (all_values m) sources in
    let seen = map deref_pair c.loop-word.yielded in
    let rest = c.next.new.self in
    let k = c.in-Some.word.now in
    let entry : String Global × Places = (k, c.in-Some.places.now) in
    let step : c.loop-word.word-iterator ≡ entry ∷ rest = c.in-Some.ensures.steps in
    let run_is : c.range-word-items.result ≡ seen ++ entry ∷ rest = sym c.into_iter-word-iterator.ensures.into_iter_gives ∙ rest_so_far deref_pair _ _ _ c.loop-word.yielded_by ∙ ap (λ xs. seen ++ xs) step in
    let here = IsEntryInRange string_cmp (bound_map (λ s. s.now) c.of_texts.result.0) (bound_map (λ s. s.now) c.of_texts.result.1) c.args.column.now.texts in
    let found : here entry = middle here seen rest entry (subst (λ xs. All here xs) run_is (c.range-word-items.ensures.in_range tt).0) in
    let test = λ (d : Values). has_term m.fields c.args._name.now (text (string_bytes k)) d in
    let items : c.as_slice.result.now ≡ places test docs = c.as_slice.ensures ∙ ap (λ o. option_map_or as_list o []) (sym found.1) ∙ c.requires.is.texts (string_bytes k) in
    let more : map deref_pair (c.loop-word.yielded ++ (c.in-Some.word, c.in-Some.places) ∷ []) ≡ seen ++ entry ∷ [] = map-append deref_pair c.loop-word.yielded ((c.in-Some.word, c.in-Some.places) ∷ []) in
    let asked = is_within (bounds_view c.args.bounds.now) in
    let passes : c.is_within-passes.result ≡ asked (text (string_bytes k)) = c.is_within-passes.ensures ∙ ap (λ w. asked (text w)) c.as_str.ensures.value in
    let hits = text_hit m c.args._name.now asked in
    c.mark_if.ensures
    ∙ ap (λ ms. marked ms (if c.is_within-passes.result then c.as_slice.result.now else [])) c.loop-word.invariant
    ∙ more-so_far m c.args.marks.now sources c.requires.whole hits seen entry c.is_within-passes.result test c.as_slice.result.now items (λ s. ap (λ b. b && test (all_values m s)) passes)
    ∙ ap (so_far hits c.args.marks.now sources) (sym more)

-- no key is left
pub returns-clause-is : goal.returns-clause-is
returns-clause-is c =
    let m = c.args.self.now.mapping in
    let asked = is_within (bounds_view c.args.bounds.now) in
    let hits = text_hit m c.args._name.now asked in
    let run_is : c.range-word-items.result ≡ map deref_pair c.loop-word.yielded ++ c.loop-word.word-iterator = sym c.into_iter-word-iterator.ensures.into_iter_gives ∙ rest_so_far deref_pair _ _ _ c.loop-word.yielded_by in
    let q = λ (k : String Global). range_contains string_cmp (bound_map (λ s. s.now) c.of_texts.result.0) (bound_map (λ s. s.now) c.of_texts.result.1) k in
    let whole : map deref_pair c.loop-word.yielded ≡ filter (λ e. q e.0) c.args.column.now.texts.entries = sym (append-nil (map deref_pair c.loop-word.yielded)) ∙ ap (λ xs. map deref_pair c.loop-word.yielded ++ xs) (sym c.in-None.ensures.steps.0) ∙ sym run_is ∙ c.range-word-items.ensures.between tt in
    c.loop-word.invariant ∙ ap (so_far hits c.args.marks.now c.args.self.now.sources) whole
    ∙ texts-end m c.args.marks.now c.args.self.now.sources c.requires.whole c.args._name.now asked c.args.column.now.texts.entries q c.of_texts.ensures.wide c.requires.is.texts

pub returns-clause-whole : goal.returns-clause-whole
returns-clause-whole c =
    ap length c.loop-word.invariant ∙ whole-so_far c.args.self.now.mapping c.args.marks.now c.args.self.now.sources c.requires.whole (text_hit c.args.self.now.mapping c.args._name.now (is_within (bounds_view c.args.bounds.now)) {Y = Global}) (map deref_pair c.loop-word.yielded)
