use Rattle.std.proofs.Common.{arith, refl, false, ◌≡◌, ◌∙◌, ◌∷◌, [], ◌++◌, ◌&&◌, ◌||◌, ap, sym, subst, All, length, map, true, List, ℕ, String, Global, string_bytes, nat_eq}
use Rattle.std.specs.BTreeMap.Range.{range_contains, IsEntryInRange}
use Rattle.std.specs.Cmp.Lexicographic.{slice_cmp}
use Rattle.std.specs.List.{list_any, list_all, starts_with}
use Rattle.std.specs.Map.{keys_of}
use Rattle.std.specs.Map.Iter.{deref_pair}
use Rattle.std.specs.Option.{option_map_or}
use Rattle.std.specs.Ordering.{is_le, nat_cmp}
use Rattle.std.specs.String.{string_cmp}
use Rattle.std.specs.declared.ops.Bound.TheVariants.{Included, Unbounded}
use Rattle.std.proofs.lemmas.List.{map-append}
use Rattle.std.proofs.lemmas.Map.Iter.{rest_so_far}
use Rattle.doc.specs.Document.{Values, all_values}
use Rattle.marks.specs.Lists.{zip_with, places}
use Rattle.segment.specs.Places.{as_list, has_word}
use Rattle.segment.specs.declared.places.Places.{Places}
use Rattle.segment.proofs.Columns.{by_places, places-within}
use Rattle.segment.proofs.Joins.{length-zip}
use Rattle.segment.proofs.Prefixes.{is_word, none_from, pre}
use Rattle.segment.proofs.Listed.{middle, le_from_not_gt, later, all-push}
use Rattle.segment.proofs.Runs.{words, index, seen_marks, none-seen, more-seen, prefix-seen}
use Rattle.segment.proofs.segment.Segment.mark_begun.Goals as goal

-- nothing more is marked yet
pub loop-word-init : goal.loop-word-init
loop-word-init c = record { within = λ k d lt. omega (arith, lt); marked = none-seen c.args.self.now.mapping c.args._name.now c.args.marks.now c.args.self.now.sources c.requires.whole; all = refl }

-- places that wait are those of documents
pub mark-requires : goal.mark-requires
mark-requires c = c.loop-word.invariant.within

pub mark-requires-in-loop-word : goal.mark-requires-in-loop-word
mark-requires-in-loop-word c = c.loop-word.invariant.within

pub mark-requires-2 : goal.mark-requires-2
mark-requires-2 c = c.loop-word.invariant.within

-- the first word that doesn't begin with the prefix, and none after it does
pub returns-then-not-begins_with : goal.returns-then-not-begins_with
returns-then-not-begins_with c =
    let m = c.args.self.now.mapping in
    let q = λ (k : String Global). range_contains string_cmp (Included c.in_ok-from.from) Unbounded k in
    let seen = map deref_pair c.loop-word.yielded in
    let rest = c.next.new.self in
    let k = c.in-Some.word.now in
    let entry : String Global × Places = (k, c.in-Some.places.now) in
    let step : c.loop-word.word-iterator ≡ entry ∷ rest = c.in-Some.ensures.steps in
    let run_is : c.range-word-items.result ≡ seen ++ entry ∷ rest = sym c.into_iter-word-iterator.ensures.into_iter_gives ∙ rest_so_far deref_pair _ _ _ c.loop-word.yielded_by ∙ ap (λ xs. seen ++ xs) step in
    let here = IsEntryInRange string_cmp (Included c.in_ok-from.from) Unbounded c.args.column.now.texts in
    let found : here entry = middle here seen rest entry (subst (λ xs. All here xs) run_is (c.range-word-items.ensures.in_range tt).0) in
    let passes = λ (k : String Global) (is : is_le (slice_cmp nat_cmp c.args.text.now (string_bytes k)) ≡ true). ap (λ b. b && true) (subst (λ v. is_le (slice_cmp nat_cmp v (string_bytes k)) ≡ true) (sym c.in_ok-from.ensures.ok) is) in
    let above = subst (λ v. is_le (slice_cmp nat_cmp v (string_bytes k)) ≡ true) c.in_ok-from.ensures.ok (le_from_not_gt _ found.0.0) in
    let out : starts_with nat_eq (string_bytes k) c.args.text.now ≡ false = sym c.begins_with.ensures ∙ c.if-not-begins_with.true in
    let parted = sym (c.range-word-items.ensures.between tt) ∙ run_is in
    let after = later q c.args.column.now.texts.entries seen entry rest c.range-word-items.ensures.ordered parted in
    let none = λ (w : List ℕ) (starts : starts_with nat_eq w c.args.text.now ≡ true). none_from c.args.text.now entry rest w above out after starts in
    c.mark.ensures ∙ c.loop-word.invariant.marked ∙ prefix-seen m c.args._name.now c.args.marks.now c.args.self.now.sources c.args.column.now.texts.entries c.requires.is.texts c.args.text.now q passes seen (entry ∷ rest) parted none c.loop-word.invariant.all

-- one more word
pub loop-word-preserved : goal.loop-word-preserved
loop-word-preserved c =
    let m = c.args.self.now.mapping in
    let sources = c.args.self.now.sources in
    let docs = map (all_values m) sources in
    let seen = map deref_pair c.loop-word.yielded in
    let rest = c.next.new.self in
    let k = c.in-Some.word.now in
    let entry : String Global × Places = (k, c.in-Some.places.now) in
    let step : c.loop-word.word-iterator ≡ entry ∷ rest = c.in-Some.ensures.steps in
    let run_is : c.range-word-items.result ≡ seen ++ entry ∷ rest = sym c.into_iter-word-iterator.ensures.into_iter_gives ∙ rest_so_far deref_pair _ _ _ c.loop-word.yielded_by ∙ ap (λ xs. seen ++ xs) step in
    let here = IsEntryInRange string_cmp (Included c.in_ok-from.from) Unbounded c.args.column.now.texts in
    let found : here entry = middle here seen rest entry (subst (λ xs. All here xs) run_is (c.range-word-items.ensures.in_range tt).0) in
    let test = λ (d : Values). has_word (string_bytes k) (words m c.args._name.now d) in
    let items : c.as_slice-found.result.now ≡ places test docs = c.as_slice-found.ensures ∙ ap (λ o. option_map_or as_list o []) (sym found.1) ∙ index m c.args._name.now docs c.args.column.now.texts.entries c.requires.is.texts (string_bytes k) in
    let now : c.mark-in-loop-word.new.self ≡ seen_marks m c.args._name.now c.args.marks.now sources seen = c.mark-in-loop-word.ensures ∙ c.loop-word.invariant.marked in
    let whole : length c.mark-in-loop-word.new.self ≡ length sources = ap length now ∙ length-zip _ c.args.marks.now sources c.requires.whole in
    let more : map deref_pair (c.loop-word.yielded ++ (c.in-Some.word, c.in-Some.places) ∷ []) ≡ seen ++ entry ∷ [] = map-append deref_pair c.loop-word.yielded ((c.in-Some.word, c.in-Some.places) ∷ []) in
    let starts : starts_with nat_eq (string_bytes k) c.args.text.now ≡ true = sym c.begins_with.ensures ∙ c.if-not-begins_with.false in
    record {
      within = places-within m c.mark-in-loop-word.new.self sources whole test c.as_slice-found.result.now items;
      marked = by_places m c.mark-in-loop-word.new.self sources whole test c.as_slice-found.result.now items
          ∙ ap (λ ms. zip_with (λ b s. b || test (all_values m s)) ms sources) now
          ∙ more-seen m c.args._name.now c.args.marks.now sources seen entry
          ∙ ap (seen_marks m c.args._name.now c.args.marks.now sources) (sym more);
      all = ap (list_all (pre c.args.text.now)) more ∙ all-push (pre c.args.text.now) seen entry c.loop-word.invariant.all starts;
    }

-- no word is left
pub returns : goal.returns
returns c =
    let m = c.args.self.now.mapping in
    let q = λ (k : String Global). range_contains string_cmp (Included c.in_ok-from.from) Unbounded k in
    let passes = λ (k : String Global) (is : is_le (slice_cmp nat_cmp c.args.text.now (string_bytes k)) ≡ true). ap (λ b. b && true) (subst (λ v. is_le (slice_cmp nat_cmp v (string_bytes k)) ≡ true) (sym c.in_ok-from.ensures.ok) is) in
    let parted = sym (c.range-word-items.ensures.between tt) ∙ sym c.into_iter-word-iterator.ensures.into_iter_gives ∙ rest_so_far deref_pair _ _ _ c.loop-word.yielded_by in
    let none = λ (w : List ℕ) (starts : starts_with nat_eq w c.args.text.now ≡ true). ap (λ xs. list_any (is_word w) (keys_of xs)) c.in-None.ensures.steps.0 in
    c.mark-2.ensures ∙ c.loop-word.invariant.marked ∙ prefix-seen m c.args._name.now c.args.marks.now c.args.self.now.sources c.args.column.now.texts.entries c.requires.is.texts c.args.text.now q passes (map deref_pair c.loop-word.yielded) c.loop-word.word-iterator parted none c.loop-word.invariant.all
