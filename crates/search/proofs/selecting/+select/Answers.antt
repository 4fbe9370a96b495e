use Rattle.std.proofs.Common.{◌≡◌, ◌∙◌, ap, sym, map, replicate, length, List, ℕ, ◌&&◌, ◌||◌, Bool, false, subst, IfOk, All, ◌≤◌, ◌+◌, nat_le, string_bytes}
use Rattle.std.proofs.lemmas.Simd.{map-map}
use Rattle.search.proofs.Bools.{zeros-few, together, plus-zero, and-zero}
use Rattle.segment.proofs.Zips.{zip-test}
use Rattle.std.specs.List.{list_any}
use Rattle.std.proofs.lemmas.List.{length-map}
use Rattle.doc.specs.Document.{all_values}
use Rattle.doc.specs.ScalarView.{scalar_view, scalars_view}
use Rattle.query.specs.Meaning as spec
use Rattle.analysis.specs.Terms as of_terms
use Rattle.query.specs.Query.{queries_of, count_of, exists, nothing, match_all, term as spec_term}
use Rattle.query.specs.View.{query_view}
use Rattle.analysis.specs.BoundsView.{bounds_view}
use Rattle.marks.specs.Lists.{zip_with}
use Rattle.segment.specs.Indexed.{has_value}
use Rattle.segment.proofs.Joins.{const, zip-self, and-end, or-end, count-end, length-zip, few-more}
use Rattle.search.proofs.Turns.{done, keep-turn, drop-turn, one-turn, count-turn}
use Rattle.search.proofs.QueryViews.{view-all, view-nothing, view-exists, view-term, view-bool, view-terms, view-match, view-prefix, view-range}
use Rattle.query.specs.Query as Q
use Rattle.query.specs.declared.query.Query.{Query}
use Rattle.search.proofs.selecting.+select.Goals as goal

pub keep_all-loop-query-preserved : goal.keep_all-loop-query-preserved
keep_all-loop-query-preserved t c = record {
  whole = ap length c.intersect-in-loop-query.ensures ∙ length-zip _ c.loop-query.marks c.in_ok-select_known.field-0 (c.loop-query.invariant.whole ∙ sym (ap length c.in_ok-select_known.ensures ∙ length-map c.args.known.now.segment.now.sources _)) ∙ ap length c.in_ok-select_known.ensures ∙ length-map c.args.known.now.segment.now.sources _;
  left = keep-turn c.args.known.now.segment.now.mapping c.args.known.now.segment.now.sources c.args.queries.now c.loop-query.query-index c.query-item.result c.query-item.is c.loop-query-test.true c.loop-query.marks c.intersect-in-loop-query.new.self c.in_ok-select_known.field-0 c.in_ok-select_known.ensures c.intersect-in-loop-query.ensures ∙ c.loop-query.invariant.left;
}

pub keep_all-returns-clause-is : goal.keep_all-returns-clause-is
keep_all-returns-clause-is t c = let m = c.args.known.now.segment.now.mapping in
    sym (and-end c.loop-query.marks c.args.known.now.segment.now.sources c.loop-query.invariant.whole)
    ∙ ap (λ qs. zip_with (λ b s. b && spec.all_match m.fields (all_values m s) (queries_of (map query_view qs))) c.loop-query.marks c.args.known.now.segment.now.sources) (sym (done c.args.queries.now c.loop-query.query-index c.loop-query-test.false))
    ∙ c.loop-query.invariant.left

pub drop_any-loop-query-preserved : goal.drop_any-loop-query-preserved
drop_any-loop-query-preserved t c = record {
  whole = ap length c.subtract-in-loop-query.ensures ∙ length-zip _ c.loop-query.marks c.in_ok-select_known.field-0 (c.loop-query.invariant.whole ∙ sym (ap length c.in_ok-select_known.ensures ∙ length-map c.args.known.now.segment.now.sources _)) ∙ ap length c.in_ok-select_known.ensures ∙ length-map c.args.known.now.segment.now.sources _;
  left = drop-turn c.args.known.now.segment.now.mapping c.args.known.now.segment.now.sources c.args.queries.now c.loop-query.query-index c.query-item.result c.query-item.is c.loop-query-test.true c.loop-query.marks c.subtract-in-loop-query.new.self c.in_ok-select_known.field-0 c.in_ok-select_known.ensures c.subtract-in-loop-query.ensures ∙ c.loop-query.invariant.left;
}

pub drop_any-returns-clause-is : goal.drop_any-returns-clause-is
drop_any-returns-clause-is t c = let m = c.args.known.now.segment.now.mapping in
    sym (and-end c.loop-query.marks c.args.known.now.segment.now.sources c.loop-query.invariant.whole)
    ∙ ap (λ qs. zip_with (λ b s. b && spec.none_matches m.fields (all_values m s) (queries_of (map query_view qs))) c.loop-query.marks c.args.known.now.segment.now.sources) (sym (done c.args.queries.now c.loop-query.query-index c.loop-query-test.false))
    ∙ c.loop-query.invariant.left

pub keep_any-loop-query-init : goal.keep_any-loop-query-init
keep_any-loop-query-init t c =
    let m = c.args.known.now.segment.now.mapping in
    let xs = c.args.known.now.segment.now.sources in
    let op = λ (b : Bool) (s : List ℕ). b || nat_le 1 (spec.matching m.fields (all_values m s) (queries_of (map query_view c.args.queries.now))) in
    record {
      whole = ap length c.in_ok-found.ensures ∙ length-map xs _;
      left = ap (λ bs. zip_with op bs xs) c.in_ok-found.ensures ∙ zip-self op (λ (s : List ℕ). false) xs;
    }

pub keep_any-loop-query-preserved : goal.keep_any-loop-query-preserved
keep_any-loop-query-preserved t c = record {
  whole = ap length c.unite.ensures ∙ length-zip _ c.loop-query.found c.in_ok-select_known.field-0 (c.loop-query.invariant.whole ∙ sym (ap length c.in_ok-select_known.ensures ∙ length-map c.args.known.now.segment.now.sources _)) ∙ ap length c.in_ok-select_known.ensures ∙ length-map c.args.known.now.segment.now.sources _;
  left = one-turn c.args.known.now.segment.now.mapping c.args.known.now.segment.now.sources c.args.queries.now c.loop-query.query-index c.query-item.result c.query-item.is c.loop-query-test.true c.loop-query.found c.unite.new.self c.in_ok-select_known.field-0 c.in_ok-select_known.ensures c.unite.ensures ∙ c.loop-query.invariant.left;
}

pub keep_any-returns-clause-is : goal.keep_any-returns-clause-is
keep_any-returns-clause-is t c =
    let m = c.args.known.now.segment.now.mapping in
    let xs = c.args.known.now.segment.now.sources in
    let found = sym (or-end c.loop-query.found xs c.loop-query.invariant.whole)
    ∙ ap (λ qs. zip_with (λ b s. b || nat_le 1 (spec.matching m.fields (all_values m s) (queries_of (map query_view qs)))) c.loop-query.found xs) (sym (done c.args.queries.now c.loop-query.query-index c.loop-query-test.false))
    ∙ c.loop-query.invariant.left in
    c.intersect.ensures ∙ ap (zip_with (λ a b. a && b) c.args.marks.now) found
    ∙ zip-test (λ a b. a && b) (λ s. nat_le 1 (spec.matching m.fields (all_values m s) (queries_of (map query_view c.args.queries.now)))) c.args.marks.now xs

pub keep_any-returns-clause-whole : goal.keep_any-returns-clause-whole
keep_any-returns-clause-whole t c =
    let whole = c.loop-query.invariant.whole in
    ap length c.intersect.ensures ∙ length-zip _ c.args.marks.now c.loop-query.found (c.requires ∙ sym whole) ∙ whole

pub keep_enough-loop-query-init : goal.keep_enough-loop-query-init
keep_enough-loop-query-init t c =
    let m = c.args.known.now.segment.now.mapping in
    let xs = c.args.known.now.segment.now.sources in
    let zeros : c.in_ok-counts.counts.items ≡ map (λ (s : List ℕ). 0) xs = c.in_ok-counts.ensures ∙ ap (λ n. replicate n 0) c.len.ensures.is ∙ const 0 xs in
    let op = λ (n : ℕ) (s : List ℕ). n + spec.matching m.fields (all_values m s) (queries_of (map query_view c.args.queries.now)) in
    record {
      whole = ap length zeros ∙ length-map xs _;
      few = subst (λ ns. All (λ n. n ≤ 0) ns) (sym zeros) (zeros-few xs);
      left = ap (λ ns. zip_with op ns xs) zeros ∙ zip-self op (λ (s : List ℕ). 0) xs ∙ plus-zero (λ s. spec.matching m.fields (all_values m s) (queries_of (map query_view c.args.queries.now))) xs;
    }

pub keep_enough-returns-then-wanted-eq0-clause-is : goal.keep_enough-returns-then-wanted-eq0-clause-is
keep_enough-returns-then-wanted-eq0-clause-is t c =
    let m = c.args.known.now.segment.now.mapping in
    let xs = c.args.known.now.segment.now.sources in
    sym (ap (λ w. zip_with (λ b s. b && nat_le w (spec.matching m.fields (all_values m s) (queries_of (map query_view c.args.queries.now)))) c.args.marks.now xs) c.if-wanted-eq0.true ∙ and-zero (λ s. spec.matching m.fields (all_values m s) (queries_of (map query_view c.args.queries.now))) c.args.marks.now xs c.requires)

pub keep_enough-loop-query-preserved : goal.keep_enough-loop-query-preserved
keep_enough-loop-query-preserved t c = record {
  whole = ap length c.add-in-loop-query.ensures ∙ length-zip _ c.loop-query.counts.items c.in_ok-select_known.field-0 (c.loop-query.invariant.whole ∙ sym (ap length c.in_ok-select_known.ensures ∙ length-map c.args.known.now.segment.now.sources _)) ∙ ap length c.in_ok-select_known.ensures ∙ length-map c.args.known.now.segment.now.sources _;
  few = subst (λ ns. All (λ n. n ≤ c.loop-query.query-index + 1) ns) (sym c.add-in-loop-query.ensures) (few-more c.loop-query.query-index c.loop-query.counts.items c.in_ok-select_known.field-0 c.loop-query.invariant.few);
  left = count-turn c.args.known.now.segment.now.mapping c.args.known.now.segment.now.sources c.args.queries.now c.loop-query.query-index c.query-item.result c.query-item.is c.loop-query-test.true c.loop-query.counts.items c.add-in-loop-query.new.counts.items c.in_ok-select_known.field-0 c.in_ok-select_known.ensures c.add-in-loop-query.ensures ∙ c.loop-query.invariant.left;
}

pub keep_enough-returns-clause-is : goal.keep_enough-returns-clause-is
keep_enough-returns-clause-is t c =
    let m = c.args.known.now.segment.now.mapping in
    let xs = c.args.known.now.segment.now.sources in
    let counted = sym (count-end c.loop-query.counts.items xs c.loop-query.invariant.whole)
    ∙ ap (λ qs. zip_with (λ n s. n + spec.matching m.fields (all_values m s) (queries_of (map query_view qs))) c.loop-query.counts.items xs) (sym (done c.args.queries.now c.loop-query.query-index c.loop-query-test.false))
    ∙ c.loop-query.invariant.left in
    c.intersect-2.ensures ∙ ap (zip_with (λ a b. a && b) c.args.marks.now) (c.in_ok-at_least.ensures ∙ ap (map (λ n. nat_le c.args.wanted n)) (c.deref.ensures.value ∙ counted) ∙ map-map (λ n. nat_le c.args.wanted n) (λ s. spec.matching m.fields (all_values m s) (queries_of (map query_view c.args.queries.now))) xs)
    ∙ zip-test (λ a b. a && b) (λ s. nat_le c.args.wanted (spec.matching m.fields (all_values m s) (queries_of (map query_view c.args.queries.now)))) c.args.marks.now xs

pub select_known-returns-in-MatchAll : goal.select_known-returns-in-MatchAll
select_known-returns-in-MatchAll t c =
    let is : query_view c.args.query.now ≡ match_all = ap query_view c.in-MatchAll.is ∙ view-all in
    subst (λ q. IfOk c.all.result (λ r. r ≡ map (λ s. spec.means c.args.known.now.segment.now.mapping s q) c.args.known.now.segment.now.sources)) (sym is) c.all.ensures

pub select_known-returns-in-Nothing : goal.select_known-returns-in-Nothing
select_known-returns-in-Nothing t c =
    let is : query_view c.args.query.now ≡ nothing = ap query_view c.in-Nothing.is ∙ view-nothing in
    subst (λ q. IfOk c.none.result (λ r. r ≡ map (λ s. spec.means c.args.known.now.segment.now.mapping s q) c.args.known.now.segment.now.sources)) (sym is) c.none.ensures

pub select_known-returns-in-Exists : goal.select_known-returns-in-Exists
select_known-returns-in-Exists t c =
    let m = c.args.known.now.segment.now.mapping in
    let xs = c.args.known.now.segment.now.sources in
    let is : query_view c.args.query.now ≡ exists (string_bytes c.in-Exists.field) = ap query_view c.in-Exists.is ∙ view-exists c.in-Exists.field in
    subst (λ q. IfOk c.with_value.result (λ r. r ≡ map (λ s. spec.means m s q) xs)) (sym is) (subst (λ n. IfOk c.with_value.result (λ r. r ≡ map (λ s. has_value n (all_values m s)) xs)) c.deref-in-Exists.ensures c.with_value.ensures)

pub select_known-returns-in-Term : goal.select_known-returns-in-Term
select_known-returns-in-Term t c =
    let m = c.args.known.now.segment.now.mapping in
    let xs = c.args.known.now.segment.now.sources in
    let is : query_view c.args.query.now ≡ spec_term (string_bytes c.in-Term.field) (scalar_view c.in-Term.value) = ap query_view c.in-Term.is ∙ view-term c.in-Term.field c.in-Term.value in
    subst (λ q. IfOk c.known_term.result (λ r. r ≡ map (λ s. spec.means m s q) xs)) (sym is) (subst (λ n. IfOk c.known_term.result (λ r. r ≡ map (λ s. of_terms.has (of_terms.terms m s n) (scalar_view c.in-Term.value)) xs)) c.deref.ensures c.known_term.ensures)

pub select_known-returns-in-Terms : goal.select_known-returns-in-Terms
select_known-returns-in-Terms t c =
    let m = c.args.known.now.segment.now.mapping in
    let xs = c.args.known.now.segment.now.sources in
    let is : query_view c.args.query.now ≡ Q.terms (string_bytes c.in-Terms.field) (scalars_view c.in-Terms.values.items) = ap query_view c.in-Terms.is ∙ view-terms c.in-Terms.field c.in-Terms.values in
    subst (λ q. IfOk c.with_any.result (λ r. r ≡ map (λ s. spec.means m s q) xs)) (sym is) (subst (λ v. IfOk c.with_any.result (λ r. r ≡ map (λ s. list_any (of_terms.is_one_of (scalars_view v)) (of_terms.terms m s (string_bytes c.in-Terms.field))) xs)) c.deref-in-Terms-2.ensures.value (subst (λ v. IfOk c.with_any.result (λ r. r ≡ map (λ s. list_any (of_terms.is_one_of (scalars_view c.deref-in-Terms-2.result.now)) (of_terms.terms m s v)) xs)) c.deref-in-Terms.ensures c.with_any.ensures))

pub select_known-returns-in-Match : goal.select_known-returns-in-Match
select_known-returns-in-Match t c =
    let m = c.args.known.now.segment.now.mapping in
    let xs = c.args.known.now.segment.now.sources in
    let is : query_view c.args.query.now ≡ Q.match_tokens (string_bytes c.in-Match.field) c.in-Match.operator (scalars_view c.in-Match.tokens.items) = ap query_view c.in-Match.is ∙ view-match c.in-Match.field c.in-Match.operator c.in-Match.tokens in
    subst (λ q. IfOk c.with_tokens.result (λ r. r ≡ map (λ s. spec.means m s q) xs)) (sym is) (subst (λ v. IfOk c.with_tokens.result (λ r. r ≡ map (λ s. spec.has_tokens c.in-Match.operator (of_terms.terms m s (string_bytes c.in-Match.field)) (scalars_view v)) xs)) c.deref-in-Match-2.ensures.value (subst (λ v. IfOk c.with_tokens.result (λ r. r ≡ map (λ s. spec.has_tokens c.in-Match.operator (of_terms.terms m s v) (scalars_view c.deref-in-Match-2.result.now)) xs)) c.deref-in-Match.ensures c.with_tokens.ensures))

pub select_known-returns-in-Prefix : goal.select_known-returns-in-Prefix
select_known-returns-in-Prefix t c =
    let m = c.args.known.now.segment.now.mapping in
    let xs = c.args.known.now.segment.now.sources in
    let is : query_view c.args.query.now ≡ Q.prefix (string_bytes c.in-Prefix.field) (string_bytes c.in-Prefix.text) = ap query_view c.in-Prefix.is ∙ view-prefix c.in-Prefix.field c.in-Prefix.text in
    subst (λ q. IfOk c.with_prefix.result (λ r. r ≡ map (λ s. spec.means m s q) xs)) (sym is) (subst (λ v. IfOk c.with_prefix.result (λ r. r ≡ map (λ s. list_any (of_terms.begins_with v) (of_terms.terms m s (string_bytes c.in-Prefix.field))) xs)) c.deref-in-Prefix-2.ensures (subst (λ v. IfOk c.with_prefix.result (λ r. r ≡ map (λ s. list_any (of_terms.begins_with c.deref-in-Prefix-2.result.now) (of_terms.terms m s v)) xs)) c.deref-in-Prefix.ensures c.with_prefix.ensures))

pub select_known-returns-in-Range : goal.select_known-returns-in-Range
select_known-returns-in-Range t c =
    let m = c.args.known.now.segment.now.mapping in
    let xs = c.args.known.now.segment.now.sources in
    let is : query_view c.args.query.now ≡ Q.range (string_bytes c.in-Range.field) (bounds_view c.in-Range.bounds) = ap query_view c.in-Range.is ∙ view-range c.in-Range.field c.in-Range.bounds in
    subst (λ q. IfOk c.within.result (λ r. r ≡ map (λ s. spec.means m s q) xs)) (sym is) (subst (λ v. IfOk c.within.result (λ r. r ≡ map (λ s. list_any (of_terms.is_within (bounds_view c.in-Range.bounds)) (of_terms.terms m s v)) xs)) c.deref-in-Range.ensures c.within.ensures)

pub keep_enough-returns-clause-whole : goal.keep_enough-returns-clause-whole
keep_enough-returns-clause-whole t c =
    let al = ap length c.in_ok-at_least.ensures ∙ length-map c.deref.result.now _ ∙ ap length c.deref.ensures.value ∙ c.loop-query.invariant.whole in
    ap length c.intersect-2.ensures ∙ length-zip _ c.args.marks.now c.in_ok-at_least.field-0 (c.requires ∙ sym al) ∙ al

pub select_known-returns-in_ok-keep_enough-in-Bool : goal.select_known-returns-in_ok-keep_enough-in-Bool
select_known-returns-in_ok-keep_enough-in-Bool t c =
    let m = c.args.known.now.segment.now.mapping in
    let xs = c.args.known.now.segment.now.sources in
    let Qs = λ (v : List Query). queries_of (map query_view v) in
    let f = c.in-Bool.filter.items in
    let mu = c.in-Bool.must.items in
    let mn = c.in-Bool.must_not.items in
    let sh = c.in-Bool.should.items in
    let is = ap query_view c.in-Bool.is ∙ view-bool c.in-Bool.filter c.in-Bool.must c.in-Bool.must_not c.in-Bool.should c.in-Bool.minimum_should_match in
    let w1 = c.count.ensures ∙ ap (λ v. count_of (Qs v)) c.deref-in-Bool-4.ensures.value in
    let w2 = c.count-in-Bool.ensures ∙ ap (λ v. count_of (Qs v)) c.deref-in-Bool-5.ensures.value in
    let w3 = c.count-in-Bool-2.ensures ∙ ap (λ v. count_of (Qs v)) c.deref-in-Bool-6.ensures.value in
    let w = c.wanted-wanted.ensures ∙ ap (λ n. spec.wanted n c.count-in-Bool.result c.count-in-Bool-2.result c.in-Bool.minimum_should_match) w1
    ∙ ap (λ n. spec.wanted (count_of (Qs f)) n c.count-in-Bool-2.result c.in-Bool.minimum_should_match) w2
    ∙ ap (λ n. spec.wanted (count_of (Qs f)) (count_of (Qs mu)) n c.in-Bool.minimum_should_match) w3 in
    together m xs (Qs f) (Qs mu) (Qs mn) (Qs sh) c.wanted-wanted.result c.in-Bool.minimum_should_match c.in_ok-marks-in-Bool.marks c.keep_all.new.marks c.keep_all-in-Bool.new.marks c.drop_any.new.marks c.keep_enough.new.marks
    c.in_ok-marks-in-Bool.ensures
    (c.in_ok-keep_all-in-Bool.ensures.is ∙ ap (λ v. zip_with (λ b s. b && spec.all_match m.fields (all_values m s) (Qs v)) c.in_ok-marks-in-Bool.marks xs) c.deref-in-Bool.ensures.value)
    (c.in_ok-keep_all-in-Bool-2.ensures.is ∙ ap (λ v. zip_with (λ b s. b && spec.all_match m.fields (all_values m s) (Qs v)) c.keep_all.new.marks xs) c.deref-in-Bool-2.ensures.value)
    (c.in_ok-drop_any-in-Bool.ensures.is ∙ ap (λ v. zip_with (λ b s. b && spec.none_matches m.fields (all_values m s) (Qs v)) c.keep_all-in-Bool.new.marks xs) c.deref-in-Bool-3.ensures.value)
    (c.in_ok-keep_enough-in-Bool.ensures.is ∙ ap (λ v. zip_with (λ b s. b && nat_le c.wanted-wanted.result (spec.matching m.fields (all_values m s) (Qs v))) c.drop_any.new.marks xs) c.deref-in-Bool-7.ensures.value)
    w
    ∙ ap (λ q. map (λ s. spec.means m s q) xs) (sym is)

pub select_known-returns-then-wanted-eq1 : goal.select_known-returns-then-wanted-eq1
select_known-returns-then-wanted-eq1 t c =
    let m = c.args.known.now.segment.now.mapping in
    let xs = c.args.known.now.segment.now.sources in
    let Qs = λ (v : List Query). queries_of (map query_view v) in
    let f = c.in-Bool.filter.items in
    let mu = c.in-Bool.must.items in
    let mn = c.in-Bool.must_not.items in
    let sh = c.in-Bool.should.items in
    let is = ap query_view c.in-Bool.is ∙ view-bool c.in-Bool.filter c.in-Bool.must c.in-Bool.must_not c.in-Bool.should c.in-Bool.minimum_should_match in
    let w1 = c.count.ensures ∙ ap (λ v. count_of (Qs v)) c.deref-in-Bool-4.ensures.value in
    let w2 = c.count-in-Bool.ensures ∙ ap (λ v. count_of (Qs v)) c.deref-in-Bool-5.ensures.value in
    let w3 = c.count-in-Bool-2.ensures ∙ ap (λ v. count_of (Qs v)) c.deref-in-Bool-6.ensures.value in
    let w = c.wanted-wanted.ensures ∙ ap (λ n. spec.wanted n c.count-in-Bool.result c.count-in-Bool-2.result c.in-Bool.minimum_should_match) w1
    ∙ ap (λ n. spec.wanted (count_of (Qs f)) n c.count-in-Bool-2.result c.in-Bool.minimum_should_match) w2
    ∙ ap (λ n. spec.wanted (count_of (Qs f)) (count_of (Qs mu)) n c.in-Bool.minimum_should_match) w3 in
    together m xs (Qs f) (Qs mu) (Qs mn) (Qs sh) c.wanted-wanted.result c.in-Bool.minimum_should_match c.in_ok-marks-in-Bool.marks c.keep_all.new.marks c.keep_all-in-Bool.new.marks c.drop_any.new.marks c.keep_any.new.marks
    c.in_ok-marks-in-Bool.ensures
    (c.in_ok-keep_all-in-Bool.ensures.is ∙ ap (λ v. zip_with (λ b s. b && spec.all_match m.fields (all_values m s) (Qs v)) c.in_ok-marks-in-Bool.marks xs) c.deref-in-Bool.ensures.value)
    (c.in_ok-keep_all-in-Bool-2.ensures.is ∙ ap (λ v. zip_with (λ b s. b && spec.all_match m.fields (all_values m s) (Qs v)) c.keep_all.new.marks xs) c.deref-in-Bool-2.ensures.value)
    (c.in_ok-drop_any-in-Bool.ensures.is ∙ ap (λ v. zip_with (λ b s. b && spec.none_matches m.fields (all_values m s) (Qs v)) c.keep_all-in-Bool.new.marks xs) c.deref-in-Bool-3.ensures.value)
    (c.in_ok-keep_any-in-Bool.ensures.is ∙ ap (λ n. zip_with (λ b s. b && nat_le n (spec.matching m.fields (all_values m s) (Qs c.deref-then-wanted-eq1.result.now))) c.drop_any.new.marks xs) (sym c.if-wanted-eq1.true) ∙ ap (λ v. zip_with (λ b s. b && nat_le c.wanted-wanted.result (spec.matching m.fields (all_values m s) (Qs v))) c.drop_any.new.marks xs) c.deref-then-wanted-eq1.ensures.value)
    w
    ∙ ap (λ q. map (λ s. spec.means m s q) xs) (sym is)
