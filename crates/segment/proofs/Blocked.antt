-- The numbers of a column in blocks, and the documents of those that pass.
use Rattle.std.proofs.Common.{◌≡◌, ◌<◌, ◌≤ℤ◌, ℕ, ℤ, ◌+◌, suc, zero, Bool, true, false, not, ◌&&◌, ◌||◌, ◌∷◌, List, [], ◌++◌, length, map, refl, sym, ap, ◌∙◌, subst, filter, cond, arith, All, Option, Some, None, option_map, replicate, slice_set, get_or, take, if◌then◌else◌, true≢false, append-nil, append_assoc, BTreeMap}
use Rattle.std.specs.BTreeMap as tree
use Rattle.std.specs.List.{list_any}
use Rattle.std.specs.Option.{option_map_or}
use Rattle.std.specs.Ordering.{int_cmp}
use Rattle.std.proofs.lemmas.Cmp.{int_cmp_total}
use Rattle.std.proofs.lemmas.Grind.{flat_map-append}
use Rattle.std.proofs.lemmas.Int.{ints}
use Rattle.std.proofs.lemmas.List.{length-replicate, length-set, map-append, take_more}
use Rattle.std.proofs.lemmas.List.Elements.{All-append, All-head, All-map, All-push, All-tail, filter-append}
use Rattle.std.proofs.lemmas.Map.Views.{All-found}
use Rattle.doc.specs.Mapping.{MappingData}
use Rattle.doc.specs.Scalar.{Scalar, long}
use Rattle.doc.specs.Document.{all_values}
use Rattle.analysis.specs.Terms.{terms_at, is_less, is_within, meets}
use Rattle.marks.specs.Lists.{zip_with, marked, places}
use Rattle.segment.specs.Blocks.{IsBlock, AreBlocks, numbered, listed, numbers_of, places_of, hits}
use Rattle.segment.specs.Indexed.{has_term}
use Rattle.segment.specs.Limits.{limits_view}
use Rattle.segment.specs.Places.{as_list, places_at_long}
use Rattle.segment.specs.Term.{is_long}
use Rattle.segment.specs.declared.blocks.Block.{Block}
use Rattle.segment.specs.declared.blocks.Number.{Number}
use Rattle.segment.specs.declared.limits.Limits.{Limits}
use Rattle.segment.specs.declared.places.Places.{Places}
use Rattle.segment.proofs.Withins.{so_far, long_hit, marked-if, longs-end}
use Rattle.segment.proofs.Joins.{length-zip, or-end, or-more}

-- ---- limits

above-up : (o : Option ℤ) (y z : ℤ) → y ≤ℤ z → meets (option_map long o) (λ v. is_less v (long y)) ≡ true → meets (option_map long o) (λ v. is_less v (long z)) ≡ true
above-up None y z le is = refl
above-up (Some a) y z le is = grind (arith, ints)

from-up : (o : Option ℤ) (y z : ℤ) → y ≤ℤ z → meets (option_map long o) (λ v. not (is_less (long y) v)) ≡ true → meets (option_map long o) (λ v. not (is_less (long z) v)) ≡ true
from-up None y z le is = refl
from-up (Some a) y z le is = grind (arith, ints)

below-down : (o : Option ℤ) (y z : ℤ) → y ≤ℤ z → meets (option_map long o) (λ v. is_less (long z) v) ≡ true → meets (option_map long o) (λ v. is_less (long y) v) ≡ true
below-down None y z le is = refl
below-down (Some a) y z le is = grind (arith, ints)

to-down : (o : Option ℤ) (y z : ℤ) → y ≤ℤ z → meets (option_map long o) (λ v. not (is_less v (long z))) ≡ true → meets (option_map long o) (λ v. not (is_less v (long y))) ≡ true
to-down None y z le is = refl
to-down (Some a) y z le is = grind (arith, ints)

pub all_four : (a b c d : Bool) → a ≡ true → b ≡ true → c ≡ true → d ≡ true → (a && b && c && d) ≡ true
all_four a b c d p q r s = ap (λ x. x && b && c && d) p ∙ ap (λ x. x && c && d) q ∙ ap (λ x. x && d) r ∙ s

each_four : (a b c d : Bool) → (a && b && c && d) ≡ true → (a ≡ true) × (b ≡ true) × (c ≡ true) × (d ≡ true)
each_four true true true true is = (refl, refl, refl, refl)
each_four true true true false is = absurd (true≢false (sym is))
each_four true true false d is = absurd (true≢false (sym is))
each_four true false c d is = absurd (true≢false (sym is))
each_four false b c d is = absurd (true≢false (sym is))

module _ (l : Limits) where
  -- whether a number keeps each of the limits
  abbrev pub is_above : ℤ → Bool
  is_above z = meets (option_map long l.above) (λ v. is_less v (long z))

  abbrev pub is_from : ℤ → Bool
  is_from z = meets (option_map long l.from) (λ v. not (is_less (long z) v))

  abbrev pub is_below : ℤ → Bool
  is_below z = meets (option_map long l.below) (λ v. is_less (long z) v)

  abbrev pub is_to : ℤ → Bool
  is_to z = meets (option_map long l.to) (λ v. not (is_less v (long z)))

  module _ (first last z : ℤ) (low : first ≤ℤ z) (high : z ≤ℤ last) where
    -- a number between two that pass passes
    pub between : is_within (limits_view l) (long first) ≡ true → is_within (limits_view l) (long last) ≡ true → is_within (limits_view l) (long z) ≡ true
    between one other =
        let p = each_four (is_above first) (is_from first) (is_below first) (is_to first) one in
        let q = each_four (is_above last) (is_from last) (is_below last) (is_to last) other in
        all_four (is_above z) (is_from z) (is_below z) (is_to z) (above-up l.above first z low p.0) (from-up l.from first z low p.1) (below-down l.below z last high q.2) (to-down l.to z last high q.3)

    -- where one passes, the last is above the lower limits and the first below the upper ones
    pub reached : is_within (limits_view l) (long z) ≡ true → (is_above last ≡ true) × (is_from last ≡ true) × (is_below first ≡ true) × (is_to first ≡ true)
    reached is =
        let p = each_four (is_above z) (is_from z) (is_below z) (is_to z) is in
        (above-up l.above z last high p.0, from-up l.from z last high p.1, below-down l.below first z low p.2, to-down l.to first z low p.3)

-- ---- places of numbers

pub marked-append : (ms : List Bool) (ps qs : List ℕ) → marked ms (ps ++ qs) ≡ marked (marked ms ps) qs
marked-append ms [] qs = refl
marked-append ms (p ∷ ps) qs = marked-append (slice_set ms p true) ps qs

pub length-marked : (ms : List Bool) (ps : List ℕ) → length (marked ms ps) ≡ length ms
length-marked ms [] = refl
length-marked ms (p ∷ ps) = length-marked (slice_set ms p true) ps ∙ length-set ms p true

hits-append : (q : ℤ → Bool) (ms ns : List Number) → hits q (ms ++ ns) ≡ hits q ms ++ hits q ns
hits-append q ms ns = ap places_of (filter-append (λ (n : Number). q n.value) ms ns) ∙ map-append (λ (n : Number). n.place) (filter (λ (n : Number). q n.value) ms) (filter (λ (n : Number). q n.value) ns)

-- one number more
pub hits-more : (q : ℤ → Bool) (ns : List Number) (i : ℕ) (d : Number) → i < length ns → (passes : Bool) → passes ≡ q (get_or ns i d).value → (old ms : List Bool) → ms ≡ marked old (hits q (take i ns))
    → marked ms (if passes then (get_or ns i d).place ∷ [] else []) ≡ marked old (hits q (take (i + 1) ns))
hits-more q ns i d lt passes is old ms before =
    ap (λ bs. marked bs (if passes then (get_or ns i d).place ∷ [] else [])) before
    ∙ ap (λ b. marked (marked old (hits q (take i ns))) (if b then (get_or ns i d).place ∷ [] else [])) is
    ∙ ap (marked (marked old (hits q (take i ns)))) (one (q (get_or ns i d).value))
    ∙ sym (marked-append old (hits q (take i ns)) (hits q (get_or ns i d ∷ [])))
    ∙ ap (marked old) (sym (hits-append q (take i ns) (get_or ns i d ∷ [])) ∙ ap (hits q) (sym (take_more ns i d lt)))
  where
    one : (b : Bool) → (if b then (get_or ns i d).place ∷ [] else []) ≡ places_of (cond b (get_or ns i d ∷ []) [])
    one true = refl
    one false = refl

module _ (q : ℤ → Bool) where
  keep : (b : Bool) (n : Number) (ns kept : List Number) → b ≡ true → kept ≡ ns → cond b (n ∷ kept) kept ≡ n ∷ ns
  keep true n ns kept is same = ap (λ ks. n ∷ ks) same
  keep false n ns kept is same = absurd (true≢false (sym is))

  -- where all pass
  pub hits-all : (ns : List Number) → All (λ n. q n.value ≡ true) ns → hits q ns ≡ places_of ns
  hits-all ns all = ap places_of (kept ns all)
    where
      kept : (ns : List Number) → All (λ n. q n.value ≡ true) ns → filter (λ (n : Number). q n.value) ns ≡ ns
      kept [] all = refl
      kept (n ∷ ns) all = keep (q n.value) n ns _ (All-head (λ (n : Number). q n.value ≡ true) n ns all) (kept ns (All-tail (λ (n : Number). q n.value ≡ true) n ns all))

  drop_it : (b : Bool) (n : Number) (kept : List Number) → b ≡ false → cond b (n ∷ kept) kept ≡ kept
  drop_it true n kept is = absurd (true≢false is)
  drop_it false n kept is = refl

  -- where none passes
  pub hits-none : (ns : List Number) → All (λ n. q n.value ≡ false) ns → hits q ns ≡ []
  hits-none ns all = ap places_of (kept ns all)
    where
      kept : (ns : List Number) → All (λ n. q n.value ≡ false) ns → filter (λ (n : Number). q n.value) ns ≡ []
      kept [] all = refl
      kept (n ∷ ns) all = drop_it (q n.value) n _ (All-head (λ (n : Number). q n.value ≡ false) n ns all) ∙ kept ns (All-tail (λ (n : Number). q n.value ≡ false) n ns all)

-- ---- the marks of a block added

or-true : (a : Bool) → (a || true) ≡ true
or-true true = refl
or-true false = refl

or-false : (a : Bool) → (a || false) ≡ a
or-false true = refl
or-false false = refl

unite-set : (ms bs : List Bool) (p : ℕ) → zip_with (λ a b. a || b) ms (slice_set bs p true) ≡ slice_set (zip_with (λ a b. a || b) ms bs) p true
unite-set [] bs zero = refl
unite-set [] bs (suc p) = refl
unite-set (m ∷ ms) [] zero = refl
unite-set (m ∷ ms) [] (suc p) = refl
unite-set (m ∷ ms) (b ∷ bs) zero = ap (λ c. c ∷ zip_with (λ a b. a || b) ms bs) (or-true m)
unite-set (m ∷ ms) (b ∷ bs) (suc p) = ap (λ cs. (m || b) ∷ cs) (unite-set ms bs p)

unite-marked : (ms bs : List Bool) (ps : List ℕ) → zip_with (λ a b. a || b) ms (marked bs ps) ≡ marked (zip_with (λ a b. a || b) ms bs) ps
unite-marked ms bs [] = refl
unite-marked ms bs (p ∷ ps) = unite-marked ms (slice_set bs p true) ps ∙ ap (λ cs. marked cs ps) (unite-set ms bs p)

unite-none : (ms : List Bool) → zip_with (λ a b. a || b) ms (replicate (length ms) false) ≡ ms
unite-none [] = refl
unite-none (m ∷ ms) = ap (λ c. c ∷ zip_with (λ a b. a || b) ms (replicate (length ms) false)) (or-false m) ∙ ap (λ cs. m ∷ cs) (unite-none ms)

-- a block's marks are as many as the documents
pub block-length : (n : ℕ) (b : Block) → IsBlock n b → length b.marks ≡ n
block-length n b is = ap length is.marks ∙ length-marked (replicate n false) (places_of b.numbers.items) ∙ length-replicate n false

module _ (l : Limits) (old : List Bool) (b : Block) (is : IsBlock (length old) b) where
  abbrev passes : ℤ → Bool
  passes z = is_within (limits_view l) (long z)

  -- a block that passes whole
  pub block-whole : passes b.first ≡ true → passes b.last ≡ true → zip_with (λ a b. a || b) old b.marks ≡ marked old (hits passes b.numbers.items)
  block-whole one other =
      ap (zip_with (λ a b. a || b) old) is.marks ∙ unite-marked old (replicate (length old) false) (places_of b.numbers.items)
      ∙ ap (λ ms. marked ms (places_of b.numbers.items)) (unite-none old)
      ∙ ap (marked old) (sym (hits-all passes b.numbers.items (λ k d lt. between l b.first b.last _ (is.first k d lt) (is.last k d lt) one other)))

  none_passes : (z : ℤ) → ((passes z ≡ true) → ⊥) → passes z ≡ false
  none_passes z isnt = by_test (passes z) refl
    where
      by_test : (t : Bool) → passes z ≡ t → t ≡ false
      by_test true here = absurd (isnt here)
      by_test false here = refl

  -- a block of which no number passes
  pub block-none : (may : Bool) → may ≡ false → ((z : ℤ) → b.first ≤ℤ z → z ≤ℤ b.last → passes z ≡ true → may ≡ true) → old ≡ marked old (hits passes b.numbers.items)
  block-none may isnt says =
      ap (marked old) (sym (hits-none passes b.numbers.items (λ k d lt. none_passes _ (λ here. true≢false (sym (says _ (is.first k d lt) (is.last k d lt) here) ∙ isnt)))))

-- ---- a block with one number more

places_of-numbered : (z : ℤ) (ps : List ℕ) → places_of (numbered z ps) ≡ ps
places_of-numbered z [] = refl
places_of-numbered z (p ∷ ps) = ap (λ qs. p ∷ qs) (places_of-numbered z ps)

pub IsBlock-more : (n : ℕ) (b c : Block) (z : ℤ) (ps : List ℕ) → IsBlock n b → All (λ p. p < n) ps → c.numbers.items ≡ b.numbers.items ++ numbered z ps
    → c.first ≤ℤ b.first → c.first ≤ℤ z → b.last ≤ℤ c.last → z ≤ℤ c.last → c.marks ≡ marked b.marks ps → IsBlock n c
IsBlock-more n b c z ps is there items low low_here high high_here marks = record {
  first = grown (λ (k : Number). c.first ≤ℤ k.value) (λ k d lt. let before = is.first k d lt in omega (arith, ints)) (λ k d lt. low_here);
  last = grown (λ (k : Number). k.value ≤ℤ c.last) (λ k d lt. let before = is.last k d lt in omega (arith, ints)) (λ k d lt. high_here);
  there = grown (λ (k : Number). k.place < n) is.there there;
  marks = marks ∙ ap (λ ms. marked ms ps) is.marks ∙ sym (marked-append (replicate n false) (places_of b.numbers.items) ps)
      ∙ ap (marked (replicate n false)) (sym (ap places_of items ∙ map-append (λ (k : Number). k.place) b.numbers.items (numbered z ps) ∙ ap (λ qs. places_of b.numbers.items ++ qs) (places_of-numbered z ps)));
}
  where
    grown : (P : Number → Type 0) → All P b.numbers.items → All (λ p. P (record { value = z; place = p })) ps → All P c.numbers.items
    grown P one more = subst (λ ks. All P ks) (sym items) (All-append P b.numbers.items (numbered z ps) one (All-map P (λ p. record { value = z; place = p }) ps more))

-- one key more in the open block
pub listed-more : (bs : List Block) (ns : List Number) (seen : List (ℤ × Places)) (e : ℤ × Places) → numbers_of bs ++ ns ≡ listed seen → numbers_of bs ++ (ns ++ numbered e.0 (as_list e.1)) ≡ listed (seen ++ e ∷ [])
listed-more bs ns seen e before =
    sym (append_assoc (numbers_of bs) ns (numbered e.0 (as_list e.1))) ∙ ap (λ ks. ks ++ numbered e.0 (as_list e.1)) before
    ∙ ap (λ ks. listed seen ++ ks) (sym (append-nil (numbered e.0 (as_list e.1))))
    ∙ sym (flat_map-append (λ (f : ℤ × Places). numbered f.0 (as_list f.1)) seen (e ∷ []))

-- at the end the open block is one of them
pub AreBlocks-all : (n : ℕ) (longs : BTreeMap ℤ Places) (bs cs : List Block) (b : Block) → tree.IsOrdered int_cmp longs → All (IsBlock n) bs → IsBlock n b → cs ≡ bs ++ b ∷ [] → numbers_of bs ++ b.numbers.items ≡ listed longs.entries → AreBlocks n longs cs
AreBlocks-all n longs bs cs b ordered are is items all = record {
  each = subst (λ ds. All (IsBlock n) ds) (sym items) (All-push (IsBlock n) bs b are is);
  ordered = λ lt. ordered;
  all = λ lt. ap numbers_of items ∙ flat_map-append (λ (d : Block). d.numbers.items) bs (b ∷ []) ∙ ap (λ ns. numbers_of bs ++ ns) (append-nil b.numbers.items) ∙ all;
}

-- ---- all numbers

module _ (m : MappingData) (name : List ℕ) (test : Scalar → Bool) where
  some_of : (b : Bool) (z : ℤ) (ps : List ℕ) → test (long z) ≡ b → hits (λ y. test (long y)) (numbered z ps) ≡ (if b then ps else [])
  some_of true z ps is = hits-all (λ y. test (long y)) (numbered z ps) (All-map (λ (n : Number). test (long n.value) ≡ true) (λ p. record { value = z; place = p }) ps (λ k d lt. is)) ∙ places_of-numbered z ps
  some_of false z ps is = hits-none (λ y. test (long y)) (numbered z ps) (All-map (λ (n : Number). test (long n.value) ≡ false) (λ p. record { value = z; place = p }) ps (λ k d lt. is))

  -- the entry of a number has the places of its documents
  abbrev IsRight : List (List ℕ) → ℤ × Places → Type 0
  IsRight sources e = as_list e.1 ≡ places (has_term m.fields name (long e.0)) (map (all_values m) sources)

  -- the documents of each number of a dictionary that passes are marked
  marked-listed : (es : List (ℤ × Places)) (old : List Bool) (sources : List (List ℕ)) → length old ≡ length sources
      → All (IsRight sources) es
      → marked old (hits (λ z. test (long z)) (listed es)) ≡ so_far (long_hit m name test) old sources es
  marked-listed [] old sources same right = sym (or-end old sources same)
  marked-listed (e ∷ es) old sources same right =
      let q = λ (z : ℤ). test (long z) in
      let once = λ (s : List ℕ). test (long e.0) && has_term m.fields name (long e.0) (all_values m s) in
      let first : marked old (if test (long e.0) then as_list e.1 else []) ≡ zip_with (λ b s. b || once s) old sources = marked-if m old sources same old same (test (long e.0)) (has_term m.fields name (long e.0)) (as_list e.1) (All-head (IsRight sources) e es right) in
      ap (marked old) (hits-append q (numbered e.0 (as_list e.1)) (listed es)) ∙ marked-append old (hits q (numbered e.0 (as_list e.1))) (hits q (listed es))
      ∙ ap (λ ps. marked (marked old ps) (hits q (listed es))) (some_of (test (long e.0)) e.0 (as_list e.1) refl)
      ∙ ap (λ ms. marked ms (hits q (listed es))) first
      ∙ marked-listed es (zip_with (λ b s. b || once s) old sources) sources (length-zip (λ b s. b || once s) old sources same) (All-tail (IsRight sources) e es right)
      ∙ or-more once (λ s. list_any (λ e. long_hit m name test e s) es) old sources

  kept : (es : List (ℤ × Places)) → filter (λ e. true) es ≡ es
  kept [] = refl
  kept (e ∷ es) = ap (λ fs. e ∷ fs) (kept es)

  -- the numbers of all blocks that pass mark the documents that have one
  pub blocks-end : (longs : BTreeMap ℤ Places) → tree.IsOrdered int_cmp longs → (old : List Bool) (sources : List (List ℕ)) → length old ≡ length sources
      → ((z : ℤ) → places_at_long longs z ≡ places (has_term m.fields name (long z)) (map (all_values m) sources))
      → marked old (hits (λ z. test (long z)) (listed longs.entries)) ≡ zip_with (λ b s. b || list_any (λ t. is_long t && test t) (terms_at m.fields (all_values m s) name)) old sources
  blocks-end longs ordered old sources same index =
      marked-listed longs.entries old sources same (λ k d lt. ap (λ o. option_map_or as_list o []) (sym (All-found int_cmp_total longs ordered k d lt)) ∙ index _)
      ∙ ap (so_far (long_hit m name test) old sources) (sym (kept longs.entries))
      ∙ longs-end m old sources same name test longs.entries (λ z. true) (λ z is. refl) index

-- one block more
pub blocks-more : (q : ℤ → Bool) (bs : List Block) (i : ℕ) (b : Block) → i < length bs → b ≡ get_or bs i b → (old ms : List Bool) → ms ≡ marked old (hits q (numbers_of (take i bs)))
    → marked ms (hits q b.numbers.items) ≡ marked old (hits q (numbers_of (take (i + 1) bs)))
blocks-more q bs i b lt here old ms before =
    ap (λ cs. marked cs (hits q b.numbers.items)) before ∙ sym (marked-append old (hits q (numbers_of (take i bs))) (hits q b.numbers.items))
    ∙ ap (marked old) (sym (hits-append q (numbers_of (take i bs)) b.numbers.items))
    ∙ ap (λ ns. marked old (hits q (numbers_of (take i bs) ++ ns))) (sym (append-nil b.numbers.items))
    ∙ ap (λ ns. marked old (hits q ns)) (sym (flat_map-append (λ (c : Block). c.numbers.items) (take i bs) (b ∷ [])))
    ∙ ap (λ cs. marked old (hits q (numbers_of cs))) (ap (λ c. take i bs ++ c ∷ []) here ∙ sym (take_more bs i b lt))
