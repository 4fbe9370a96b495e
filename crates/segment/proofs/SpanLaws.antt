-- A span goes forward, and has all keys within the bounds.
use Rattle.std.proofs.Common.{◌≡◌, ℤ, Bool, true, false, not, ◌&&◌, refl, sym, ap, ◌∙◌, subst, true≢false, Option, Some, None, option_map, Ordering, String, Global, string_bytes, int_lt, if◌then◌else◌, cond}
use Rattle.std.specs.BTreeMap.Range.{range_contains, is_from_start, is_past_end, IsLeBy, IsLtBy}
use Rattle.std.specs.Cmp.{IsTotalOrder}
use Rattle.std.specs.Option.{option_or}
use Rattle.std.specs.Ordering.{is_lt, is_le, is_gt, int_cmp, ordering_reverse}
use Rattle.std.specs.Range.Bound.{IsForward}
use Rattle.std.specs.String.{string_cmp, string_cmp_total}
use Rattle.std.specs.declared.cmp.Ordering.TheVariants.{Less, Equal, Greater}
use Rattle.std.specs.declared.ops.Bound.{Bound}
use Rattle.std.proofs.lemmas.Cmp.{int_cmp_total, tied_itself, upto}
use Rattle.doc.specs.Scalar.{text, long}
use Rattle.doc.specs.ScalarView.{scalar_view}
use Rattle.doc.specs.declared.scalar.Scalar.{Scalar}
use Rattle.doc.specs.declared.scalar.Scalar.TheVariants.{Text, Long, Flag}
use Rattle.analysis.specs.Terms.{is_within, is_less, meets}
use Rattle.analysis.specs.BoundsView.{bounds_view}
use Rattle.analysis.specs.declared.bounds.Bounds.{Bounds}
use Rattle.segment.specs.Spans.{number_in, text_in, span_start, span_end, is_less_text}

gt_back : (o : Ordering) → is_gt (ordering_reverse o) ≡ is_lt o
gt_back Less = refl
gt_back Equal = refl
gt_back Greater = refl

lt_back : (o : Ordering) → is_le o ≡ true → is_lt (ordering_reverse o) ≡ false
lt_back Less is = refl
lt_back Equal is = refl
lt_back Greater is = absurd (true≢false (sym is))

le_back : (o : Ordering) → not (is_lt o) ≡ true → is_le (ordering_reverse o) ≡ true
le_back Less is = absurd (true≢false (sym is))
le_back Equal is = refl
le_back Greater is = refl

le_less : (o : Ordering) → is_lt o ≡ true → is_le o ≡ true
le_less Less is = refl
le_less Equal is = absurd (true≢false (sym is))
le_less Greater is = absurd (true≢false (sym is))

gt_from_le : (o : Ordering) → is_le o ≡ true → is_gt o ≡ false
gt_from_le Less is = refl
gt_from_le Equal is = refl
gt_from_le Greater is = absurd (true≢false (sym is))

both : (a b : Bool) → a ≡ true → b ≡ false → (a && not b) ≡ true
both a b is isnt = ap (λ c. c && not b) is ∙ ap not isnt

pub left : (a b : Bool) → (a && b) ≡ true → a ≡ true
left true b is = refl
left false b is = is

pub right : (a b : Bool) → (a && b) ≡ true → b ≡ true
right true b is = is
right false b is = absurd (true≢false (sym is))

module _ {K : Type 0} (R : K → K → Ordering) (total : IsTotalOrder R) (less : K → K → Bool) (less_is : (a b : K) → less a b ≡ is_lt (R a b)) where
  -- a key isn't below the low end, or above the high one
  abbrev pub at_least : Option K → K → Bool
  at_least None k = true
  at_least (Some a) k = is_le (R a k)

  abbrev pub at_most : Option K → K → Bool
  at_most None k = true
  at_most (Some b) k = is_le (R k b)

  pub not_below : (n k : K) → not (less k n) ≡ true → is_le (R n k) ≡ true
  not_below n k is = ap is_le (total.antisymm n k) ∙ le_back (R k n) (ap not (sym (less_is k n)) ∙ is)

  pub above : (n k : K) → less n k ≡ true → is_le (R n k) ≡ true
  above n k is = le_less (R n k) (sym (less_is n k) ∙ is)

  pub least-or : (p q : Option K) (k : K) → at_least p k ≡ true → at_least q k ≡ true → at_least (option_or p q) k ≡ true
  least-or None q k one other = other
  least-or (Some a) q k one other = one

  pub most-or : (p q : Option K) (k : K) → at_most p k ≡ true → at_most q k ≡ true → at_most (option_or p q) k ≡ true
  most-or None q k one other = other
  most-or (Some a) q k one other = one

  ordered : (a b : K) (t : Bool) → less b a ≡ t → is_gt (R a (if t then a else b)) ≡ false
  ordered a b true is = ap is_gt (tied_itself total a)
  ordered a b false is = ap is_gt (total.antisymm a b) ∙ gt_back (R b a) ∙ sym (less_is b a) ∙ is

  goes_on : (low high : Option K) → IsForward (IsLeBy R) (IsLtBy R) (span_start low) (span_end less low high)
  goes_on None None = tt
  goes_on None (Some b) = tt
  goes_on (Some a) None = tt
  goes_on (Some a) (Some b) = ordered a b (less b a) refl

  pub forward : (low high : Option K) (lo hi : Bound K) → lo ≡ span_start low → hi ≡ span_end less low high → IsForward (IsLeBy R) (IsLtBy R) lo hi
  forward low high lo hi start end = subst (λ l. IsForward (IsLeBy R) (IsLtBy R) l hi) (sym start) (subst (λ h. IsForward (IsLeBy R) (IsLtBy R) (span_start low) h) (sym end) (goes_on low high))

  begins : (low : Option K) (k : K) → at_least low k ≡ true → is_from_start R (span_start low) k ≡ true
  begins None k is = refl
  begins (Some a) k is = is

  not_past : (a b k : K) (t : Bool) → less b a ≡ t → is_le (R a k) ≡ true → is_le (R k b) ≡ true → is_lt (R (if t then a else b) k) ≡ false
  not_past a b k true is from to = absurd (true≢false (sym (gt_back (R b a) ∙ sym (less_is b a) ∙ is) ∙ ap is_gt (sym (total.antisymm a b)) ∙ upto total a k b (gt_from_le (R a k) from) (gt_from_le (R k b) to)))
  not_past a b k false is from to = ap is_lt (total.antisymm b k) ∙ lt_back (R k b) to

  ends : (low high : Option K) (k : K) → at_least low k ≡ true → at_most high k ≡ true → is_past_end R (span_end less low high) k ≡ false
  ends None None k from to = refl
  ends None (Some b) k from to = ap is_lt (total.antisymm b k) ∙ lt_back (R k b) to
  ends (Some a) None k from to = refl
  ends (Some a) (Some b) k from to = not_past a b k (less b a) refl from to

  pub wide : (low high : Option K) (lo hi : Bound K) → lo ≡ span_start low → hi ≡ span_end less low high → (k : K) → at_least low k ≡ true → at_most high k ≡ true → range_contains R lo hi k ≡ true
  wide low high lo hi start end k from to =
      ap (λ l. range_contains R l hi k) start ∙ ap (λ h. range_contains R (span_start low) h k) end
      ∙ both (is_from_start R (span_start low) k) (is_past_end R (span_end less low high) k) (begins low k from) (ends low high k from to)

-- ---- numbers

pub less_is_int : (a b : ℤ) → int_lt a b ≡ is_lt (int_cmp a b)
less_is_int a b = by (int_lt a b) (int_lt b a)
  where
    by : (p q : Bool) → p ≡ is_lt (cond p Less (cond q Greater Equal))
    by true q = refl
    by false true = refl
    by false false = refl

abbrev least_long : Option ℤ → ℤ → Bool
least_long low z = at_least int_cmp int_cmp_total int_lt less_is_int low z

abbrev most_long : Option ℤ → ℤ → Bool
most_long high z = at_most int_cmp int_cmp_total int_lt less_is_int high z

gte_long : (o : Option Scalar) (z : ℤ) → meets (option_map scalar_view o) (λ v. not (is_less (long z) v)) ≡ true → least_long (number_in o) z ≡ true
gte_long None z is = refl
gte_long (Some (Text s)) z is = refl
gte_long (Some (Long n)) z is = not_below int_cmp int_cmp_total int_lt less_is_int n z is
gte_long (Some (Flag b)) z is = refl

gt_long : (o : Option Scalar) (z : ℤ) → meets (option_map scalar_view o) (λ v. is_less v (long z)) ≡ true → least_long (number_in o) z ≡ true
gt_long None z is = refl
gt_long (Some (Text s)) z is = refl
gt_long (Some (Long n)) z is = above int_cmp int_cmp_total int_lt less_is_int n z is
gt_long (Some (Flag b)) z is = refl

lte_long : (o : Option Scalar) (z : ℤ) → meets (option_map scalar_view o) (λ v. not (is_less v (long z))) ≡ true → most_long (number_in o) z ≡ true
lte_long None z is = refl
lte_long (Some (Text s)) z is = refl
lte_long (Some (Long n)) z is = not_below int_cmp int_cmp_total int_lt less_is_int z n is
lte_long (Some (Flag b)) z is = refl

lt_long : (o : Option Scalar) (z : ℤ) → meets (option_map scalar_view o) (λ v. is_less (long z) v) ≡ true → most_long (number_in o) z ≡ true
lt_long None z is = refl
lt_long (Some (Text s)) z is = refl
lt_long (Some (Long n)) z is = above int_cmp int_cmp_total int_lt less_is_int z n is
lt_long (Some (Flag b)) z is = refl

pub wide_longs : (b : Bounds) (low high : Option ℤ) (lo hi : Bound ℤ) → low ≡ option_or (number_in b.gte) (number_in b.gt) → high ≡ option_or (number_in b.lte) (number_in b.lt) → lo ≡ span_start low → hi ≡ span_end int_lt low high
    → (z : ℤ) → is_within (bounds_view b) (long z) ≡ true → range_contains int_cmp lo hi z ≡ true
wide_longs b low high lo hi low_is high_is start end z is =
    let three = left _ _ is in
    let two = left _ _ three in
    wide int_cmp int_cmp_total int_lt less_is_int low high lo hi start end z
    (ap (λ o. least_long o z) low_is ∙ least-or int_cmp int_cmp_total int_lt less_is_int (number_in b.gte) (number_in b.gt) z (gte_long b.gte z (right _ _ two)) (gt_long b.gt z (left _ _ two)))
    (ap (λ o. most_long o z) high_is ∙ most-or int_cmp int_cmp_total int_lt less_is_int (number_in b.lte) (number_in b.lt) z (lte_long b.lte z (right _ _ is)) (lt_long b.lt z (right _ _ three)))

-- ---- texts

pub less_is_text : (s t : String Global) → is_less_text s t ≡ is_lt (string_cmp s t)
less_is_text s t = refl

abbrev least_text : Option (String Global) → String Global → Bool
least_text low k = at_least string_cmp string_cmp_total is_less_text less_is_text low k

abbrev most_text : Option (String Global) → String Global → Bool
most_text high k = at_most string_cmp string_cmp_total is_less_text less_is_text high k

gte_text : (o : Option Scalar) (k : String Global) → meets (option_map scalar_view o) (λ v. not (is_less (text (string_bytes k)) v)) ≡ true → least_text (text_in o) k ≡ true
gte_text None k is = refl
gte_text (Some (Text s)) k is = not_below string_cmp string_cmp_total is_less_text less_is_text s k is
gte_text (Some (Long n)) k is = refl
gte_text (Some (Flag b)) k is = refl

gt_text : (o : Option Scalar) (k : String Global) → meets (option_map scalar_view o) (λ v. is_less v (text (string_bytes k))) ≡ true → least_text (text_in o) k ≡ true
gt_text None k is = refl
gt_text (Some (Text s)) k is = above string_cmp string_cmp_total is_less_text less_is_text s k is
gt_text (Some (Long n)) k is = refl
gt_text (Some (Flag b)) k is = refl

lte_text : (o : Option Scalar) (k : String Global) → meets (option_map scalar_view o) (λ v. not (is_less v (text (string_bytes k)))) ≡ true → most_text (text_in o) k ≡ true
lte_text None k is = refl
lte_text (Some (Text s)) k is = not_below string_cmp string_cmp_total is_less_text less_is_text k s is
lte_text (Some (Long n)) k is = refl
lte_text (Some (Flag b)) k is = refl

lt_text : (o : Option Scalar) (k : String Global) → meets (option_map scalar_view o) (λ v. is_less (text (string_bytes k)) v) ≡ true → most_text (text_in o) k ≡ true
lt_text None k is = refl
lt_text (Some (Text s)) k is = above string_cmp string_cmp_total is_less_text less_is_text k s is
lt_text (Some (Long n)) k is = refl
lt_text (Some (Flag b)) k is = refl

pub wide_texts : (b : Bounds) (low high : Option (String Global)) (lo hi : Bound (String Global)) → low ≡ option_or (text_in b.gte) (text_in b.gt) → high ≡ option_or (text_in b.lte) (text_in b.lt) → lo ≡ span_start low → hi ≡ span_end is_less_text low high
    → (k : String Global) → is_within (bounds_view b) (text (string_bytes k)) ≡ true → range_contains string_cmp lo hi k ≡ true
wide_texts b low high lo hi low_is high_is start end k is =
    let three = left _ _ is in
    let two = left _ _ three in
    wide string_cmp string_cmp_total is_less_text less_is_text low high lo hi start end k
    (ap (λ o. least_text o k) low_is ∙ least-or string_cmp string_cmp_total is_less_text less_is_text (text_in b.gte) (text_in b.gt) k (gte_text b.gte k (right _ _ two)) (gt_text b.gt k (left _ _ two)))
    (ap (λ o. most_text o k) high_is ∙ most-or string_cmp string_cmp_total is_less_text less_is_text (text_in b.lte) (text_in b.lt) k (lte_text b.lte k (right _ _ is)) (lt_text b.lt k (right _ _ three)))
