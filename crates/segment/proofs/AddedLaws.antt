-- The columns in the making with one more document.
use Rattle.std.proofs.Common.{◌≡◌, ◌<◌, ℕ, ℤ, suc, Bool, true, false, ◌||◌, List, [], ◌∷◌, ◌++◌, length, replicate, refl, sym, ap, ◌∙◌, subst, arith, nat_lt, if◌then◌else◌, Option, Some, None, All, String, Box, Global, BTreeMap, option_map}
use Rattle.std.specs.Prelude.{IfSome}
use Rattle.std.specs.BTreeMap as tree
use Rattle.std.specs.Map.{update}
use Rattle.std.specs.Str.{bytes_eq}
use Rattle.std.specs.Cmp.Lexicographic.{bytes_decides}
use Rattle.std.proofs.lemmas.Bool.Decides.{nat_tests}
use Rattle.std.proofs.lemmas.List.{length-replicate}
use Rattle.std.proofs.lemmas.List.Elements.{All-push}
use Rattle.doc.specs.Fields.{Fields, kind_at}
use Rattle.doc.specs.Scalar.{Scalar, text, long, flag}
use Rattle.doc.specs.declared.mapping.Kind.{Kind}
use Rattle.doc.specs.Document.{Values, values_at}
use Rattle.analysis.specs.Terms.{terms_by}
use Rattle.marks.specs.Lists.{marked}
use Rattle.segment.specs.Added.{making_at, IsAdded, IsAddedOr, AreAdded, IsLong, AreLong, HaveFewPlaces, AreFinished, IsFinishedOr}
use Rattle.segment.specs.Indexed.{has_term, has_value, column_at, IsColumnOr}
use Rattle.segment.specs.Joined.{AreMakings, IsColumnOf, IsMakingOr}
use Rattle.segment.specs.Posted.{IsPosted, IsRoomFor, IsEmptyMaking, places_so_far_long, set_if}
use Rattle.segment.specs.declared.column.Column.{Column}
use Rattle.segment.specs.declared.making.Making.{Making}
use Rattle.segment.proofs.BuiltLaws.{IsColumnOf-all, IsColumnOf-empty, document-more, length-has, length-yes, length-no, number-places}
use Rattle.segment.proofs.Columns.{no_terms, none_text, none_value, places-none}
use Rattle.segment.proofs.PostedLaws.{IsPosted-none, IsPosted-trans, length-set_if, set_if-twice, terms_by-append, values_at-append}

all_terms : (k : Option Kind) (vs us : List Scalar) → terms_by k (vs ++ us) ≡ terms_by k vs ++ terms_by k us
all_terms None vs us = refl
all_terms (Some k) vs us = terms_by-append k vs us

is_above : (n : ℕ) → nat_lt 0 (suc n) ≡ true
is_above n = grind (arith, nat_tests)

some_values : (vs us : List Scalar) → (nat_lt 0 (length vs) || nat_lt 0 (length us)) ≡ nat_lt 0 (length (vs ++ us))
some_values [] us = refl
some_values (v ∷ vs) us = ap (λ b. b || nat_lt 0 (length us)) (is_above (length vs)) ∙ sym (is_above (length (vs ++ us)))

-- ---- one column

pub added-none : (k : Option Kind) (at : ℕ) (m : Making) → IsAdded k [] at m m
added-none k at m = record { posted = subst (λ ts. IsPosted ts at m m) (sym (no_terms k)) (IsPosted-none at m); has = refl }

with_has : (ts : List Scalar) (at : ℕ) (b c : Making) (h : List Bool) → IsPosted ts at b (record c { has = b.has }) → IsPosted ts at (record b { has = h }) (record c { has = h })
with_has ts at b c h p = record { texts = p.texts; longs = p.longs; yes = p.yes; no = p.no; has = refl }

pub added-trans : (k : Option Kind) (vs us : List Scalar) (at : ℕ) (a b c : Making) → IsAdded k vs at a b → IsAdded k us at b c → IsAdded k (vs ++ us) at a c
added-trans k vs us at a b c p q = record {
  posted = subst (λ ts. IsPosted ts at a (record c { has = a.has })) (sym (all_terms k vs us))
      (IsPosted-trans (terms_by k vs) (terms_by k us) at a (record b { has = a.has }) (record c { has = a.has }) p.posted (with_has (terms_by k us) at b c a.has q.posted));
  has = q.has ∙ ap (set_if (nat_lt 0 (length us)) at) p.has ∙ set_if-twice (nat_lt 0 (length vs)) (nat_lt 0 (length us)) at a.has ∙ ap (λ b. set_if b at a.has) (some_values vs us);
}

pub long-added : (n : ℕ) (k : Option Kind) (vs : List Scalar) (at : ℕ) (a b : Making) → IsAdded k vs at a b → IsLong n a → IsLong n b
long-added n k vs at a b p marks = record {
  has = ap length p.has ∙ length-set_if (nat_lt 0 (length vs)) at a.has ∙ marks.has;
  yes = ap length p.posted.yes ∙ length-set_if _ at a.yes ∙ marks.yes;
  no = ap length p.posted.no ∙ length-set_if _ at a.no ∙ marks.no;
}

pub long-empty : (n : ℕ) (m : Making) → IsEmptyMaking n m → IsLong n m
long-empty n m none = record { has = ap length none.has ∙ length-replicate n false; yes = ap length none.yes ∙ length-replicate n false; no = ap length none.no ∙ length-replicate n false }

pub room : (n at : ℕ) (m : Making) → at < n → IsLong n m → IsRoomFor at m
room n at m within marks = record { yes = omega (arith, within, marks.yes); no = omega (arith, within, marks.no) }

-- ---- a column or none

pub added_or-none : (n : ℕ) (k : Option Kind) (at : ℕ) (o : Option Making) → IsAddedOr n k [] at o o
added_or-none n k at None = refl
added_or-none n k at (Some m) = added-none k at m

pub added_or-trans : (n : ℕ) (k : Option Kind) (vs us : List Scalar) (at : ℕ) (a b c : Option Making) → IsAddedOr n k vs at a b → IsAddedOr n k us at b c → IsAddedOr n k (vs ++ us) at a c
added_or-trans n k vs us at None None None p q = ap (λ ws. ws ++ us) p ∙ q
added_or-trans n k vs us at None None (Some c) p q = record { empty = q.empty; none = q.none; added = subst (λ ws. IsAdded k ws at q.empty c) (ap (λ ws. ws ++ us) (sym p)) q.added }
added_or-trans n k vs us at None (Some b) None p q = absurd q
added_or-trans n k vs us at None (Some b) (Some c) p q = record { empty = p.empty; none = p.none; added = added-trans k vs us at p.empty b c p.added q }
added_or-trans n k vs us at (Some a) None c p q = absurd p
added_or-trans n k vs us at (Some a) (Some b) None p q = absurd q
added_or-trans n k vs us at (Some a) (Some b) (Some c) p q = added-trans k vs us at a b c p q

long_or : (n : ℕ) (k : Option Kind) (vs : List Scalar) (at : ℕ) (a b : Option Making) → IsAddedOr n k vs at a b → IfSome a (IsLong n) → IfSome b (IsLong n)
long_or n k vs at None None p marks = tt
long_or n k vs at None (Some b) p marks = long-added n k vs at p.empty b p.added (long-empty n p.empty p.none)
long_or n k vs at (Some a) None p marks = absurd p
long_or n k vs at (Some a) (Some b) p marks = long-added n k vs at a b p marks

abbrev pub Makings : Type 0
Makings = BTreeMap (String Global) (Box Making Global)

-- ---- all columns

pub are_added-none : (fields : Fields) (n at : ℕ) (ms : Makings) → AreAdded fields n [] at ms ms
are_added-none fields n at ms = λ w. added_or-none n (kind_at w fields) at (making_at ms w)

pub are_added-more : (fields : Fields) (n : ℕ) (fs : Values) (f : List ℕ × List Scalar) (at : ℕ) (a b c : Makings) → AreAdded fields n fs at a b → AreAdded fields n (f ∷ []) at b c → AreAdded fields n (fs ++ f ∷ []) at a c
are_added-more fields n fs f at a b c p q = λ w.
    subst (λ vs. IsAddedOr n (kind_at w fields) vs at (making_at a w) (making_at c w)) (sym (values_at-append w fs (f ∷ [])))
    (added_or-trans n (kind_at w fields) (values_at w fs) (values_at w (f ∷ [])) at (making_at a w) (making_at b w) (making_at c w) (p w) (q w))

pub are_long-added : (fields : Fields) (n : ℕ) (d : Values) (at : ℕ) (a b : Makings) → AreAdded fields n d at a b → AreLong n a → AreLong n b
are_long-added fields n d at a b p marks = λ w. long_or n (kind_at w fields) (values_at w d) at (making_at a w) (making_at b w) (p w) (marks w)

append_nil : (vs : List Scalar) → vs ++ [] ≡ vs
append_nil [] = refl
append_nil (v ∷ vs) = ap (λ us. v ∷ us) (append_nil vs)

-- one field's column is new or has more, and the others stay
module _ (fields : Fields) (n at : ℕ) (name : List ℕ) (vs : List Scalar) (a b : Makings) (m : Box Making Global)
    (sets : (w : List ℕ) → tree.get_by_text b w ≡ update bytes_eq (tree.get_by_text a) name (Some m) w)
    (added : IsAddedOr n (kind_at name fields) vs at (making_at a name) (Some m.value)) where
  field_at : (w : List ℕ) (t : Bool) → bytes_eq name w ≡ t → IsAddedOr n (kind_at w fields) (if t then vs ++ [] else []) at (making_at a w) (option_map (λ b. b.value) (if t then Some m else tree.get_by_text a w))
  field_at w true is =
      subst (λ v. IsAddedOr n (kind_at v fields) (vs ++ []) at (making_at a v) (Some m.value)) ((bytes_decides name w).0 is)
      (subst (λ us. IsAddedOr n (kind_at name fields) us at (making_at a name) (Some m.value)) (sym (append_nil vs)) added)
  field_at w false is = added_or-none n (kind_at w fields) at (making_at a w)

  pub field-added : AreAdded fields n ((name, vs) ∷ []) at a b
  field-added = λ w. subst (λ (o : Option (Box Making Global)). IsAddedOr n (kind_at w fields) (if bytes_eq name w then vs ++ [] else []) at (making_at a w) (option_map (λ b. b.value) o)) (sym (sets w)) (field_at w (bytes_eq name w) refl)

-- what is there is long enough
pub long-there : (n : ℕ) (ms : Makings) (name : List ℕ) (m : Box Making Global) → AreLong n ms → tree.get_by_text ms name ≡ Some m → IsLong n m.value
long-there n ms name m marks there = subst (λ (o : Option (Box Making Global)). IfSome (option_map (λ b. b.value) o) (IsLong n)) there (marks name)

-- ---- the documents so far

-- a column that is begun after documents without a value
pub late : (fields : Fields) (docs : List Values) (n : ℕ) (name : List ℕ) (m : Making) → All (λ d. values_at name d ≡ []) docs → IsEmptyMaking n m → IsColumnOf fields docs name n m
late fields docs n name m none empty =
    let first = IsColumnOf-empty fields name n m empty in
    let no_text = λ (t : Scalar). places-none (has_term fields name t) 0 docs (λ k d lt. none_text fields name t _ (none k d lt)) in
    let no_value = places-none (has_value name) 0 docs (λ k d lt. none_value name _ (none k d lt)) in
    record {
      has = first.has ∙ ap (marked (replicate n false)) (sym no_value);
      texts = λ w. first.texts w ∙ sym (no_text (text w));
      longs = λ z. first.longs z ∙ sym (no_text (long z));
      yes = first.yes ∙ ap (marked (replicate n false)) (sym (no_text (flag true)));
      no = first.no ∙ ap (marked (replicate n false)) (sym (no_text (flag false)));
    }

making-more : (fields : Fields) (docs : List Values) (n : ℕ) (name : List ℕ) (d : Values) (at : ℕ) (a c : Making) → at ≡ length docs → IsColumnOf fields docs name n a → IsAdded (kind_at name fields) (values_at name d) at a c → IsColumnOf fields (docs ++ d ∷ []) name n c
making-more fields docs n name d at a c here is added = document-more fields docs name n d at a (record c { has = a.has }) c here is added.posted added.has refl

making_or-more : (fields : Fields) (docs : List Values) (n : ℕ) (name : List ℕ) (d : Values) (at : ℕ) (a c : Option Making) → at ≡ length docs → IsMakingOr fields docs n name a → IsAddedOr n (kind_at name fields) (values_at name d) at a c → IsMakingOr fields (docs ++ d ∷ []) n name c
making_or-more fields docs n name d at None None here is added = All-push (λ v. values_at name v ≡ []) docs d is added
making_or-more fields docs n name d at None (Some c) here is added = making-more fields docs n name d at added.empty c here (late fields docs n name added.empty is added.none) added.added
making_or-more fields docs n name d at (Some a) None here is added = absurd added
making_or-more fields docs n name d at (Some a) (Some c) here is added = making-more fields docs n name d at a c here is added

-- one document more
pub makings-more : (fields : Fields) (docs : List Values) (n : ℕ) (d : Values) (at : ℕ) (a c : Makings) → at ≡ length docs → AreMakings fields docs n a → AreAdded fields n d at a c → AreMakings fields (docs ++ d ∷ []) n c
makings-more fields docs n d at a c here is added = λ w. making_or-more fields docs n w d at (making_at a w) (making_at c w) here (is w) (added w)

long_of : (fields : Fields) (docs : List Values) (n : ℕ) (name : List ℕ) (o : Option Making) → IsMakingOr fields docs n name o → IfSome o (IsLong n)
long_of fields docs n name None is = tt
long_of fields docs n name (Some m) is = record { has = length-has fields docs name n m is; yes = length-yes fields docs name n m is; no = length-no fields docs name n m is }

pub makings-long : (fields : Fields) (docs : List Values) (n : ℕ) (ms : Makings) → AreMakings fields docs n ms → AreLong n ms
makings-long fields docs n ms is = λ w. long_of fields docs n w (making_at ms w) (is w)

few_of : (fields : Fields) (docs : List Values) (n : ℕ) (name : List ℕ) (o : Option Making) → n ≡ length docs → IsMakingOr fields docs n name o → IfSome o (λ m. (z : ℤ) → All (λ p. p < n) (places_so_far_long m.longs z))
few_of fields docs n name None all is = tt
few_of fields docs n name (Some m) all is = number-places fields docs name n m all is

pub makings-few : (fields : Fields) (docs : List Values) (n : ℕ) (ms : Makings) → n ≡ length docs → AreMakings fields docs n ms → HaveFewPlaces n ms
makings-few fields docs n ms all is = λ w. few_of fields docs n w (making_at ms w) all (is w)

finished_of : (fields : Fields) (docs : List Values) (n : ℕ) (name : List ℕ) (o : Option Making) (p : Option Column) → n ≡ length docs → IsMakingOr fields docs n name o → IsFinishedOr n o p → IsColumnOr fields docs name p
finished_of fields docs n name None None all is made = is
finished_of fields docs n name None (Some c) all is made = absurd made
finished_of fields docs n name (Some m) None all is made = absurd made
finished_of fields docs n name (Some m) (Some c) all is made = IsColumnOf-all fields docs name n m c all is made

-- all documents
pub makings-finished : (fields : Fields) (docs : List Values) (n : ℕ) (ms : Makings) (cs : BTreeMap (String Global) (Box Column Global)) → n ≡ length docs → AreMakings fields docs n ms → AreFinished n ms cs
    → (name : List ℕ) → IsColumnOr fields docs name (column_at cs name)
makings-finished fields docs n ms cs all is made = λ w. finished_of fields docs n w (making_at ms w) (column_at cs w) all (is w) (made w)
