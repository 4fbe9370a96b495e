-- Columns of the documents so far.
use Rattle.std.proofs.Common.{◌≡◌, ◌<◌, ℕ, ℤ, Bool, true, false, ◌||◌, List, [], ◌∷◌, ◌++◌, length, map, replicate, refl, sym, ap, ◌∙◌, subst, All}
use Rattle.std.proofs.lemmas.List.{length-replicate}
use Rattle.doc.specs.Fields.{Fields}
use Rattle.doc.specs.Scalar.{text, long, flag}
use Rattle.doc.specs.Document.{Values}
use Rattle.analysis.specs.Terms.{terms_at}
use Rattle.marks.specs.Lists.{marked, places, zip_with}
use Rattle.segment.specs.Blocks.{AreBlocks}
use Rattle.segment.specs.Indexed.{has_term, has_value, IsColumn}
use Rattle.segment.specs.Joined.{IsColumnOf}
use Rattle.segment.specs.Places.{one_if}
use Rattle.segment.specs.Posted.{IsPosted, IsEmptyMaking, IsFinished, places_so_far, places_so_far_long, with_if, set_if}
use Rattle.segment.specs.declared.column.Column.{Column}
use Rattle.segment.specs.declared.making.Making.{Making}
use Rattle.segment.proofs.Ahead.{with_if-below}
use Rattle.segment.proofs.Blocked.{length-marked, marked-append}
use Rattle.segment.proofs.Steps.{places-push, places-below}
use Rattle.segment.proofs.Zips.{marked-zip}

pub IsColumnOf-empty : (fields : Fields) (name : List ℕ) (n : ℕ) (c : Making) → IsEmptyMaking n c → IsColumnOf fields [] name n c
IsColumnOf-empty fields name n c is = record {
  has = is.has;
  texts = λ w. is.texts w;
  longs = λ z. is.longs z;
  yes = is.yes;
  no = is.no;
}

-- the marks are as many as the documents
long-marks : (n : ℕ) (ms : List Bool) (ps : List ℕ) → ms ≡ marked (replicate n false) ps → length ms ≡ n
long-marks n ms ps is = ap length is ∙ length-marked (replicate n false) ps ∙ length-replicate n false

pub length-has : (fields : Fields) (docs : List Values) (name : List ℕ) (n : ℕ) (c : Making) → IsColumnOf fields docs name n c → length c.has ≡ n
length-has fields docs name n c is = long-marks n c.has (places (has_value name) docs) is.has

pub length-yes : (fields : Fields) (docs : List Values) (name : List ℕ) (n : ℕ) (c : Making) → IsColumnOf fields docs name n c → length c.yes ≡ n
length-yes fields docs name n c is = long-marks n c.yes (places (has_term fields name (flag true)) docs) is.yes

pub length-no : (fields : Fields) (docs : List Values) (name : List ℕ) (n : ℕ) (c : Making) → IsColumnOf fields docs name n c → length c.no ≡ n
length-no fields docs name n c is = long-marks n c.no (places (has_term fields name (flag false)) docs) is.no

one_mark : (b : Bool) (at : ℕ) (ms : List Bool) → set_if b at ms ≡ marked ms (one_if b at)
one_mark true at ms = refl
one_mark false at ms = refl

module _ (docs : List Values) (d : Values) (at : ℕ) (here : at ≡ length docs) (test : Values → Bool) where
  -- one place more
  place-more : (ps : List ℕ) → ps ≡ places test docs → with_if (test d) at ps ≡ places test (docs ++ d ∷ [])
  place-more ps is =
      with_if-below (test d) at ps (subst (λ qs. All (λ p. p < at) qs) (sym is) (subst (λ n. All (λ p. p < n) (places test docs)) (sym here) (places-below test docs)))
      ∙ ap (λ qs. qs ++ one_if (test d) at) is ∙ ap (λ n. places test docs ++ one_if (test d) n) here ∙ sym (places-push test docs d)

  mark-more : (n : ℕ) (ms : List Bool) → ms ≡ marked (replicate n false) (places test docs) → set_if (test d) at ms ≡ marked (replicate n false) (places test (docs ++ d ∷ []))
  mark-more n ms is =
      ap (set_if (test d) at) is ∙ one_mark (test d) at (marked (replicate n false) (places test docs))
      ∙ sym (marked-append (replicate n false) (places test docs) (one_if (test d) at))
      ∙ ap (λ k. marked (replicate n false) (places test docs ++ one_if (test d) k)) here
      ∙ ap (marked (replicate n false)) (sym (places-push test docs d))

-- one document more
pub document-more : (fields : Fields) (docs : List Values) (name : List ℕ) (n : ℕ) (d : Values) (at : ℕ) (a b c : Making) → at ≡ length docs → IsColumnOf fields docs name n a → IsPosted (terms_at fields d name) at a b
    → c.has ≡ set_if (has_value name d) at b.has → c ≡ record b { has = c.has } → IsColumnOf fields (docs ++ d ∷ []) name n c
document-more fields docs name n d at a b c here is posted value same = record {
  has = value ∙ ap (set_if (has_value name d) at) posted.has ∙ mark-more docs d at here (has_value name) n a.has is.has;
  texts = λ w. ap (λ (x : Making). places_so_far x.texts w) same ∙ posted.texts w ∙ place-more docs d at here (has_term fields name (text w)) (places_so_far a.texts w) (is.texts w);
  longs = λ z. ap (λ (x : Making). places_so_far_long x.longs z) same ∙ posted.longs z ∙ place-more docs d at here (has_term fields name (long z)) (places_so_far_long a.longs z) (is.longs z);
  yes = ap (λ (x : Making). x.yes) same ∙ posted.yes ∙ mark-more docs d at here (has_term fields name (flag true)) n a.yes is.yes;
  no = ap (λ (x : Making). x.no) same ∙ posted.no ∙ mark-more docs d at here (has_term fields name (flag false)) n a.no is.no;
}

from_none : (test : Values → Bool) (docs : List Values) → zip_with (λ b d. b || test d) (replicate (length docs) false) docs ≡ map test docs
from_none test [] = refl
from_none test (d ∷ docs) = ap (λ bs. test d ∷ bs) (from_none test docs)

all_marked : (test : Values → Bool) (docs : List Values) (n : ℕ) (ms : List Bool) → n ≡ length docs → ms ≡ marked (replicate n false) (places test docs) → ms ≡ map test docs
all_marked test docs n ms all is =
    is ∙ ap (λ k. marked (replicate k false) (places test docs)) all ∙ marked-zip test (replicate (length docs) false) docs (length-replicate (length docs) false) ∙ from_none test docs

-- the places of a number are those of documents
pub number-places : (fields : Fields) (docs : List Values) (name : List ℕ) (n : ℕ) (c : Making) → n ≡ length docs → IsColumnOf fields docs name n c → (z : ℤ) → All (λ p. p < n) (places_so_far_long c.longs z)
number-places fields docs name n c all is z =
    subst (λ ps. All (λ p. p < n) ps) (sym (is.longs z)) (subst (λ k. All (λ p. p < k) (places (has_term fields name (long z)) docs)) (sym all) (places-below (has_term fields name (long z)) docs))

-- all documents
pub IsColumnOf-all : (fields : Fields) (docs : List Values) (name : List ℕ) (n : ℕ) (m : Making) (c : Column) → n ≡ length docs → IsColumnOf fields docs name n m → IsFinished n m c → IsColumn fields docs name c
IsColumnOf-all fields docs name n m c all is made = record {
  has = made.has ∙ all_marked (has_value name) docs n m.has all is.has;
  texts = λ w. made.texts w ∙ is.texts w;
  longs = λ z. made.longs z ∙ is.longs z;
  blocks = subst (λ k. AreBlocks k c.longs c.blocks.items) all made.blocks;
  yes = made.yes ∙ all_marked (has_term fields name (flag true)) docs n m.yes all is.yes;
  no = made.no ∙ all_marked (has_term fields name (flag false)) docs n m.no all is.no;
}
