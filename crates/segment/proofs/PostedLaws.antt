-- Terms posted, one after another.
use Rattle.std.proofs.Common.{◌≡◌, ℕ, zero, suc, ℤ, map, append_assoc, Bool, true, false, ◌||◌, List, [], ◌∷◌, ◌++◌, length, refl, sym, ap, ◌∙◌, subst, arith, slice_set, if◌then◌else◌, Some, int_eq}
use Rattle.std.specs.Prelude.{flat_map}
use Rattle.std.specs.Str.{bytes_eq}
use Rattle.std.specs.Cmp.Lexicographic.{bytes_decides, nat_list_eq_equiv}
use Rattle.std.specs.Cmp.{int_eq_equiv}
use Rattle.std.proofs.lemmas.Bool.Decides.{Decides-int_eq}
use Rattle.std.proofs.lemmas.List.{length-set}
use Rattle.doc.specs.Scalar.{Scalar, text, long, flag}
use Rattle.doc.specs.declared.mapping.Kind.{Kind}
use Rattle.doc.specs.declared.mapping.Kind.TheVariants.{Keyword, Text, Long, Boolean}
use Rattle.analysis.specs.Terms.{has, terms_of_value, terms_by}
use Rattle.doc.specs.Document.{Values, values_at}
use Rattle.segment.specs.Places.{added, has_word}
use Rattle.segment.specs.Posted.{IsPosted, IsRoomFor, places_so_far, places_so_far_long, with_if, set_if}
use Rattle.segment.specs.declared.making.Making.{Making}
use Rattle.segment.proofs.Ahead.{has-append, with_if-twice}

set_twice : (at : ℕ) (ms : List Bool) → slice_set (slice_set ms at true) at true ≡ slice_set ms at true
set_twice zero [] = refl
set_twice (suc at) [] = refl
set_twice zero (m ∷ ms) = refl
set_twice (suc at) (m ∷ ms) = ap (λ bs. m ∷ bs) (set_twice at ms)

pub set_if-twice : (a b : Bool) (at : ℕ) (ms : List Bool) → set_if b at (set_if a at ms) ≡ set_if (a || b) at ms
set_if-twice true true at ms = set_twice at ms
set_if-twice true false at ms = refl
set_if-twice false b at ms = refl

pub length-set_if : (b : Bool) (at : ℕ) (ms : List Bool) → length (set_if b at ms) ≡ length ms
length-set_if true at ms = length-set ms at true
length-set_if false at ms = refl

or_false : (b : Bool) → (b || false) ≡ b
or_false true = refl
or_false false = refl

-- no term
pub IsPosted-none : (at : ℕ) (c : Making) → IsPosted [] at c c
IsPosted-none at c = record { texts = λ w. refl; longs = λ z. refl; yes = refl; no = refl; has = refl }

-- terms, and then more
pub IsPosted-trans : (ts us : List Scalar) (at : ℕ) (a b c : Making) → IsPosted ts at a b → IsPosted us at b c → IsPosted (ts ++ us) at a c
IsPosted-trans ts us at a b c p q = record {
  texts = λ w. q.texts w ∙ ap (with_if (has us (text w)) at) (p.texts w) ∙ with_if-twice (has ts (text w)) (has us (text w)) at (places_so_far a.texts w) ∙ ap (λ h. with_if h at (places_so_far a.texts w)) (sym (has-append ts us (text w)));
  longs = λ z. q.longs z ∙ ap (with_if (has us (long z)) at) (p.longs z) ∙ with_if-twice (has ts (long z)) (has us (long z)) at (places_so_far_long a.longs z) ∙ ap (λ h. with_if h at (places_so_far_long a.longs z)) (sym (has-append ts us (long z)));
  yes = q.yes ∙ ap (set_if (has us (flag true)) at) p.yes ∙ set_if-twice (has ts (flag true)) (has us (flag true)) at a.yes ∙ ap (λ h. set_if h at a.yes) (sym (has-append ts us (flag true)));
  no = q.no ∙ ap (set_if (has us (flag false)) at) p.no ∙ set_if-twice (has ts (flag false)) (has us (flag false)) at a.no ∙ ap (λ h. set_if h at a.no) (sym (has-append ts us (flag false)));
  has = q.has ∙ p.has;
}

-- the room stays
pub IsRoomFor-posted : (ts : List Scalar) (at : ℕ) (a b : Making) → IsPosted ts at a b → IsRoomFor at a → IsRoomFor at b
IsRoomFor-posted ts at a b p room = record {
  yes = omega (arith, room.yes, ap length p.yes, length-set_if (has ts (flag true)) at a.yes);
  no = omega (arith, room.no, ap length p.no, length-set_if (has ts (flag false)) at a.no);
}

-- the places of one text set, and the others as they were
module _ (at : ℕ) (old new : List ℕ → List ℕ) (word : List ℕ) (here : new word ≡ added (old word) at) (others : (w : List ℕ) → bytes_eq word w ≡ false → new w ≡ old w) where
  by_text : (w : List ℕ) (b : Bool) → bytes_eq w word ≡ b → new w ≡ with_if b at (old w)
  by_text w true is = subst (λ v. new v ≡ added (old v) at) (sym ((bytes_decides w word).0 is)) here
  by_text w false is = others w (nat_list_eq_equiv.symm word w ∙ is)

  pub one_text : (w : List ℕ) → new w ≡ with_if (bytes_eq w word) at (old w)
  one_text w = by_text w (bytes_eq w word) refl

-- and of one number
module _ (at : ℕ) (old new : ℤ → List ℕ) (number : ℤ) (here : new number ≡ added (old number) at) (others : (z : ℤ) → int_eq number z ≡ false → new z ≡ old z) where
  by_number : (z : ℤ) (b : Bool) → int_eq z number ≡ b → new z ≡ with_if b at (old z)
  by_number z true is = subst (λ v. new v ≡ added (old v) at) (sym ((Decides-int_eq z number).0 is)) here
  by_number z false is = others z (int_eq_equiv.symm number z ∙ is)

  pub one_number : (z : ℤ) → new z ≡ with_if (int_eq z number) at (old z)
  one_number z = by_number z (int_eq z number) refl

pub posted-text : (at : ℕ) (c n : Making) (word : List ℕ) → ((w : List ℕ) → places_so_far n.texts w ≡ with_if (bytes_eq w word) at (places_so_far c.texts w)) → n ≡ record c { texts = n.texts } → IsPosted (text word ∷ []) at c n
posted-text at c n word is same = record {
  texts = λ w. is w ∙ ap (λ b. with_if b at (places_so_far c.texts w)) (sym (or_false (bytes_eq w word)));
  longs = λ z. ap (λ (x : Making). places_so_far_long x.longs z) same;
  yes = ap (λ (x : Making). x.yes) same;
  no = ap (λ (x : Making). x.no) same;
  has = ap (λ (x : Making). x.has) same;
}

pub posted-long : (at : ℕ) (c n : Making) (number : ℤ) → ((z : ℤ) → places_so_far_long n.longs z ≡ with_if (int_eq z number) at (places_so_far_long c.longs z)) → n ≡ record c { longs = n.longs } → IsPosted (long number ∷ []) at c n
posted-long at c n number is same = record {
  texts = λ w. ap (λ (x : Making). places_so_far x.texts w) same;
  longs = λ z. is z ∙ ap (λ b. with_if b at (places_so_far_long c.longs z)) (sym (or_false (int_eq z number)));
  yes = ap (λ (x : Making). x.yes) same;
  no = ap (λ (x : Making). x.no) same;
  has = ap (λ (x : Making). x.has) same;
}

-- ---- tokens

has_words : (w : List ℕ) (ws : List (List ℕ)) → has (map text ws) (text w) ≡ has_word w ws
has_words w [] = refl
has_words w (v ∷ ws) = ap (λ b. bytes_eq w v || b) (has_words w ws)

no_numbers : (z : ℤ) (ws : List (List ℕ)) → has (map text ws) (long z) ≡ false
no_numbers z [] = refl
no_numbers z (v ∷ ws) = no_numbers z ws

no_truths : (b : Bool) (ws : List (List ℕ)) → has (map text ws) (flag b) ≡ false
no_truths b [] = refl
no_truths b (v ∷ ws) = no_truths b ws

pub posted-words : (at : ℕ) (c n : Making) (ws : List (List ℕ)) → ((w : List ℕ) → places_so_far n.texts w ≡ with_if (has_word w ws) at (places_so_far c.texts w)) → n ≡ record c { texts = n.texts; word = n.word } → IsPosted (map text ws) at c n
posted-words at c n ws is same = record {
  texts = λ w. is w ∙ ap (λ b. with_if b at (places_so_far c.texts w)) (sym (has_words w ws));
  longs = λ z. ap (λ (x : Making). places_so_far_long x.longs z) same ∙ sym (ap (λ b. with_if b at (places_so_far_long c.longs z)) (no_numbers z ws));
  yes = ap (λ (x : Making). x.yes) same ∙ sym (ap (λ b. set_if b at c.yes) (no_truths true ws));
  no = ap (λ (x : Making). x.no) same ∙ sym (ap (λ b. set_if b at c.no) (no_truths false ws));
  has = ap (λ (x : Making). x.has) same;
}

-- the first of the words that are left
pub words-first : (at : ℕ) (v : List ℕ) (vs : List (List ℕ)) (w : List ℕ) (old new : List ℕ) → new ≡ with_if (bytes_eq w v) at old → with_if (has_word w vs) at new ≡ with_if (has_word w (v ∷ vs)) at old
words-first at v vs w old new is = ap (with_if (has_word w vs) at) is ∙ with_if-twice (bytes_eq w v) (has_word w vs) at old

-- ---- values and fields, one after another

terms-append : (xs ys : List Scalar) → flat_map terms_of_value (xs ++ ys) ≡ flat_map terms_of_value xs ++ flat_map terms_of_value ys
terms-append [] ys = refl
terms-append (x ∷ xs) ys = ap (λ zs. terms_of_value x ++ zs) (terms-append xs ys) ∙ sym (append_assoc (terms_of_value x) (flat_map terms_of_value xs) (flat_map terms_of_value ys))

pub terms_by-append : (k : Kind) (xs ys : List Scalar) → terms_by (Some k) (xs ++ ys) ≡ terms_by (Some k) xs ++ terms_by (Some k) ys
terms_by-append Keyword xs ys = refl
terms_by-append Text xs ys = terms-append xs ys
terms_by-append Long xs ys = refl
terms_by-append Boolean xs ys = refl

first_values : (b : Bool) (vs all xs ys : List Scalar) → all ≡ xs ++ ys → (if b then vs ++ all else all) ≡ (if b then vs ++ xs else xs) ++ ys
first_values true vs all xs ys is = ap (λ zs. vs ++ zs) is ∙ sym (append_assoc vs xs ys)
first_values false vs all xs ys is = is

pub values_at-append : (name : List ℕ) (xs ys : Values) → values_at name (xs ++ ys) ≡ values_at name xs ++ values_at name ys
values_at-append name [] ys = refl
values_at-append name (f ∷ xs) ys = first_values (bytes_eq f.0 name) f.1 _ _ _ (values_at-append name xs ys)

-- one value more
pub value-more : (k : Kind) (vs : List Scalar) (v : Scalar) (at : ℕ) (a b c : Making) → IsPosted (terms_by (Some k) vs) at a b → IsPosted (terms_by (Some k) (v ∷ [])) at b c → IsPosted (terms_by (Some k) (vs ++ v ∷ [])) at a c
value-more k vs v at a b c p q = subst (λ ts. IsPosted ts at a c) (sym (terms_by-append k vs (v ∷ []))) (IsPosted-trans (terms_by (Some k) vs) (terms_by (Some k) (v ∷ [])) at a b c p q)

-- one field more
pub field-more : (k : Kind) (name : List ℕ) (fs : Values) (f : List ℕ × List Scalar) (at : ℕ) (a b c : Making) → IsPosted (terms_by (Some k) (values_at name fs)) at a b → IsPosted (terms_by (Some k) (values_at name (f ∷ []))) at b c
    → IsPosted (terms_by (Some k) (values_at name (fs ++ f ∷ []))) at a c
field-more k name fs f at a b c p q =
    subst (λ ts. IsPosted ts at a c) (sym (ap (terms_by (Some k)) (values_at-append name fs (f ∷ [])) ∙ terms_by-append k (values_at name fs) (values_at name (f ∷ []))))
    (IsPosted-trans (terms_by (Some k) (values_at name fs)) (terms_by (Some k) (values_at name (f ∷ []))) at a b c p q)

pub no_values : (k : Kind) → terms_by (Some k) [] ≡ []
no_values Keyword = refl
no_values Text = refl
no_values Long = refl
no_values Boolean = refl
