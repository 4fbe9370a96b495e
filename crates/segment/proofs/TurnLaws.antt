-- A loop over the entries of a map, each of which changes what one key has.
use Rattle.std.proofs.Common.{◌≡◌, ◌⊎◌, inl, inr, Bool, true, false, ℕ, ℤ, List, [], ◌∷◌, Option, Some, None, refl, sym, ap, ◌∙◌, subst, cond, String, string_bytes, int_eq}
use Rattle.std.specs.List.{AllByRecursion, IsDistinct}
use Rattle.std.specs.Map.{lookup, keys_of}
use Rattle.std.specs.Ordering.{is_eq, nat_cmp, int_cmp, eq_by_cmp}
use Rattle.std.specs.Str.{bytes_eq}
use Rattle.std.specs.Cmp.{int_eq_equiv}
use Rattle.std.specs.Cmp.Lexicographic.{slice_cmp, bytes_decides, nat_list_eq_equiv}
use Rattle.std.specs.String.{string_cmp}
use Rattle.std.proofs.lemmas.Bool.Decides.{Decides-int_eq}
use Rattle.std.proofs.lemmas.Map.Keys.{IsDistinct-head}
use Rattle.std.proofs.lemmas.Map.Text.{is_eq-slice_cmp}

every : {K : Type 0} {P Q : K → Type 0} → ((k : K) → P k → Q k) → (ks : List K) → AllByRecursion P ks → AllByRecursion Q ks
every f [] all = tt
every f (k ∷ ks) all = (f k all.0, every f ks all.1)

module _ {K X : Type 0} where
  none_found : (test : K → Bool) (es : List (K × X)) → AllByRecursion (λ k. test k ≡ false) (keys_of es) → lookup test es ≡ None
  none_found test [] all = refl
  none_found test (e ∷ es) all = ap (λ b. cond b (Some e.1) (lookup test es)) all.0 ∙ none_found test es all.1

-- what a key has, where an entry's turn is still to come or was
module _ {K X S W : Type 0} (test : W → K → Bool) (Rel : Option X → S → S → Type 0) (all : List (K × X)) (old : W → S) where
  abbrev pub IsTurn : List (K × X) → (W → S) → W → Type 0
  IsTurn left now w = ((lookup (test w) left ≡ lookup (test w) all) × (now w ≡ old w)) ⊎ ((lookup (test w) left ≡ None) × Rel (lookup (test w) all) (old w) (now w))

  abbrev pub AreTurns : List (K × X) → (W → S) → Type 0
  AreTurns left now = (w : W) → IsTurn left now w

  module _ (e : K × X) (left : List (K × X)) (now : W → S) where
    first : (w : W) → test w e.0 ≡ true → lookup (test w) (e ∷ left) ≡ Some e.1
    first w is = ap (λ b. cond b (Some e.1) (lookup (test w) left)) is

    -- the entry's key has its value
    pub found : AreTurns (e ∷ left) now → (w : W) → test w e.0 ≡ true → lookup (test w) all ≡ Some e.1
    found turns w is = by_case (turns w)
      where
        by_case : IsTurn (e ∷ left) now w → lookup (test w) all ≡ Some e.1
        by_case (inl waits) = sym waits.0 ∙ first w is
        by_case (inr done) = absurd (let wrong : None ≡ Some e.1 = sym done.0 ∙ first w is in cc)

    -- and what it had
    pub waits : AreTurns (e ∷ left) now → (w : W) → test w e.0 ≡ true → now w ≡ old w
    waits turns w is = by_case (turns w)
      where
        by_case : IsTurn (e ∷ left) now w → now w ≡ old w
        by_case (inl waits) = waits.1
        by_case (inr done) = absurd (let wrong : None ≡ Some e.1 = sym done.0 ∙ first w is in cc)

    module _ (now' : W → S) (once : (w : W) → test w e.0 ≡ true → lookup (test w) left ≡ None)
        (here : (w : W) → test w e.0 ≡ true → Rel (Some e.1) (now w) (now' w)) (others : (w : W) → test w e.0 ≡ false → now' w ≡ now w) where
      at : AreTurns (e ∷ left) now → (w : W) (b : Bool) → test w e.0 ≡ b → IsTurn (e ∷ left) now w → IsTurn left now' w
      at turns w true is turn = inr (once w is, subst (λ o. Rel o (old w) (now' w)) (sym (found turns w is)) (subst (λ s. Rel (Some e.1) s (now' w)) (waits turns w is) (here w is)))
      at turns w false is (inl turn) = inl (sym (ap (λ b. cond b (Some e.1) (lookup (test w) left)) is) ∙ turn.0, others w is ∙ turn.1)
      at turns w false is (inr turn) = inr (sym (ap (λ b. cond b (Some e.1) (lookup (test w) left)) is) ∙ turn.0, subst (λ s. Rel (lookup (test w) all) (old w) s) (sym (others w is)) turn.1)

      -- one entry's turn
      pub one-turn : AreTurns (e ∷ left) now → AreTurns left now'
      one-turn turns w = at turns w (test w e.0) refl (turns w)

  pub no-turn : (now : W → S) → ((w : W) → now w ≡ old w) → AreTurns all now
  no-turn now same w = inl (refl, same w)

  -- all had theirs
  pub all-turned : (now : W → S) → ((o n : S) → n ≡ o → Rel None o n) → AreTurns [] now → (w : W) → Rel (lookup (test w) all) (old w) (now w)
  all-turned now none turns w = by_case (turns w)
    where
      by_case : IsTurn [] now w → Rel (lookup (test w) all) (old w) (now w)
      by_case (inl turn) = subst (λ o. Rel o (old w) (now w)) turn.0 (none (old w) (now w) turn.1)
      by_case (inr turn) = turn.1

-- ---- keys that are texts or numbers

abbrev pub is_at_text : {Y : Type 0} → List ℕ → String Y → Bool
is_at_text w k = is_eq (slice_cmp nat_cmp w (string_bytes k))

pub text-here : {Y : Type 0} (k : String Y) → is_at_text (string_bytes k) k ≡ true
text-here k = is_eq-slice_cmp (string_bytes k) (string_bytes k) ∙ nat_list_eq_equiv.refl (string_bytes k)

pub text-apart : {Y : Type 0} (k : String Y) (v w : List ℕ) → v ≡ string_bytes k → is_at_text w k ≡ false → bytes_eq v w ≡ false
text-apart k v w is apart = ap (λ u. bytes_eq u w) is ∙ nat_list_eq_equiv.symm (string_bytes k) w ∙ sym (is_eq-slice_cmp w (string_bytes k)) ∙ apart

module _ {Y X : Type 0} (e : String Y × X) (left : List (String Y × X)) where
  pub text_same : (w : List ℕ) → is_at_text w e.0 ≡ true → w ≡ string_bytes e.0
  text_same w is = (bytes_decides w (string_bytes e.0)).0 (sym (is_eq-slice_cmp w (string_bytes e.0)) ∙ is)

  -- a text comes once
  pub text-once : IsDistinct (eq_by_cmp string_cmp) (keys_of (e ∷ left)) → (w : List ℕ) → is_at_text w e.0 ≡ true → lookup (is_at_text w) left ≡ None
  text-once distinct w is =
      none_found (is_at_text w) left
      (every (λ k apart. ap (λ v. is_eq (slice_cmp nat_cmp v (string_bytes k))) (text_same w is) ∙ apart) (keys_of left) (IsDistinct-head (eq_by_cmp string_cmp) e.0 (keys_of left) distinct))

pub number-here : (z : ℤ) → int_eq z z ≡ true
number-here z = int_eq_equiv.refl z

pub number-apart : (k v z : ℤ) → v ≡ k → int_eq z k ≡ false → int_eq v z ≡ false
number-apart k v z is apart = ap (λ u. int_eq u z) is ∙ int_eq_equiv.symm k z ∙ apart

module _ {X : Type 0} (e : ℤ × X) (left : List (ℤ × X)) where
  pub number_same : (z : ℤ) → int_eq z e.0 ≡ true → z ≡ e.0
  number_same z is = (Decides-int_eq z e.0).0 is

  -- a number comes once
  pub number-once : IsDistinct (eq_by_cmp int_cmp) (keys_of (e ∷ left)) → (z : ℤ) → int_eq z e.0 ≡ true → lookup (int_eq z) left ≡ None
  number-once distinct z is =
      none_found (int_eq z) left
      (every (λ k apart. ap (λ v. int_eq v k) (number_same z is) ∙ sym (tied e.0 k) ∙ apart) (keys_of left) (IsDistinct-head (eq_by_cmp int_cmp) e.0 (keys_of left) distinct))
    where
      tied : (a b : ℤ) → eq_by_cmp int_cmp a b ≡ int_eq a b
      tied a b = refl
