-- A table whose entries are put in order.
use Rattle.std.proofs.Common.{◌≡◌, Bool, true, false, ℕ, List, [], ◌∷◌, Option, Some, None, String, BTreeMap, string_bytes, refl, sym, ◌∙◌, subst, cond}
use Rattle.std.specs.Prelude.{is_some}
use Rattle.std.specs.BTreeMap as tree
use Rattle.std.specs.List.{IsDistinct}
use Rattle.std.specs.Map.{lookup, keys_of}
use Rattle.std.specs.Ordering.{is_eq, nat_cmp, eq_by_cmp}
use Rattle.std.specs.Str.{bytes_eq}
use Rattle.std.specs.String.{string_eq, string_cmp, string_eq_equiv}
use Rattle.std.specs.Cmp.Lexicographic.{slice_cmp, bytes_decides}
use Rattle.std.proofs.lemmas.Map.Made.{update_all_none}
use Rattle.std.proofs.lemmas.Map.Text.{is_eq-slice_cmp}

by_value : {X : Type 0} (a b : Option X) → (is_some a ≡ true → a ≡ b) → (is_some b ≡ true → a ≡ b) → a ≡ b
by_value (Some x) b here there = here refl
by_value None (Some y) here there = there refl
by_value None None here there = refl

tied : {Y : Type 0} (j k : String Y) → eq_by_cmp string_cmp j k ≡ string_eq j k
tied j k = is_eq-slice_cmp (string_bytes j) (string_bytes k)

module _ {Y X : Type 0} where
  first_key : (test : String Y → Bool) (k : String Y) (v : X) (rest : Option X) (b : Bool) → test k ≡ b → is_some (cond b (Some v) rest) ≡ true → (is_some rest ≡ true → (j : String Y) × (test j ≡ true)) → (j : String Y) × (test j ≡ true)
  first_key test k v rest true is some more = (k, is)
  first_key test k v rest false is some more = more some

  -- what is found has a key
  a_key : (test : String Y → Bool) (es : List (String Y × X)) → is_some (lookup test es) ≡ true → (k : String Y) × (test k ≡ true)
  a_key test [] some = absurd cc
  a_key test (e ∷ es) some = first_key test e.0 e.1 (lookup test es) (test e.0) refl some (a_key test es)

  module _ (es : List (String Y × X)) (m : BTreeMap (String Y) X) (distinct : IsDistinct string_eq (keys_of es)) (made : tree.IsFromIterResult string_cmp es m) where
    at_key : (w : List ℕ) (k : String Y) → w ≡ string_bytes k → tree.get_by_text m w ≡ lookup (λ j. bytes_eq w (string_bytes j)) es
    at_key w k is = subst (λ v. tree.get_by_text m v ≡ lookup (λ j. bytes_eq v (string_bytes j)) es) (sym is) (made.0 k ∙ update_all_none string_eq_equiv (eq_by_cmp string_cmp) tied es k distinct)

    -- a text has what it had in the table
    pub same_at : (w : List ℕ) → tree.get_by_text m w ≡ lookup (λ j. bytes_eq w (string_bytes j)) es
    same_at w = by_value _ _
        (λ some. let r = a_key (λ k. is_eq (slice_cmp nat_cmp w (string_bytes k))) m.entries some in at_key w r.0 ((bytes_decides w (string_bytes r.0)).0 (sym (is_eq-slice_cmp w (string_bytes r.0)) ∙ r.1)))
        (λ some. let r = a_key (λ k. bytes_eq w (string_bytes k)) es some in at_key w r.0 ((bytes_decides w (string_bytes r.0)).0 r.1))
