-- Bytes that are cut at a byte.
use Rattle.std.proofs.Common.{◌≡◌, ℕ, ◌==◌, Bool, true, false, List, [], ◌∷◌, ◌≤◌, length, Option, Some, None, if◌then◌else◌, refl, sym, ap, ◌∙◌, arith, nat_lt, take_all}
use Rattle.std.specs.List.{position_or_len, before_first, after_first, slice_split}
use Rattle.std.proofs.lemmas.Bool.Decides.{nat_tests}
use Rattle.std.proofs.lemmas.List.Splits.{slice_split_first, slice_split_none}
use Rattle.std.proofs.lemmas.List.Sums.{fails_before_first}
use Rattle.wire.specs.Pieces.{has, cut_at}

pub if_true : {A : Type 0} (b : Bool) (x y : A) → b ≡ true → (if b then x else y) ≡ x
if_true true x y e = refl
if_true false x y e = absurd (cc e)

pub if_false : {A : Type 0} (b : Bool) (x y : A) → b ≡ false → (if b then x else y) ≡ y
if_false true x y e = absurd (cc e)
if_false false x y e = refl

pub not_less : (n m : ℕ) → n ≡ m → nat_lt n m ≡ false
not_less n m e = grind (arith, nat_tests)

abbrev pub parts_from : ℕ → List ℕ → Option (List ℕ) → List (List ℕ)
parts_from c a None = a ∷ []
parts_from c a (Some rest) = a ∷ slice_split (λ b. b == c) rest

split_by : (c : ℕ) (bs : List ℕ) (h : Bool) → has c bs ≡ h → slice_split (λ b. b == c) bs ≡ parts_from c (before_first (λ b. b == c) bs) (if h then Some (after_first (λ b. b == c) bs) else None)
split_by c bs true e = slice_split_first (λ b. b == c) bs 0 (grind (arith, nat_tests, e))
split_by c bs false e =
    let far : length bs ≤ position_or_len (λ b. b == c) bs = grind (arith, nat_tests, e) in
    slice_split_none (λ b. b == c) bs (λ k d lt. fails_before_first (λ b. b == c) bs k d (omega arith))
    ∙ ap (λ x. x ∷ []) (sym (take_all (position_or_len (λ b. b == c) bs) bs far))

pub split_at : (c : ℕ) (bs a : List ℕ) (o : Option (List ℕ)) → a ≡ (cut_at c bs).0 → o ≡ (cut_at c bs).1 → slice_split (λ b. b == c) bs ≡ parts_from c a o
split_at c bs a o e k = rw (e, k) (split_by c bs (has c bs) refl)

-- a list, cut at its first comma
pub split_comma : (bs a : List ℕ) (o : Option (List ℕ)) → a ≡ (cut_at 44 bs).0 → o ≡ (cut_at 44 bs).1 → slice_split (λ b. b == 44) bs ≡ parts_from 44 a o
split_comma = split_at 44
