-- The texts of pages.
use Rattle.std.proofs.Common.{◌≡◌, refl, ℕ, ◌≤◌, List, [], ◌∷◌, length, ap, arith, length-append, cond, Bool, true, false}
use Rattle.json.specs.Print.{escape, escape_byte}

-- a byte gives at least one, and an escape more
escape_length : (x : ℕ) → (1 ≤ length (escape_byte x)) × ((escape_byte x ≡ x ∷ [] → ⊥) → 2 ≤ length (escape_byte x))
unfolding escape_byte
escape_length x = spelled _ _ _ _ _
  where
    spelled : (short control : Bool) (x letter : ℕ) (digits : List ℕ) → let text = cond short (92 ∷ letter ∷ []) (cond control (92 ∷ 117 ∷ digits) (x ∷ [])) in
        (1 ≤ length text) × ((text ≡ x ∷ [] → ⊥) → 2 ≤ length text)
    spelled true control x letter digits = (omega arith, λ h. omega arith)
    spelled false true x letter digits = (omega arith, λ h. omega arith)
    spelled false false x letter digits = (omega arith, λ h. absurd (h refl))

escape_grows : (s : List ℕ) → length s ≤ length (escape s)
escape_grows [] = omega arith
escape_grows (x ∷ s) = omega (arith, escape_grows s, (escape_length x).0, length-append (escape_byte x) (escape s))

-- a text with a byte that is escaped is another text there
pub is_escaped : (x : ℕ) (s : List ℕ) → (escape_byte x ≡ x ∷ [] → ⊥) → escape (x ∷ s) ≡ x ∷ s → ⊥
is_escaped x s h e =
    omega (arith, escape_grows s, (escape_length x).1 h, length-append (escape_byte x) (escape s), ap length e)
