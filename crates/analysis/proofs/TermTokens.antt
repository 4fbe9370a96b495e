-- Tokens as terms.
use Rattle.std.proofs.Common.{◌≡◌, ℕ, List, [], ◌∷◌, map, refl, ap, ◌∙◌, string_bytes, String, Global}
use Rattle.doc.specs.Scalar.{text}

-- the terms of tokens are the texts of their bytes
pub each_text : (ts : List (String Global)) (words : List (List ℕ)) → map string_bytes ts ≡ words → map (λ t. text (string_bytes t)) ts ≡ map text words
each_text ts words e = fused ts ∙ ap (map text) e
  where
    fused : (ts : List (String Global)) → map (λ t. text (string_bytes t)) ts ≡ map text (map string_bytes ts)
    fused [] = refl
    fused (t ∷ ts) = ap (λ xs. text (string_bytes t) ∷ xs) (fused ts)
