-- Elements in parts.
use Rattle.std.proofs.Common.{◌≡◌, ℕ, zero, suc, ◌-◌, ◌<◌, min, List, [], ◌∷◌, ◌++◌, length, take, drop, refl, ap, ◌∙◌, arith, length-append}
use Rattle.std.specs.Simd.{first_chunks}
use Rattle.std.specs.Slice.Iter.{chunk_count}
use Rattle.front.specs.Bulk.{parts}

-- what stands in front
front_of : {A : Type 0} (n : ℕ) (a b : List A) → length a ≡ min n (length (a ++ b)) → (take n (a ++ b) ≡ a) × (drop n (a ++ b) ≡ b)
front_of zero [] b h = (refl, refl)
front_of zero (x ∷ a) b h = absurd (omega (arith, h))
front_of (suc n) [] [] h = (refl, refl)
front_of (suc n) [] (y ∷ b) h = absurd (omega (arith, h))
front_of (suc n) (x ∷ a) b h = let r = front_of n a b (omega (arith, h)) in (ap (λ l. x ∷ l) r.0, r.1)

one_more : (n m : ℕ) → 0 < n → m ≡ n - 1024 → chunk_count n 1024 ≡ suc (chunk_count m 1024)
one_more n m h e = omega (arith, h, e)

-- the first part, and the others
pub next_part : {A : Type 0} (xs a b : List A) → xs ≡ a ++ b → length a ≡ min 1024 (length xs) → 0 < length xs → parts xs ≡ a ∷ parts b
next_part xs a b e h lt =
    let front = front_of 1024 a b (h ∙ ap (λ l. min 1024 (length l)) e) in
    let a_is : take 1024 xs ≡ a = ap (take 1024) e ∙ front.0 in
    let b_is : drop 1024 xs ≡ b = ap (drop 1024) e ∙ front.1 in
    let long : length b ≡ length xs - 1024 = omega (arith, h, ap length e, length-append a b) in
    ap (λ k. first_chunks 1024 k xs) (one_more (length xs) (length b) lt long)
    ∙ ap (λ p. p ∷ first_chunks 1024 (chunk_count (length b) 1024) (drop 1024 xs)) a_is
    ∙ ap (λ l. a ∷ first_chunks 1024 (chunk_count (length b) 1024) l) b_is
