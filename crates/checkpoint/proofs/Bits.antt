-- The bit of a number in sixteen words.
use Rattle.std.proofs.Common.{◌≡◌, ◌<◌, ◌*◌, ◌+◌, ◌/◌, ◌%◌, ◌^◌, ℕ, List, true, false, length, sym, ap, ◌∙◌, arith, slice_index, slice_set, nat_eq, bit_and, bit_or, if◌then◌else◌, ⊎_elim, w64}
use Rattle.std.proofs.lemmas.Bool.{cases_eq}
use Rattle.std.proofs.lemmas.Bool.Decides.{nat_tests}
use Rattle.std.proofs.lemmas.List.{get_or-set_same, get_or-set_other}
use Rattle.std.specs.Int.{bit_at, bit_not}
use Rattle.std.proofs.lemmas.Nat.Bits.{bit_at_set_same, bit_at_set_other, bit_at_clear_same, bit_at_clear_other}
use mathlib.Core.Logic.{◌≢◌}
use Rattle.checkpoint.specs.Window.{bit_of, is_marked}

-- the word of a number with its bit set, and with its bit taken back
abbrev pub word_set : List ℕ → ℕ → ℕ
word_set ws n = bit_or (slice_index ws (n / 64 % 16)) (1 * 2 ^ (n % 64) % 18446744073709551616)

abbrev pub word_cleared : List ℕ → ℕ → ℕ
word_cleared ws n = bit_and (slice_index ws (n / 64 % 16)) (bit_not w64 (1 * 2 ^ (n % 64) % 18446744073709551616))

-- two numbers stand at one place where word and bit are the same
place : (k : ℕ) → k % 1024 ≡ 64 * (k / 64 % 16) + k % 64
place k = omega arith

same_place : (k n : ℕ) → k / 64 % 16 ≡ n / 64 % 16 → k % 64 ≡ n % 64 → k % 1024 ≡ n % 1024
same_place k n word bit = place k ∙ omega (arith, word, bit, place n)

other_word : (k n : ℕ) → k / 64 % 16 ≢ n / 64 % 16 → k % 1024 ≢ n % 1024
other_word k n word same = word (omega (arith, same, place k, place n))

other_bit : (k n : ℕ) → k % 64 ≢ n % 64 → k % 1024 ≢ n % 1024
other_bit k n bit same = bit (omega (arith, same, place k, place n))

module _ (ws : List ℕ) (n : ℕ) (whole : length ws ≡ 16) where
  small : n % 64 < 64
  small = omega arith

  inside : n / 64 % 16 < length ws
  inside = omega (arith, whole)

  -- in the word that was written the bit is that of the new word
  in_word : (w k : ℕ) → k / 64 % 16 ≡ n / 64 % 16 → bit_of (slice_set ws (n / 64 % 16) w) k ≡ bit_at w (k % 64)
  in_word w k same = ap (λ j. bit_at (slice_index (slice_set ws (n / 64 % 16) w) j) (k % 64)) same ∙ ap (λ v. bit_at v (k % 64)) (get_or-set_same ws (n / 64 % 16) w 0 inside)

  elsewhere : (w k : ℕ) → k / 64 % 16 ≢ n / 64 % 16 → bit_of (slice_set ws (n / 64 % 16) w) k ≡ bit_of ws k
  elsewhere w k apart = ap (λ v. bit_at v (k % 64)) (get_or-set_other ws (n / 64 % 16) (k / 64 % 16) w 0 apart)

  -- a word whose bits are those of the old one, but for one bit
  module _ (w b : ℕ) (here : bit_at w (n % 64) ≡ b) (there : (i : ℕ) → i < 64 → i ≢ n % 64 → bit_at w i ≡ bit_at (slice_index ws (n / 64 % 16)) i) where
    pub bit-changed : (k : ℕ) → bit_of (slice_set ws (n / 64 % 16) w) k ≡ (if nat_eq (k % 1024) (n % 1024) then b else bit_of ws k)
    bit-changed k = ⊎_elim
        (λ (word : k / 64 % 16 ≡ n / 64 % 16). ⊎_elim
        (λ (bit : k % 64 ≡ n % 64).
        let same = same_place k n word bit in
        in_word w k word ∙ ap (bit_at w) bit ∙ here ∙ grind (arith, nat_tests, same))
        (λ (bit : k % 64 ≢ n % 64).
        let differs = other_bit k n bit in
        in_word w k word ∙ there (k % 64) (omega arith) bit ∙ ap (λ j. bit_at (slice_index ws j) (k % 64)) (sym word) ∙ grind (arith, nat_tests, differs))
        (cases_eq (k % 64) (n % 64)))
        (λ (word : k / 64 % 16 ≢ n / 64 % 16).
        let differs = other_word k n word in
        elsewhere w k word ∙ grind (arith, nat_tests, differs))
        (cases_eq (k / 64 % 16) (n / 64 % 16))

  pub marked-set : (k : ℕ) → is_marked (slice_set ws (n / 64 % 16) (word_set ws n)) k ≡ (if nat_eq (k % 1024) (n % 1024) then true else is_marked ws k)
  marked-set k = ap (λ b. nat_eq b 1) (bit-changed (word_set ws n) 1 (bit_at_set_same w64 _ (n % 64) small) (λ i _ apart. bit_at_set_other w64 _ (n % 64) small i apart) k) ∙ grind (arith, nat_tests)

  pub marked-clear : (k : ℕ) → is_marked (slice_set ws (n / 64 % 16) (word_cleared ws n)) k ≡ (if nat_eq (k % 1024) (n % 1024) then false else is_marked ws k)
  marked-clear k = ap (λ b. nat_eq b 1) (bit-changed (word_cleared ws n) 0 (bit_at_clear_same w64 _ (n % 64) small) (λ i lt apart. bit_at_clear_other w64 _ (n % 64) small i lt apart) k) ∙ grind (arith, nat_tests)
