-- Bits of words, and the words of blocks.
use Rattle.std.proofs.Common.{◌≡◌, ◌<◌, ◌≤◌, ◌*◌, ◌+◌, ◌-◌, ◌/◌, ◌%◌, ◌^◌, ℕ, List, true, ◌&&◌, ◌||◌, not, length, sym, ap, ◌∙◌, arith, slice_index, slice_set, nat_eq, nat_lt, bit_and, bit_or, if◌then◌else◌, ⊎_elim, w64}
use Rattle.std.proofs.lemmas.Bool.{cases_eq, cases_lt}
use Rattle.std.proofs.lemmas.Bool.Decides.{nat_tests}
use Rattle.std.proofs.lemmas.List.{get_or-set_same, get_or-set_other}
use Rattle.std.specs.Int.{bit_not}
use Rattle.std.proofs.lemmas.Nat.Bits.{bit_at-lt, bit_at_and, bit_at_or, bit_at_not, bit_at_ones, bit_at_ones_above, bit_at_set_same, bit_at_set_other}
use Rattle.std.proofs.lemmas.Nat.{one_shl}
use mathlib.Core.Logic.{◌≢◌}
use Rattle.checkpoint.specs.Span.{is_set, is_spanned}

-- ---- bits of a word

pub set-and : (a b i : ℕ) → is_set (bit_and a b) i ≡ (is_set a i && is_set b i)
set-and a b i = ap (λ r. nat_eq r 1) (bit_at_and a b i) ∙ grind (arith, nat_tests, bit_at-lt a i, bit_at-lt b i)

pub set-or : (a b i : ℕ) → is_set (bit_or a b) i ≡ (is_set a i || is_set b i)
set-or a b i = ap (λ r. nat_eq r 1) (bit_at_or a b i) ∙ grind (arith, nat_tests, bit_at-lt a i, bit_at-lt b i)

pub set-not : (a i : ℕ) → a < 2 ^ 64 → i < 64 → is_set (bit_not w64 a) i ≡ not (is_set a i)
set-not a i fits lt = ap (λ r. nat_eq r 1) (bit_at_not w64 a i fits lt) ∙ grind (arith, nat_tests, bit_at-lt a i)

-- all ones, and low ones
pub all-ones : (n i : ℕ) → 64 ≤ n → i < 64 → is_set 18446744073709551615 i ≡ nat_lt i n
all-ones n i le lt = ap (λ r. nat_eq r 1) (bit_at_ones 64 i lt) ∙ grind (arith, nat_tests, le, lt)

one-up : (n : ℕ) → n < 64 → 1 * 2 ^ n % 18446744073709551616 - 1 ≡ 2 ^ n - 1
one-up n lt = ap (λ m. m - 1) (one_shl n 64 lt)

pub low-ones : (n i : ℕ) → n < 64 → i < 64 → is_set (1 * 2 ^ n % 18446744073709551616 - 1) i ≡ nat_lt i n
low-ones n i small lt = ap (λ m. is_set m i) (one-up n small) ∙ ⊎_elim
    (λ (in_it : i < n). ap (λ r. nat_eq r 1) (bit_at_ones n i in_it) ∙ grind (arith, nat_tests, in_it))
    (λ (past : n ≤ i). ap (λ r. nat_eq r 1) (bit_at_ones_above n i past) ∙ grind (arith, nat_tests, past))
    (cases_lt i n)

-- ---- words of blocks

-- two numbers stand at one place where word and bit are the same
place : (k : ℕ) → k % 1088 ≡ 64 * (k / 64 % 17) + k % 64
place k = omega arith

same_place : (k n : ℕ) → k / 64 % 17 ≡ n / 64 % 17 → k % 64 ≡ n % 64 → k % 1088 ≡ n % 1088
same_place k n word bit = place k ∙ omega (arith, word, bit, place n)

other_word : (k n : ℕ) → k / 64 % 17 ≢ n / 64 % 17 → k % 1088 ≢ n % 1088
other_word k n word same = word (omega (arith, same, place k, place n))

other_bit : (k n : ℕ) → k % 64 ≢ n % 64 → k % 1088 ≢ n % 1088
other_bit k n bit same = bit (omega (arith, same, place k, place n))

module _ (ws : List ℕ) (j w : ℕ) (inside : j < length ws) where
  in_word : (k : ℕ) → k / 64 % 17 ≡ j → is_spanned (slice_set ws j w) k ≡ is_set w (k % 64)
  in_word k same = ap (λ i. is_set (slice_index (slice_set ws j w) i) (k % 64)) same ∙ ap (λ v. is_set v (k % 64)) (get_or-set_same ws j w 0 inside)

  elsewhere : (k : ℕ) → k / 64 % 17 ≢ j → is_spanned (slice_set ws j w) k ≡ is_spanned ws k
  elsewhere k apart = ap (λ v. is_set v (k % 64)) (get_or-set_other ws j (k / 64 % 17) w 0 apart)

pub spanned-keep : (ws : List ℕ) (j mask : ℕ) → j < length ws → (k : ℕ) →
    is_spanned (slice_set ws j (bit_and (slice_index ws j) mask)) k ≡ (if nat_eq (k / 64 % 17) j then is_spanned ws k && is_set mask (k % 64) else is_spanned ws k)
spanned-keep ws j mask inside k = ⊎_elim
    (λ (same : k / 64 % 17 ≡ j).
    in_word ws j (bit_and (slice_index ws j) mask) inside k same ∙ set-and (slice_index ws j) mask (k % 64) ∙ ap (λ i. is_set (slice_index ws i) (k % 64) && is_set mask (k % 64)) (sym same) ∙ grind (arith, nat_tests, same))
    (λ (apart : k / 64 % 17 ≢ j). elsewhere ws j (bit_and (slice_index ws j) mask) inside k apart ∙ grind (arith, nat_tests, apart))
    (cases_eq (k / 64 % 17) j)

-- the word of a number with its bit set
abbrev pub with_number : List ℕ → ℕ → ℕ
with_number ws n = bit_or (slice_index ws (n / 64 % 17)) (1 * 2 ^ (n % 64) % 18446744073709551616)

pub spanned-set : (ws : List ℕ) (n : ℕ) → length ws ≡ 17 → (k : ℕ) →
    is_spanned (slice_set ws (n / 64 % 17) (with_number ws n)) k ≡ (if nat_eq (k % 1088) (n % 1088) then true else is_spanned ws k)
spanned-set ws n whole k = ⊎_elim
    (λ (word : k / 64 % 17 ≡ n / 64 % 17). in_word ws (n / 64 % 17) (with_number ws n) inside k word ∙ ⊎_elim
    (λ (bit : k % 64 ≡ n % 64).
    let same = same_place k n word bit in
    ap (is_set (with_number ws n)) bit ∙ ap (λ r. nat_eq r 1) (bit_at_set_same w64 _ (n % 64) small) ∙ grind (arith, nat_tests, same))
    (λ (bit : k % 64 ≢ n % 64).
    let differs = other_bit k n bit in
    ap (λ r. nat_eq r 1) (bit_at_set_other w64 _ (n % 64) small (k % 64) bit) ∙ ap (λ i. is_set (slice_index ws i) (k % 64)) (sym word) ∙ grind (arith, nat_tests, differs))
    (cases_eq (k % 64) (n % 64)))
    (λ (word : k / 64 % 17 ≢ n / 64 % 17).
    let differs = other_word k n word in
    elsewhere ws (n / 64 % 17) (with_number ws n) inside k word ∙ grind (arith, nat_tests, differs))
    (cases_eq (k / 64 % 17) (n / 64 % 17))
  where
    small : n % 64 < 64
    small = omega arith

    inside : n / 64 % 17 < length ws
    inside = omega (arith, whole)
