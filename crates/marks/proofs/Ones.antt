-- Words of marks alone.
use Rattle.std.proofs.Common.{◌≡◌, ℕ, ◌+◌, ◌-◌, ◌/◌, ◌%◌, ◌^◌, ◌<◌, ◌≤◌, replicate, ap, ◌∙◌, arith, nat_lt, if◌then◌else◌, slice_index, slice_set, ⊎_elim}
use Rattle.std.proofs.lemmas.Bool.{cases_eq, cases_lt}
use Rattle.std.proofs.lemmas.Bool.Decides.{nat_tests}
use Rattle.std.proofs.lemmas.List.{get_or-replicate, get_or_past, length-replicate, get_or-set_same, get_or-set_other}
use Rattle.std.proofs.lemmas.Nat.Bits.{bit_at_ones, bit_at_ones_above, bit_at-zero, ones_shr}
use Rattle.std.specs.Int.{bit_at}
use Rattle.marks.specs.Bits.{mark_at}
use mathlib.Core.Logic.{◌≢◌}

-- within and past so many words
mark-within : (m k : ℕ) → k / 64 < m → mark_at (replicate m 18446744073709551615) k ≡ 1
mark-within m k lt = ap (λ w. bit_at w (k % 64)) (get_or-replicate m (k / 64) 18446744073709551615 0 lt) ∙ bit_at_ones 64 (k % 64) (omega arith)

mark-past : (m k : ℕ) → m ≤ k / 64 → mark_at (replicate m 18446744073709551615) k ≡ 0
mark-past m k le = ap (λ w. bit_at w (k % 64)) (get_or_past (replicate m 18446744073709551615) (k / 64) 0 (omega (arith, le, length-replicate {A = ℕ} m 18446744073709551615))) ∙ bit_at-zero (k % 64)

test-true : (k n : ℕ) → k < n → ◌≡◌ {A = ℕ} 1 (if nat_lt k n then 1 else 0)
test-true k n lt = grind (arith, nat_tests, lt)

test-false : (k n : ℕ) → n ≤ k → ◌≡◌ {A = ℕ} 0 (if nat_lt k n then 1 else 0)
test-false k n le = grind (arith, nat_tests, le)

module _ (len k : ℕ) where
  -- whole words
  pub ones-whole : len % 64 ≡ 0 → mark_at (replicate ((len + 63) / 64) 18446744073709551615) k ≡ (if nat_lt k len then 1 else 0)
  ones-whole none = ⊎_elim
      (λ (lt : k < len). mark-within ((len + 63) / 64) k (omega (arith, lt, none)) ∙ test-true k len lt)
      (λ (le : len ≤ k). mark-past ((len + 63) / 64) k (omega (arith, le, none)) ∙ test-false k len le)
      (cases_lt k len)

  -- a last word with some
  module _ (w : ℕ) (is : w ≡ 18446744073709551615 / 2 ^ (64 - len % 64)) (some : len % 64 ≢ 0) where
    word : w ≡ 2 ^ (len % 64) - 1
    word = is ∙ ones_shr 64 (64 - len % 64) (omega arith) ∙ ap (λ n. 2 ^ n - 1) (omega arith)

    here : k / 64 ≡ len / 64 → mark_at (slice_set (replicate ((len + 63) / 64) 18446744073709551615) (len / 64) w) k ≡ bit_at (2 ^ (len % 64) - 1) (k % 64)
    here same =
        ap (λ j. bit_at (slice_index (slice_set (replicate ((len + 63) / 64) 18446744073709551615) (len / 64) w) j) (k % 64)) same
        ∙ ap (λ v. bit_at v (k % 64)) (get_or-set_same (replicate ((len + 63) / 64) 18446744073709551615) (len / 64) w 0 (omega (arith, some, length-replicate {A = ℕ} ((len + 63) / 64) 18446744073709551615)) ∙ word)

    there : k / 64 ≢ len / 64 → mark_at (slice_set (replicate ((len + 63) / 64) 18446744073709551615) (len / 64) w) k ≡ mark_at (replicate ((len + 63) / 64) 18446744073709551615) k
    there apart = ap (λ v. bit_at v (k % 64)) (get_or-set_other (replicate ((len + 63) / 64) 18446744073709551615) (len / 64) (k / 64) w 0 apart)

    inside : k < len → mark_at (slice_set (replicate ((len + 63) / 64) 18446744073709551615) (len / 64) w) k ≡ 1
    inside lt = ⊎_elim
        (λ (same : k / 64 ≡ len / 64). here same ∙ bit_at_ones (len % 64) (k % 64) (omega (arith, same, lt)))
        (λ (apart : k / 64 ≢ len / 64). there apart ∙ mark-within ((len + 63) / 64) k (omega (arith, lt)))
        (cases_eq (k / 64) (len / 64))

    past : len ≤ k → mark_at (slice_set (replicate ((len + 63) / 64) 18446744073709551615) (len / 64) w) k ≡ 0
    past le = ⊎_elim
        (λ (same : k / 64 ≡ len / 64). here same ∙ bit_at_ones_above (len % 64) (k % 64) (omega (arith, same, le)))
        (λ (apart : k / 64 ≢ len / 64). there apart ∙ mark-past ((len + 63) / 64) k (let more : len / 64 < k / 64 = omega (arith, le, apart) in omega (arith, more)))
        (cases_eq (k / 64) (len / 64))

    pub ones-some : mark_at (slice_set (replicate ((len + 63) / 64) 18446744073709551615) (len / 64) w) k ≡ (if nat_lt k len then 1 else 0)
    ones-some = ⊎_elim
        (λ (lt : k < len). inside lt ∙ test-true k len lt)
        (λ (le : len ≤ k). past le ∙ test-false k len le)
        (cases_lt k len)
