-- Numbers in words.
use Rattle.std.proofs.Common.{◌≡◌, ℕ, ◌^◌, ◌<◌, Bool, true, false, ◌&&◌, List, length, Option, Some, None, Result, Ok, Err, refl, sym, ap, ◌∙◌, arith, if◌then◌else◌}
use Rattle.std.specs.Prelude.{nat_lt, nat_le}
use Rattle.std.specs.Result.{OkIff}
use Rattle.std.specs.Str.{all_ascii_digits}
use Rattle.std.specs.Str.Parse.{ParsesUnsigned, digits_value}
use Rattle.std.proofs.lemmas.Bool.Decides.{nat_tests}
use Rattle.std.proofs.lemmas.Str.Parse.{IsNumeralModel, numerals_by_value, tells_all_ascii_digits, parse_digits}
use Rattle.wire.specs.Number.{is_number, number_of}

own : IsNumeralModel (λ ds. all_ascii_digits ds ≡ true) (digits_value 10)
own = numerals_by_value _ tells_all_ascii_digits

both : (a b : Bool) → (a && b) ≡ true → (a ≡ true) × (b ≡ true)
both true true e = (refl, refl)
both true false e = absurd cc
both false b e = absurd cc

-- a small number
abbrev pub small_number : ℕ → Option ℕ
small_number n = if nat_lt n (2 ^ 63) then Some n else None

-- the number of a word of digits
abbrev pub read_number : {E : Type 0} → Result ℕ E → Option ℕ
read_number (Ok n) = small_number n
read_number (Err e) = None

number_of-digits : (s : List ℕ) → is_number s ≡ true → number_of s ≡ small_number (digits_value 10 s)
number_of-digits s is = rw is refl

small_none : (n : ℕ) → ¬ (n < 2 ^ 64) → None ≡ small_number n
small_none n large = grind (arith, nat_tests)

gives : {E : Type 0} (r : Result ℕ E) (s : List ℕ) → is_number s ≡ true → 0 < length s → OkIff r ((0 < length s) × (digits_value 10 s < 2 ^ 64)) (digits_value 10 s) → read_number r ≡ number_of s
gives (Ok n) s is some h = ap small_number h.1 ∙ sym (number_of-digits s is)
gives (Err e) s is some h = small_none (digits_value 10 s) (λ lt. h (some, lt)) ∙ sym (number_of-digits s is)

-- what `parse` gives of a word of digits
pub read_number-parse : {E : Type 0} (s : List ℕ) (r : Result ℕ E) → ParsesUnsigned 64 10 s r → is_number s ≡ true → read_number r ≡ number_of s
read_number-parse s r h is =
    let parts = both (nat_lt 0 (length s) && nat_le (length s) 19) (all_ascii_digits s) is in
    let lengths = both (nat_lt 0 (length s)) (nat_le (length s) 19) parts.0 in
    let some : 0 < length s = grind (arith, nat_tests, lengths.0) in
    gives r s is some (parse_digits own 64 s r h parts.1)

-- another word is no number
pub number_of-other : (s : List ℕ) → is_number s ≡ false → None ≡ number_of s
number_of-other s is = rw is refl
