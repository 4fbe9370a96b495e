-- Shifts of a register of which the last bits are shifted out, and the others come down.
use Rattle.std.proofs.Common.{◌≡◌, ◌∙◌, ℕ, zero, suc, ◌<◌, ◌^◌, ◌+◌, ◌*◌, ◌/◌, ◌%◌, Bool, true, false, nat_eq, if◌then◌else◌, refl, sym, ap, arith}
use Rattle.std.specs.Int.Bits.{bit_xor, xor_assoc, xor_zero_l, xor_zero_r}
use Rattle.std.proofs.lemmas.Nat.{div-add-mod', mod_below, pow_pos, shr_split, xor_block, xor_comm, xor_lt}
use Rattle.sum.specs.Crc.{polynomial, shifted, shifted_by}

-- the polynomial is mixed in, or isn't
abbrev pub turned : Bool → ℕ → ℕ
turned bit r = if bit then bit_xor r polynomial else r

mixed : (n h x p : ℕ) → x < 2 ^ n → bit_xor (h * 2 ^ n + x) p ≡ bit_xor h (p / 2 ^ n) * 2 ^ n + bit_xor x (p % 2 ^ n)
mixed n h x p s =
    ap (bit_xor (h * 2 ^ n + x)) (sym (shr_split p n)) ∙ xor_block n h (p / 2 ^ n) x (p % 2 ^ n) s (mod_below p (2 ^ n) (pow_pos n))

mixed_low : (n x p : ℕ) → x < 2 ^ n → bit_xor x p ≡ p / 2 ^ n * 2 ^ n + bit_xor x (p % 2 ^ n)
mixed_low n x p s =
    let none : 0 * 2 ^ n + x ≡ x = grind arith in
    ap (λ (y : ℕ). bit_xor y p) (sym none) ∙ mixed n 0 x p s ∙ ap (λ (y : ℕ). y * 2 ^ n + bit_xor x (p % 2 ^ n)) (xor_zero_l (p / 2 ^ n))

-- what comes down is mixed with what was there
joined : (s h p : ℕ) → bit_xor s (bit_xor h p) ≡ bit_xor (bit_xor s p) h
joined s h p = ap (bit_xor s) (xor_comm h p) ∙ sym (xor_assoc s p h)

turned_down : (bit : Bool) (n h x : ℕ) → x < 2 ^ n → ((h l : ℕ) → l < 2 ^ n → shifted_by n (h * 2 ^ n + l) ≡ bit_xor (shifted_by n l) h)
    → shifted_by n (turned bit (h * 2 ^ n + x)) ≡ bit_xor (shifted_by n (turned bit x)) h
turned_down false n h x s down = down h x s
turned_down true n h x s down =
    let y = bit_xor x (polynomial % 2 ^ n) in
    let p = polynomial / 2 ^ n in
    let small : y < 2 ^ n = xor_lt n x (polynomial % 2 ^ n) s (mod_below polynomial (2 ^ n) (pow_pos n)) in
    ap (shifted_by n) (mixed n h x polynomial s) ∙ down (bit_xor h p) y small ∙ joined (shifted_by n y) h p
    ∙ ap (λ (z : ℕ). bit_xor z h) (sym (down p y small)) ∙ ap (λ (z : ℕ). bit_xor (shifted_by n z) h) (sym (mixed_low n x polynomial s))

half : (q l : ℕ) → (q * 2 + l) / 2 ≡ q + l / 2
half q l = omega arith

parity : (q l : ℕ) → (q * 2 + l) % 2 ≡ l % 2
parity q l = omega arith

twice : (n h : ℕ) → h * 2 ^ suc n ≡ h * 2 ^ n * 2
twice n h = grind arith

once : (q l : ℕ) → shifted (q * 2 + l) ≡ turned (nat_eq (l % 2) 1) (q + l / 2)
once q l = rw (parity q l, half q l) refl

comes_down : (n h l : ℕ) → l < 2 ^ n → shifted_by n (h * 2 ^ n + l) ≡ bit_xor (shifted_by n l) h
unfolding shifted_by
comes_down zero h l s =
    let none : l ≡ 0 = omega (arith, s) in
    let same : bit_xor l h ≡ h = ap (λ (y : ℕ). bit_xor y h) none ∙ xor_zero_l h in
    rw same (omega arith)
comes_down (suc n) h l s =
    let two : 2 ^ suc n ≡ 2 ^ n * 2 = grind arith in
    let small : l / 2 < 2 ^ n = omega arith in
    ap (shifted_by n) (ap (λ (m : ℕ). shifted (m + l)) (twice n h) ∙ once (h * 2 ^ n) l)
    ∙ turned_down (nat_eq (l % 2) 1) n h (l / 2) small (λ (k m : ℕ) (below : m < 2 ^ n). comes_down n k m below)

pub by_the_table : (m : ℕ) → bit_xor (shifted_by 8 (m % 256)) (m / 256) ≡ shifted_by 8 m
by_the_table m = sym (comes_down 8 (m / 256) (m % 256) (omega arith)) ∙ ap (shifted_by 8) (div-add-mod' m 256)
