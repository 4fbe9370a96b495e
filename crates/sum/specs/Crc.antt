-- CRC-32C (Castagnoli), bit by bit. A register of 32 bits begins with ones; each byte is mixed into its last eight bits, which are shifted out one by one;
-- where a bit that is shifted out is 1, the polynomial is mixed in. The sum is the register after all bytes, with each bit turned.
use Rattle.std.specs.Prelude.{ℕ, zero, suc, ◌/◌, ◌%◌, List, [], ◌∷◌, nat_eq, if◌then◌else◌}
use Rattle.std.specs.Int.Bits.{bit_xor}

-- the polynomial, its bit of the highest power but 32 last: 82F63B78 in hexadecimal
abbrev pub polynomial : ℕ
polynomial = 2197175160

-- 32 ones
abbrev pub ones : ℕ
ones = 4294967295

-- the register after one bit
abbrev pub shifted : ℕ → ℕ
shifted r = if nat_eq (r % 2) 1 then bit_xor (r / 2) polynomial else r / 2

-- the register after so many bits
unfoldable pub shifted_by : ℕ → ℕ → ℕ
shifted_by zero r = r
shifted_by (suc n) r = shifted_by n (shifted r)

-- the register after a byte
abbrev pub after_byte : ℕ → ℕ → ℕ
after_byte r b = shifted_by 8 (bit_xor r b)

-- the register after some bytes
abbrev pub register_after : ℕ → List ℕ → ℕ
register_after r [] = r
register_after r (b ∷ bs) = register_after (after_byte r b) bs

-- the sum of some bytes
abbrev pub crc32c : List ℕ → ℕ
crc32c bytes = bit_xor (register_after ones bytes) ones
