use Rattle.std.proofs.Common.{◌≡◌, ◌∙◌, ℕ, ◌/◌, ◌%◌, ap, arith}
use Rattle.std.specs.Int.Bits.{bit_and, bit_xor}
use Rattle.std.proofs.lemmas.Nat.{and_mask}
use Rattle.sum.specs.Crc.{shifted_by}
use Rattle.sum.proofs.Shifts.{by_the_table}
use Rattle.sum.proofs.table.Table.after_byte.Goals as goal

pub returns : goal.returns
returns c =
    let m = bit_xor c.args.register c.args.byte in
    let last : bit_and m 255 ≡ m % 256 = and_mask m 8 in
    ap (λ (x : ℕ). bit_xor x (m / 256)) (c.args.self.now.entry (bit_and m 255) (omega (arith, last)) ∙ ap (shifted_by 8) last) ∙ by_the_table m
