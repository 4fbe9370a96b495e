use Rattle.std.proofs.Common.{◌≡◌, ◌<◌, ◌∙◌, ℕ, get_or, arith, length, length-set}
use Rattle.std.proofs.lemmas.List.{get_or-set_other, get_or-set_same}
use Rattle.std.proofs.Math.ListN.{set}
use borrow.Author.Count.{below_more}
use Rattle.sum.specs.Crc.{shifted_by}
use Rattle.sum.proofs.table.Table.new.Goals as goal

pub loop-byte-preserved : goal.loop-byte-preserved
loop-byte-preserved c =
    let entries = c.loop-byte.entries in
    let entry = c.entry_of.result in
    let here : c.loop-byte.byte < length entries = omega (arith, c.loop-byte.invariant.0) in (
      length-set entries c.loop-byte.byte entry ∙ c.loop-byte.invariant.0,
      below_more (λ (byte : ℕ). get_or (set entries c.loop-byte.byte entry) byte 0 ≡ shifted_by 8 byte) c.loop-byte.byte
          (λ (byte : ℕ) (below : byte < c.loop-byte.byte). get_or-set_other entries c.loop-byte.byte byte entry 0 (omega arith) ∙ c.loop-byte.invariant.1 byte below)
          (get_or-set_same entries c.loop-byte.byte entry 0 here ∙ c.entry_of.ensures),
    )
