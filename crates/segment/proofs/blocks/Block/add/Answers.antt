use Rattle.std.proofs.Common.{◌≤ℤ◌, ◌∙◌, ◌++◌, ℤ, ap, arith, length, to_z, of_z, w64}
use Rattle.std.proofs.lemmas.Int.{ints, to_z-of_z}
use Rattle.segment.specs.Blocks.{numbered}
use Rattle.segment.proofs.Blocked.{IsBlock-more}
use Rattle.segment.proofs.blocks.Block.add.Goals as goal

-- the number lies between the first and the last, and so do those that were there
pub returns-clause-is : goal.returns-clause-is
returns-clause-is c =
    let old = c.args.self.now in
    let items = c.in_ok-add_places.ensures ∙ ap (λ (z : ℤ). old.numbers.items ++ numbered z c.args.places.now) (to_z-of_z w64 c.args.number c.ranges.number) in
    let first = to_z w64 (of_z w64 c.min-self.result) in
    let last = to_z w64 (of_z w64 c.max-self.result) in
    let low : first ≤ℤ old.first = omega (arith, ints, c.min-self.ensures.self_bound) in
    let low_here : first ≤ℤ c.args.number = omega (arith, ints, c.min-self.ensures.other_bound) in
    let high : old.last ≤ℤ last = omega (arith, ints, c.max-self.ensures.self_bound) in
    let high_here : c.args.number ≤ℤ last = omega (arith, ints, c.max-self.ensures.other_bound) in
    IsBlock-more (length old.marks) old (record { first = first; last = last; numbers = c.add_places.new.numbers; marks = c.mark.new.self }) c.args.number c.args.places.now c.requires.is c.requires.there items low low_here high high_here c.mark.ensures
