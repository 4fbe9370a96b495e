use Rattle.std.proofs.Common.{◌≡◌, ◌∙◌, ◌<◌, ap, sym, arith, ℕ, true, false, ◌&&◌, nat_lt, nat_le, map, slice_index}
use Rattle.std.proofs.lemmas.Bool.Decides.{nat_tests}
use Rattle.std.proofs.lemmas.List.{ext_get_or, length-map, get_or-map}
use Rattle.search.proofs.counts.at_least.Goals as goal

before : (k at : ℕ) → k < at → nat_lt k at ≡ true
before k at lt = grind (arith, nat_tests, lt)

pub returns : goal.returns
returns c =
    let test = λ (n : ℕ). nat_le c.args.wanted n in
    ext_get_or false c.loop-at.marks (map test c.args.counts.now) (c.loop-at.invariant.whole ∙ sym (length-map c.args.counts.now test))
    (λ k lt. c.loop-at.invariant.each k
    ∙ ap (λ b. b && test (slice_index c.args.counts.now k)) (before k c.loop-at.at (omega (arith, lt, c.loop-at.invariant.whole, c.loop-at-test.false)))
    ∙ sym (get_or-map test c.args.counts.now k 0 false (omega (arith, lt, c.loop-at.invariant.whole))))
