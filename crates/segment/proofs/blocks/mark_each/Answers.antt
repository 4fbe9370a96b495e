use Rattle.std.proofs.Common.{◌≡◌, ◌∙◌, ◌∷◌, [], ℤ, arith, ap, get_or, if◌then◌else◌, pos, length}
use Rattle.std.proofs.lemmas.Grind.{common_steps}
use Rattle.std.proofs.lemmas.Int.{to_z-of_z}
use Rattle.doc.specs.Scalar.{long}
use Rattle.analysis.specs.Terms.{is_within}
use Rattle.segment.specs.Limits.{limits_view}
use Rattle.segment.specs.declared.blocks.Number.{Number}
use Rattle.segment.proofs.Blocked.{hits-more, length-marked}
use Rattle.segment.proofs.blocks.mark_each.Goals as goal

-- the place is one of the marks
pub set_if-requires : goal.set_if-requires
set_if-requires c =
    let zeros : Number = record { value = pos 0; place = 0 } in
    omega (arith, c.requires c.loop-number.number-index zeros c.loop-number-test.true, c.loop-number.invariant.whole)

-- one number more
pub loop-number-preserved : goal.loop-number-preserved
loop-number-preserved c =
    let ns = c.args.numbers.now in
    let i = c.loop-number.number-index in
    let zeros : Number = record { value = pos 0; place = 0 } in
    let asked = λ (z : ℤ). is_within (limits_view c.args.limits) (long z) in
    let passes : c.have-passes.result ≡ asked (get_or ns i zeros).value = grind (arith, common_steps, to_z-of_z, c.have-passes.ensures) in
    record {
      whole = ap length c.set_if.ensures ∙ length-marked c.loop-number.marks (if c.have-passes.result then (get_or ns i zeros).place ∷ [] else []) ∙ c.loop-number.invariant.whole;
      marked = c.set_if.ensures ∙ hits-more asked ns i zeros c.loop-number-test.true c.have-passes.result passes c.args.marks.now c.loop-number.marks c.loop-number.invariant.marked;
    }
