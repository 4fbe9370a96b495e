use Rattle.std.proofs.Common.{◌≡◌, ◌≤ℤ◌, ◌∙◌, ℤ, true, sym, subst, arith, rules, SFits, w64}
use Rattle.std.proofs.lemmas.Grind.{common_steps}
use Rattle.std.proofs.lemmas.Int.{to_z-of_z}
use Rattle.doc.specs.Scalar.{long}
use Rattle.analysis.specs.Terms.{is_within}
use Rattle.segment.specs.Limits.{limits_view}
use Rattle.segment.proofs.Blocked.{block-length, block-none, block-whole}
use Rattle.segment.proofs.blocks.mark_block.Goals as goal

pub unite-requires : goal.unite-requires
unite-requires c = block-length _ c.args.block.now c.requires

-- all numbers pass
pub returns-then-have-2 : goal.returns-then-have-2
returns-then-have-2 c =
    let b = c.args.block.now in
    let passes = λ (z : ℤ). is_within (limits_view c.args.limits) (long z) in
    let one : passes b.first ≡ true = grind (arith, common_steps, to_z-of_z, c.have.ensures, c.if-have.true) in
    let other : passes b.last ≡ true = grind (arith, common_steps, to_z-of_z, c.have-then-have.ensures, c.if-have-2.true) in
    c.unite.ensures ∙ block-whole c.args.limits c.args.marks.now b c.requires one other

-- none does
pub returns-else-may_have : goal.returns-else-may_have
returns-else-may_have c =
    let b = c.args.block.now in
    let first : SFits w64 b.first = search rules in
    let last : SFits w64 b.last = search rules in
    block-none c.args.limits c.args.marks.now b c.requires c.may_have.result c.if-may_have.false
    (λ z low high is. c.may_have.ensures z (subst (λ (y : ℤ). y ≤ℤ z) (sym (to_z-of_z w64 b.first first)) low) (subst (λ (y : ℤ). z ≤ℤ y) (sym (to_z-of_z w64 b.last last)) high) is)
