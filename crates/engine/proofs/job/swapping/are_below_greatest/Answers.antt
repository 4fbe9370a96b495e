use Rattle.std.proofs.Common.{◌∙◌, ap, sym, arith, List}
use Rattle.std.specs.Prelude.{nat_lt}
use Rattle.std.specs.List.{list_all}
use Rattle.std.proofs.lemmas.Bool.Decides.{nat_tests}
use Rattle.std.proofs.lemmas.List.{take_all}
use Rattle.engine.specs.Parts.{PartData, all_published, published_of}
use Rattle.engine.specs.Published.{Published, greatest}
use Rattle.engine.proofs.SwapLaws.{not-all, tested-more}
use Rattle.engine.proofs.job.swapping.are_below_greatest.Goals as goal

pub returns-then-number : goal.returns-then-number
returns-then-number c =
    sym (not-all published_of (λ (s : Published). nat_lt s.number greatest) c.args.parts.now c.loop-part.part-index c.part-item.result c.loop-part-test.true c.part-item.is
    (ap (λ n. nat_lt n greatest) (sym c.number.ensures ∙ c.if-number.true)))

pub loop-part-preserved : goal.loop-part-preserved
loop-part-preserved c =
    tested-more (λ (s : Published). nat_lt s.number greatest) c.args.parts.now c.loop-part.part-index c.part-item.result c.loop-part-test.true c.part-item.is c.loop-part.invariant
    (ap (λ n. nat_lt n greatest) (sym c.number.ensures) ∙ grind (arith, nat_tests, c.if-number.false, c.number.type_inv))

pub returns : goal.returns
returns c = sym (ap (λ (ps : List PartData). list_all (λ (s : Published). nat_lt s.number greatest) (all_published ps)) (sym (take_all c.loop-part.part-index c.args.parts.now c.loop-part-test.false)) ∙ c.loop-part.invariant)
