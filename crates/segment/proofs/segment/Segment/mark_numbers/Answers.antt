use Rattle.std.proofs.Common.{◌≡◌, ◌<◌, ◌∙◌, ℤ, List, ap, arith, get_or, map, subst, sym, length, take}
use Rattle.std.proofs.lemmas.Grind.{common_steps}
use Rattle.std.proofs.lemmas.List.{length-map}
use Rattle.doc.specs.Document.{all_values}
use Rattle.doc.specs.Scalar.{long}
use Rattle.analysis.specs.Terms.{is_within}
use Rattle.marks.specs.Lists.{marked}
use Rattle.segment.specs.Blocks.{IsBlock, hits, numbers_of}
use Rattle.segment.specs.Limits.{limits_view}
use Rattle.segment.specs.declared.blocks.Block.{Block}
use Rattle.segment.proofs.Blocked.{blocks-end, blocks-more, length-marked}
use Rattle.segment.proofs.segment.Segment.mark_numbers.Goals as goal

-- the block is one of these documents
pub mark_block-requires : goal.mark_block-requires
mark_block-requires c =
    let bs = c.args.column.now.blocks.items in
    let docs = map (all_values c.args.self.now.mapping) c.args.self.now.sources in
    let items : c.deref-block-items.result.now ≡ bs = c.deref-block-items.ensures.value in
    let i = c.loop-block.block-index in
    let b = c.block-item.result in
    let lt : i < length bs = subst (λ (cs : List Block). i < length cs) items c.loop-block-test.true in
    let here : b ≡ get_or bs i b = c.block-item.is ∙ ap (λ (cs : List Block). get_or cs i b) items in
    let many : length docs ≡ length c.loop-block.marks = length-map c.args.self.now.sources (all_values c.args.self.now.mapping) ∙ sym (c.loop-block.invariant.whole ∙ c.requires.whole) in
    subst (λ n. IsBlock n b) many (subst (IsBlock (length docs)) (sym here) (c.requires.is.blocks.each i b lt))

-- one block more
pub loop-block-preserved : goal.loop-block-preserved
loop-block-preserved c =
    let bs = c.args.column.now.blocks.items in
    let asked = λ (z : ℤ). is_within (limits_view c.args.limits) (long z) in
    let items : c.deref-block-items.result.now ≡ bs = c.deref-block-items.ensures.value in
    let i = c.loop-block.block-index in
    let b = c.block-item.result in
    let lt : i < length bs = subst (λ (cs : List Block). i < length cs) items c.loop-block-test.true in
    let here : b ≡ get_or bs i b = c.block-item.is ∙ ap (λ (cs : List Block). get_or cs i b) items in
    record {
      whole = ap length c.mark_block.ensures ∙ length-marked c.loop-block.marks (hits asked b.numbers.items) ∙ c.loop-block.invariant.whole;
      marked = c.mark_block.ensures ∙ blocks-more asked bs i b lt here c.args.marks.now c.loop-block.marks c.loop-block.invariant.marked;
    }

-- all blocks
pub returns-clause-is : goal.returns-clause-is
returns-clause-is c =
    let bs = c.args.column.now.blocks.items in
    let asked = λ (z : ℤ). is_within (limits_view c.args.limits) (long z) in
    let all : take c.loop-block.block-index bs ≡ bs = grind (arith, common_steps, c.loop-block-test.false, c.deref-block-items.ensures) in
    c.loop-block.invariant.marked ∙ ap (λ (cs : List Block). marked c.args.marks.now (hits asked (numbers_of cs))) all
    ∙ ap (λ ns. marked c.args.marks.now (hits asked ns)) (c.requires.is.blocks.all c.requires.some)
    ∙ blocks-end c.args.self.now.mapping c.args._name.now (is_within (limits_view c.args.limits)) c.args.column.now.longs (c.requires.is.blocks.ordered c.requires.some) c.args.marks.now c.args.self.now.sources c.requires.whole c.requires.is.longs
