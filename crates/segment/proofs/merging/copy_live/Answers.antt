use Rattle.std.proofs.Common.{◌++◌, ◌∙◌, ℕ, [], ◌∷◌, append_assoc, arith, ap, sym, take, List, false}
use Rattle.std.specs.Prelude.{if◌then◌else◌, slice_index_or}
use Rattle.segment.specs.Merged.{chosen}
use Rattle.segment.proofs.MergedLaws.{chosen-more}
use Rattle.segment.proofs.merging.copy_live.Goals as goal

-- one source more
pub loop-source-preserved : goal.loop-source-preserved
loop-source-preserved c =
    let ss = c.args.segment.now.sources in
    let live = c.args.live.now in
    let i = c.loop-source.source-index in
    let s = c.source-item.result in
    let old = c.args.sources.now.items in
    let so_far = chosen (take i ss) (take i live) in
    let here = rw (c.loop-source.invariant.at) at c.get.ensures in
    let one = if slice_index_or live i false then s ∷ [] else [] in
    let item = rw (c.sources-source-items.ensures) at c.source-item.is in
    let lt = rw (c.sources-source-items.ensures) at c.loop-source-test.true in
    record {
      at = omega (arith, c.loop-source.invariant.at);
      there = (rw here at c.in_ok-copy_if.ensures)
          ∙ ap (λ (xs : List (List ℕ)). xs ++ one) c.loop-source.invariant.there
          ∙ append_assoc old so_far one
          ∙ ap (λ (xs : List (List ℕ)). old ++ xs) (sym (chosen-more ss live i s lt c.requires item));
    }
