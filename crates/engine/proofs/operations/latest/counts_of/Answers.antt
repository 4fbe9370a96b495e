use Rattle.std.proofs.Common.{◌≡◌, ◌∙◌, ◌++◌, ◌∷◌, ◌+◌, [], List, ℕ, ◌<◌, set, take, get_or, sym, ap, subst, arith}
use Rattle.std.proofs.lemmas.List.{length-set, length-take-le, take_more}
use Rattle.doc.specs.Id.{Id}
use Rattle.engine.specs.IdTables.{count_at}
use Rattle.engine.proofs.IdTablesLaws.{count-small, counted-more, got_at}
use Rattle.engine.proofs.operations.latest.counts_of.Goals as goal

-- no more are counted than there are
pub overflow_add-index_mut : goal.overflow_add-index_mut
overflow_add-index_mut c =
    let qs = c.args.numbers.now in
    let so_far = c.loop-pair.invariant in
    let at = c.place_of-at.result in
    let lt = c.place_of-at.ensures.within in
    omega (
      arith,
      got_at c.loop-pair.counts.items at c.index_mut.result.now (omega (arith, lt, so_far.0)) c.index_mut.ensures.value,
      so_far.1 at lt,
      count-small c.args.len at (take c.loop-pair.pair-index qs),
      length-take-le c.loop-pair.pair-index qs,
      c.loop-pair-test.true,
      c.loop-pair.auto.pair-index-end,
    )

-- one more
pub loop-pair-preserved : goal.loop-pair-preserved
loop-pair-preserved c =
    let qs = c.args.numbers.now in
    let i = c.loop-pair.pair-index in
    let cs = c.loop-pair.counts.items in
    let q = c.pair-item.result in
    let so_far = c.loop-pair.invariant in
    let at = c.place_of-at.result in
    let lt = c.place_of-at.ensures.within in
    let more : take (i + 1) qs ≡ take i qs ++ q ∷ [] = take_more qs i q c.loop-pair-test.true ∙ ap (λ (p : Id × ℕ). take i qs ++ p ∷ []) (sym c.pair-item.is) in (
      length-set cs at (c.index_mut.result.now + 1) ∙ so_far.0,
      subst (λ (ps : List (Id × ℕ)). (p : ℕ) → p < c.args.len → get_or (set cs at (c.index_mut.result.now + 1)) p 0 ≡ count_at c.args.len p ps) (sym more)
          (counted-more cs c.args.len at c.index_mut.result.now (take i qs) q so_far.0 lt c.place_of-at.ensures.is (got_at cs at c.index_mut.result.now (omega (arith, lt, so_far.0)) c.index_mut.ensures.value) so_far.1),
    )
