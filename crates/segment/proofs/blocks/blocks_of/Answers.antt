use Rattle.std.proofs.Common.{◌≡◌, ◌<◌, ◌∙◌, ◌∷◌, [], ◌++◌, ℤ, All, List, ap, arith, map, subst, sym, w64, SFits, rules}
use Rattle.std.specs.Map.Iter.{deref_pair}
use Rattle.std.specs.Option.{option_map_or}
use Rattle.std.proofs.lemmas.Cmp.{int_cmp_total}
use Rattle.std.proofs.lemmas.Int.{to_z-of_z}
use Rattle.std.proofs.lemmas.List.{map-append}
use Rattle.std.proofs.lemmas.Map.Iter.{btree_map_turn, iter_end}
use Rattle.segment.specs.Blocks.{IsBlock, listed, numbered, numbers_of}
use Rattle.segment.specs.Places.{as_list, places_at_long}
use Rattle.segment.specs.declared.blocks.Number.{Number}
use Rattle.segment.proofs.Blocked.{AreBlocks-all, block-length, listed-more}
use Rattle.segment.proofs.blocks.blocks_of.Goals as goal

-- no number yet
pub loop-number-init : goal.loop-number-init
loop-number-init c = record {
  are = subst (λ bs. All (IsBlock c.args.len) bs) (sym c.new-closed.ensures.items) (λ k d lt. absurd (omega (arith, lt)));
  is = c.in_ok-block.ensures.is;
  same = ap (λ bs. numbers_of bs ++ c.in_ok-block.block.numbers.items) c.new-closed.ensures.items ∙ c.in_ok-block.ensures.empty;
}

pub add-requires-clause-is : goal.add-requires-clause-is
add-requires-clause-is c = subst (λ n. IsBlock n c.loop-number.block) (sym (block-length c.args.len c.loop-number.block c.loop-number.invariant.is)) c.loop-number.invariant.is

-- the places are those of documents
pub add-requires-clause-there : goal.add-requires-clause-there
add-requires-clause-there c =
    let gives = c.into_iter-number-iterator.ensures.into_iter_gives in
    let turn = btree_map_turn deref_pair c.loop-number.yielded c.into_iter-number-iterator.result c.loop-number.number-iterator c.next.new.self c.next.result (c.in-Some.number, c.in-Some.places) c.loop-number.yielded_by c.in-Some.is c.next.ensures.steps int_cmp_total c.args.longs.now gives.0 gives.5 in
    let here : places_at_long c.args.longs.now c.in-Some.number.now ≡ c.as_slice.result.now = ap (λ o. option_map_or as_list o []) turn.1 ∙ sym c.as_slice.ensures in
    subst (λ n. All (λ p. p < n) c.as_slice.result.now) (sym (block-length c.args.len c.loop-number.block c.loop-number.invariant.is))
    (subst (λ ps. All (λ p. p < c.args.len) ps) here (c.requires c.in-Some.number.now))

-- the open block has the places of the number, too
pub loop-number-preserved : goal.loop-number-preserved
loop-number-preserved c =
    let seen = map deref_pair c.loop-number.yielded in
    let k = c.in-Some.number.now in
    let fits : SFits w64 k = search rules in
    let bs = c.loop-number.closed.items in
    let ns = c.loop-number.block.numbers.items in
    let added = c.in_ok-add.ensures.more ∙ ap (λ (z : ℤ). ns ++ numbered z c.as_slice.result.now) (to_z-of_z w64 k fits) ∙ ap (λ ps. ns ++ numbered k ps) c.as_slice.ensures in
    record {
      are = c.in_ok-close_if_full.ensures.are;
      is = c.in_ok-close_if_full.ensures.is;
      same = c.in_ok-close_if_full.ensures.same ∙ ap (λ (ms : List Number). numbers_of bs ++ ms) added
          ∙ listed-more bs ns seen (k, c.in-Some.places.now) c.loop-number.invariant.same
          ∙ ap listed (sym (map-append deref_pair c.loop-number.yielded ((c.in-Some.number, c.in-Some.places) ∷ [])));
    }

pub close_if_full-requires-clause-is : goal.close_if_full-requires-clause-is
close_if_full-requires-clause-is c = subst (λ n. IsBlock n c.add.new.self) (block-length c.args.len c.loop-number.block c.loop-number.invariant.is) c.in_ok-add.ensures.is

pub returns : goal.returns
returns c =
    let gives = c.into_iter-number-iterator.ensures.into_iter_gives in
    let end = iter_end deref_pair c.args.longs.now.entries c.loop-number.yielded c.into_iter-number-iterator.result c.loop-number.number-iterator c.next.new.self c.next.result gives.0 c.loop-number.yielded_by c.in-None.is c.next.ensures.steps in
    AreBlocks-all c.args.len c.args.longs.now c.loop-number.closed.items c.push.new.self.items c.loop-number.block gives.5 c.loop-number.invariant.are c.loop-number.invariant.is c.in_ok-push.ensures.items (c.loop-number.invariant.same ∙ ap listed end.0)
