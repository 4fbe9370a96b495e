use Rattle.std.proofs.Common.{◌≡◌, ◌∙◌, true, ap, filter, map, subst, sym, take, List}
use denote.Ref.{Bor}
use Rattle.std.specs.FinMap.Entries.{is_sorted}
use Rattle.std.proofs.lemmas.List.{take-map}
use Rattle.doc.specs.Id.{id_cmp}
use Rattle.op.specs.Documents.{Documents}
use Rattle.engine.specs.Before.{is_behind}
use Rattle.engine.specs.Entry.{entry_view}
use Rattle.engine.specs.Parts.{merged, woven}
use Rattle.engine.specs.Shown.{seen, seen_all}
use Rattle.engine.specs.declared.read.block.Shown.{Shown}
use Rattle.engine.proofs.ApartLaws.{found-in_order, share-in_order, limited-more}
use Rattle.engine.proofs.PageLaws.{listed-at, listed-sorted, listed-within}
use Rattle.engine.proofs.read.paging.first_from.Goals as goal

pub entries_from-requires : goal.entries_from-requires
entries_from-requires c =
    subst (λ (rs : List (Bor Shown)). is_sorted id_cmp (seen rs) ≡ true) (sym c.deref.ensures.value)
    (listed-sorted c.args.lists.now c.loop-list.list-index c.list-item.result c.loop-list-test.true c.list-item.is c.requires.sorted)

-- what was found so far is in order
pub merge_owned-requires-clause-left : goal.merge_owned-requires-clause-left
merge_owned-requires-clause-left c =
    let vs = c.args.lists.now in
    let i = c.loop-list.list-index in
    let v = c.list-item.result in
    subst (λ (ds : Documents). is_sorted id_cmp ds ≡ true) (sym c.loop-list.invariant)
    (found-in_order (is_behind c.args.id.now) (seen_all vs) i (seen v.items) c.requires (listed-within vs i v c.loop-list-test.true c.list-item.is) c.args.wanted)

-- and what the list has
pub merge_owned-requires-clause-right : goal.merge_owned-requires-clause-right
merge_owned-requires-clause-right c =
    let vs = c.args.lists.now in
    let i = c.loop-list.list-index in
    let v = c.list-item.result in
    let g = is_behind c.args.id.now in
    let at = listed-at vs i v c.loop-list-test.true c.list-item.is in
    let share = c.in_ok-more.ensures ∙ ap (λ (rs : List (Bor Shown)). take c.args.wanted (filter g (seen rs))) c.deref.ensures.value ∙ ap (λ (ds : Documents). take c.args.wanted (filter g ds)) (sym at) in
    subst (λ (ds : Documents). is_sorted id_cmp ds ≡ true) (sym share) (share-in_order g (seen_all vs) i (seen v.items) c.requires (listed-within vs i v c.loop-list-test.true c.list-item.is) c.args.wanted)

-- one list more
pub loop-list-preserved : goal.loop-list-preserved
loop-list-preserved c =
    let vs = c.args.lists.now in
    let i = c.loop-list.list-index in
    let v = c.list-item.result in
    let g = is_behind c.args.id.now in
    let n = c.args.wanted in
    let at = listed-at vs i v c.loop-list-test.true c.list-item.is in
    let share = c.in_ok-more.ensures ∙ ap (λ (rs : List (Bor Shown)). take n (filter g (seen rs))) c.deref.ensures.value ∙ ap (λ (ds : Documents). take n (filter g ds)) (sym at) in
    ap (map entry_view) c.truncate.ensures.items ∙ sym (take-map entry_view n c.in_ok-first.first.items)
    ∙ ap (take n) (c.in_ok-first.ensures ∙ ap (λ (ds : Documents). merged ds (map entry_view c.in_ok-more.more.items)) c.loop-list.invariant ∙ ap (merged (take n (filter g (woven (take i (seen_all vs)))))) share)
    ∙ limited-more g (seen_all vs) i (seen v.items) c.requires (listed-within vs i v c.loop-list-test.true c.list-item.is) n
