use Rattle.std.proofs.Common.{◌≡◌, ◌∙◌, ◌+◌, true, ap, arith, filter, length, subst, sym, take, List}
use denote.Ref.{Bor}
use Rattle.std.specs.FinMap.Entries.{is_sorted}
use Rattle.std.proofs.lemmas.List.Sums.{sum_by_more}
use Rattle.doc.specs.Id.{id_cmp}
use Rattle.op.specs.Documents.{Documents}
use Rattle.engine.specs.Before.{is_before, rank}
use Rattle.engine.specs.Shown.{seen, seen_all}
use Rattle.engine.specs.declared.read.block.Shown.{Shown}
use Rattle.engine.proofs.PageLaws.{listed-at, listed-sorted, listed-within}
use Rattle.engine.proofs.read.paging.rank_within.Goals as goal

pub count_before-count-requires : goal.count_before-count-requires
count_before-count-requires c =
    subst (λ (rs : List (Bor Shown)). is_sorted id_cmp (seen rs) ≡ true) (sym c.deref.ensures.value)
    (listed-sorted c.args.lists.now c.loop-list.list-index c.list-item.result c.loop-list-test.true c.list-item.is c.requires)

-- one list more
pub loop-list-preserved : goal.loop-list-preserved
loop-list-preserved c =
    let vs = c.args.lists.now in
    let i = c.loop-list.list-index in
    let v = c.list-item.result in
    let count = λ (ds : Documents). length (filter (is_before c.args.id.now) ds) in
    let mine = c.count_before-count.ensures.count ∙ ap (λ (rs : List (Bor Shown)). count (seen rs)) c.deref.ensures.value ∙ ap count (sym (listed-at vs i v c.loop-list-test.true c.list-item.is)) in
    record {
      is = ap (λ n. n + c.count_before-count.result) c.loop-list.invariant.is ∙ ap (λ n. rank c.args.id.now (take i (seen_all vs)) + n) mine
          ∙ sym (sum_by_more count (seen_all vs) i (seen v.items) (listed-within vs i v c.loop-list-test.true c.list-item.is));
      few = omega (arith, c.if-most-total.false, c.loop-list.invariant.few);
    }
