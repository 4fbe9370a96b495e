use Rattle.std.proofs.Common.{◌≡◌, true, subst, sym, List}
use denote.Ref.{Bor}
use Rattle.std.specs.FinMap.Entries.{is_sorted}
use Rattle.doc.specs.Id.{id_cmp}
use Rattle.engine.specs.Shown.{seen}
use Rattle.engine.specs.declared.read.block.Shown.{Shown}
use Rattle.engine.proofs.PageLaws.{listed-sorted}
use Rattle.engine.proofs.read.paging.find_pivot.Goals as goal

pub pivot_in-found-requires-clause-sorted : goal.pivot_in-found-requires-clause-sorted
pivot_in-found-requires-clause-sorted c =
    subst (λ (rs : List (Bor Shown)). is_sorted id_cmp (seen rs) ≡ true) (sym c.deref.ensures.value)
    (listed-sorted c.args.lists.now c.loop-list.list-index c.list-item.result c.loop-list-test.true c.list-item.is c.requires)
