use Rattle.std.proofs.Common.{◌≡◌, ◌∙◌, ◌+◌, ◌-◌, IfOk, ap, arith, map, subst, take}
use denote.Ref.{Bor}
use Rattle.op.specs.Documents.{Documents}
use Rattle.engine.specs.Entry.{entry_view}
use Rattle.engine.specs.Shown.{shown_view}
use Rattle.engine.specs.declared.read.block.Shown.{Shown}
use Rattle.engine.proofs.PageLaws.{sliced}
use Rattle.engine.proofs.read.paging.entries_from.Goals as goal

-- those behind the ones before the id
pub returns : goal.returns
returns c =
    let s = c.count_before-start.result in
    let m = s + c.min-count.result - s in
    subst (λ (ds : Documents). IfOk c.entries_of.result (λ v. map entry_view v.items ≡ ds))
    (sliced (λ (r : Bor Shown). shown_view r.now) c.args.list.now s m c.args.wanted (omega (arith, c.min-count.ensures)) ∙ ap (take c.args.wanted) c.count_before-start.ensures.rest) c.entries_of.ensures
