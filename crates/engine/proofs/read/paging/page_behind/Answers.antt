use Rattle.std.proofs.Common.{◌∙◌, ◌-◌, ap, drop, sym}
use Rattle.std.proofs.lemmas.List.{drop-map}
use Rattle.engine.specs.Entry.{entry_view}
use Rattle.engine.specs.Shown.{seen_all}
use Rattle.engine.proofs.PageLaws.{page-behind, viewed}
use Rattle.engine.proofs.read.paging.page_behind.Goals as goal

-- the page is what is left behind those that were counted
pub returns : goal.returns
returns c =
    let ds = seen_all c.args.lists.now in
    let rest = c.args.from - c.args.pivot.rank in
    viewed entry_view c.behind.result (drop rest c.in_ok-first.first.items) _ c.behind.ensures
    (sym (drop-map entry_view rest c.in_ok-first.first.items) ∙ ap (drop rest) c.in_ok-first.ensures
    ∙ sym (page-behind ds c.requires.apart c.args.pivot.id.now c.args.from c.args.size c.args.pivot.rank c.requires.pivot.is c.requires.pivot.few))
