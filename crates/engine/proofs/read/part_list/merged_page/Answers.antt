use Rattle.std.proofs.Common.{◌∙◌, ap, sym, map, filter, drop}
use Rattle.std.proofs.lemmas.List.{drop-map}
use Rattle.query.specs.View.{query_view}
use Rattle.engine.specs.Answer.{is_found}
use Rattle.engine.specs.Entry.{entry_view}
use Rattle.engine.specs.Parts.{documents_of_parts, woven}
use Rattle.engine.proofs.PartLaws.{drop-take}
use Rattle.engine.proofs.read.part_list.merged_page.Goals as goal

-- the first of several parts, without those before the page
pub returns-clause-first : goal.returns-clause-first
returns-clause-first c =
    let all = filter (is_found c.args._mapping.now (query_view c.args.query.now)) (woven (documents_of_parts c.args.parts.now)) in
    ap (map entry_view) c.in_ok-first.ensures ∙ sym (drop-map entry_view c.args.from c.in_ok-found.found.first.items) ∙ ap (drop c.args.from) c.in_ok-found.ensures.first ∙ drop-take c.args.from c.args.size all
