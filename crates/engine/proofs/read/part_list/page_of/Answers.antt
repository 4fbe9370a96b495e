use Rattle.std.proofs.Common.{◌≡◌, ◌∙◌, ◌+◌, ℕ, Vec, Global, ap, sym, subst, arith, get_or, IfOk, List, map, filter, take, drop, length}
use Rattle.doc.specs.Mapping.{MappingData}
use Rattle.query.specs.View.{query_view}
use Rattle.op.specs.Documents.{Documents}
use Rattle.query.specs.Query.{Query}
use Rattle.engine.specs.Answer.{is_found}
use Rattle.engine.specs.Entry.{entry_view}
use Rattle.engine.specs.Parts.{PartData, documents_of_parts, woven, AreParts}
use Rattle.engine.proofs.PartLaws.{drop-take}
use denote.Ref.{Bor}
use Rattle.engine.specs.Before.{first_of_each}
use Rattle.engine.specs.Parts.{AreApart}
use Rattle.engine.specs.Shown.{seen_all}
use Rattle.engine.specs.declared.read.block.Shown.{Shown}
use Rattle.engine.proofs.PageLaws.{firsts-apart, firsts-woven}
use Rattle.engine.proofs.ShareLaws.{one-woven}
use Rattle.engine.proofs.SnapshotLaws.{mapping-at}
use Rattle.engine.proofs.read.part_list.page_of.Goals as goal

-- one part alone
same : (m : MappingData) (q : Query) (ps : List PartData) (p : PartData) → AreParts m ps → length ps ≡ 1 → p ≡ get_or ps 0 p → filter (is_found p.mapping q) p.documents ≡ filter (is_found m q) (woven (documents_of_parts ps))
same m q ps p are one is = ap (λ (n : MappingData). filter (is_found n q) p.documents) (mapping-at m ps 0 p are.mappings (omega (arith, one)) is) ∙ ap (filter (is_found m q)) (one-woven ps p one is)

pub returns-then-parts-eq1-clause-total : goal.returns-then-parts-eq1-clause-total
returns-then-parts-eq1-clause-total c =
    subst (λ (ds : Documents). IfOk c.find.result (λ s. s.total ≡ length ds)) (same c.args._mapping.now (query_view c.args.query.now) c.args.parts.now c.index-parts-0.result c.requires.are c.if-parts-eq1.true c.index-parts-0.is) c.find.ensures.total

pub returns-then-parts-eq1-clause-first : goal.returns-then-parts-eq1-clause-first
returns-then-parts-eq1-clause-first c =
    subst (λ (ds : Documents). IfOk c.find.result (λ s. map entry_view s.first.items ≡ take c.args.size (drop c.args.from ds))) (same c.args._mapping.now (query_view c.args.query.now) c.args.parts.now c.index-parts-0.result c.requires.are c.if-parts-eq1.true c.index-parts-0.is) c.find.ensures.first

-- the lists are apart, as the parts are
lists-apart : (w : ℕ) (m : MappingData) (q : Query) (ps : List PartData) (vs ws : List (Vec (Bor Shown) Global)) → AreParts m ps → vs ≡ ws → seen_all ws ≡ first_of_each w (is_found m q) (documents_of_parts ps) → AreApart (seen_all vs)
lists-apart w m q ps vs ws are same lists = subst AreApart (sym (ap seen_all same ∙ lists)) (firsts-apart w (is_found m q) (documents_of_parts ps) are.apart)

pub find_pivot-requires : goal.find_pivot-requires
find_pivot-requires c = (lists-apart (c.args.from + c.args.size) c.args._mapping.now (query_view c.args.query.now) c.args.parts.now _ _ c.requires.are c.deref.ensures.value c.in_ok-hits.ensures.lists).sorted

pub page_behind-requires-clause-apart : goal.page_behind-requires-clause-apart
page_behind-requires-clause-apart c = lists-apart (c.args.from + c.args.size) c.args._mapping.now (query_view c.args.query.now) c.args.parts.now _ _ c.requires.are c.deref-in-Some.ensures.value c.in_ok-hits.ensures.lists

-- the page of the first of each is the page of all
pub returns-in-Some-clause-first : goal.returns-in-Some-clause-first
returns-in-Some-clause-first c =
    let from = c.args.from in
    let size = c.args.size in
    let g = is_found c.args._mapping.now (query_view c.args.query.now) in
    let ps = documents_of_parts c.args.parts.now in
    let fs = first_of_each (from + size) g ps in
    let lists : seen_all c.deref-in-Some.result.now ≡ fs = ap seen_all c.deref-in-Some.ensures.value ∙ c.in_ok-hits.ensures.lists in
    c.in_ok-first-in-Some.ensures ∙ ap (λ (ds : List Documents). take size (drop from (woven ds))) lists
    ∙ sym (drop-take from size (woven fs)) ∙ ap (drop from) (sym (firsts-woven (from + size) g ps c.requires.are.apart)) ∙ drop-take from size (filter g (woven ps))
