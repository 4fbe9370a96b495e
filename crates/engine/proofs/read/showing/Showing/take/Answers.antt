use Rattle.std.proofs.Common.{◌≡◌, ◌∙◌, ap, sym, subst, List}
use Rattle.std.specs.Arc.{arc_value}
use Rattle.std.proofs.lemmas.Result.{IfOk-weaker}
use Rattle.engine.specs.Contents.{ShowingData}
use Rattle.engine.specs.Parts.{PartListData}
use Rattle.engine.specs.declared.read.part_list.PartList.{PartList}
use Rattle.engine.specs.Published.{Published, are_taken, numbered, IsBegun}
use Rattle.engine.proofs.BegunLaws.{begun-numbered}
use Rattle.engine.proofs.read.showing.Showing.take.Goals as goal

-- no two that are there bear one number
pub returns-clause-begun : goal.returns-clause-begun
returns-clause-begun c =
    let inside = c.self.inside in
    let ss = (arc_value inside.parts).published in
    let ns = c.args.numbers.now in
    let made : (arc_value c.in_ok-parts-2.parts).published ≡ numbered ns ss =
    ap (λ (l : PartListData). l.published) c.in_ok-parts-2.ensures.ok ∙ c.in_ok-parts.ensures.published ∙ ap (λ (l : PartListData). numbered ns l.published) c.deref.ensures in
    IfOk-weaker c.out.result _ _
    (λ l same are.
    let is : (arc_value l).published ≡ numbered ns ss = ap (λ a. (arc_value {X = PartList} a).published) same ∙ made in
    subst (λ (s : ShowingData). IsBegun s.next s.published (arc_value l).published) c.self.view_is
    (subst (λ (ts : List Published). IsBegun inside.next ss ts) (sym is)
    (begun-numbered inside.next ss ns c.self.invariant.below c.self.invariant.distinct (sym (ap are_taken is) ∙ are))))
    c.out.ensures
