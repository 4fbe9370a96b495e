use Rattle.std.proofs.Common.{◌≡◌, ◌∙◌, ap, sym, subst}
use Rattle.std.specs.Prelude.{nat_lt}
use Rattle.std.specs.Arc.{arc_value}
use Rattle.std.specs.List.{list_all}
use Rattle.std.proofs.lemmas.Result.{IfOk-weaker}
use Rattle.engine.specs.Contents.{ShowingData}
use Rattle.engine.specs.Parts.{PartListData, all_published}
use Rattle.engine.specs.Published.{Published, greatest, AreKnown}
use Rattle.engine.proofs.BegunLaws.{known-all}
use Rattle.engine.proofs.read.showing.Showing.told.Goals as goal

-- no two that are there bear one number
pub returns : goal.returns
returns c =
    let inside = c.self.inside in
    let ss = (arc_value inside.parts).published in
    let here : all_published c.parts-parts.result.now ≡ ss = c.parts-parts.ensures.published ∙ ap (λ (l : PartListData). l.published) c.deref.ensures in
    let known = known-all inside.next ss c.self.invariant.below c.self.invariant.distinct (ap (list_all (λ (t : Published). nat_lt t.number greatest)) (sym here) ∙ sym c.are_below_greatest.ensures ∙ c.if-not-are_below_greatest.false) in
    IfOk-weaker c.copies_of.result _ _
    (λ v same.
    subst (λ (s : ShowingData). AreKnown s.next s.published (all_published v.items)) c.self.view_is
    (subst (AreKnown inside.next ss) (sym (ap all_published same ∙ here)) known))
    c.copies_of.ensures
