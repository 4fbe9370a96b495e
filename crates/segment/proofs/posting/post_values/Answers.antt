use Rattle.std.proofs.Common.{◌≡◌, ◌+◌, ◌∙◌, ◌++◌, ◌∷◌, [], ap, sym, subst, take, Some}
use Rattle.std.proofs.lemmas.List.{map_more}
use Rattle.doc.specs.ScalarView.{scalar_view, scalars_view}
use Rattle.analysis.specs.Terms.{terms_by}
use Rattle.segment.specs.Posted.{IsPosted}
use Rattle.segment.proofs.PostedLaws.{IsPosted-none, IsRoomFor-posted, value-more, no_values}
use Rattle.segment.proofs.posting.post_values.Goals as goal

pub loop-value-init : goal.loop-value-init
loop-value-init c = subst (λ ts. IsPosted ts c.args.at c.args.making.now c.args.making.now) (sym (no_values c.args.kind)) (IsPosted-none c.args.at c.args.making.now)

pub post_value-requires : goal.post_value-requires
post_value-requires c = IsRoomFor-posted _ c.args.at c.args.making.now c.loop-value.making c.loop-value.invariant c.requires

-- one value more
pub loop-value-preserved : goal.loop-value-preserved
loop-value-preserved c =
    let i = c.loop-value.value-index in
    let before = scalars_view (take i c.args.values.now) in
    let more : scalars_view (take (i + 1) c.args.values.now) ≡ before ++ scalar_view c.value-item.result ∷ [] = map_more scalar_view c.args.values.now i c.value-item.result c.loop-value-test.true ∙ ap (λ v. before ++ scalar_view v ∷ []) (sym c.value-item.is) in
    subst (λ vs. IsPosted (terms_by (Some c.args.kind) vs) c.args.at c.args.making.now c.post_value.new.making) (sym more)
    (value-more c.args.kind before (scalar_view c.value-item.result) c.args.at c.args.making.now c.loop-value.making c.post_value.new.making c.loop-value.invariant c.in_ok-post_value.ensures)
