use Rattle.std.proofs.Common.{◌≡◌, ◌+◌, ◌∙◌, ◌++◌, ◌∷◌, [], ap, sym, subst, take}
use Rattle.std.proofs.lemmas.List.{map_more}
use Rattle.doc.specs.ScalarView.{field_values_view, values_view}
use Rattle.segment.specs.Added.{AreAdded}
use Rattle.segment.proofs.AddedLaws.{are_added-more, are_added-none, are_long-added}
use Rattle.segment.proofs.adding.add_document.Goals as goal

pub loop-field-init : goal.loop-field-init
loop-field-init c = are_added-none c.args.mapping.now.fields c.args.len c.args.at c.args.makings.now

pub add_field-requires-clause-long : goal.add_field-requires-clause-long
add_field-requires-clause-long c =
    are_long-added c.args.mapping.now.fields c.args.len (values_view (take c.loop-field.field-index c.args.fields.now)) c.args.at c.args.makings.now c.loop-field.makings c.loop-field.invariant c.requires.long

-- one field more
pub loop-field-preserved : goal.loop-field-preserved
loop-field-preserved c =
    let i = c.loop-field.field-index in
    let fields = c.args.fields.now in
    let before = values_view (take i fields) in
    let f = c.field-item.result in
    let more : values_view (take (i + 1) fields) ≡ before ++ field_values_view f ∷ [] = map_more field_values_view fields i f c.loop-field-test.true ∙ ap (λ v. before ++ field_values_view v ∷ []) (sym c.field-item.is) in
    subst (λ vs. AreAdded c.args.mapping.now.fields c.args.len vs c.args.at c.args.makings.now c.add_field.new.makings) (sym more)
    (are_added-more c.args.mapping.now.fields c.args.len before (field_values_view f) c.args.at c.args.makings.now c.loop-field.makings c.add_field.new.makings c.loop-field.invariant c.in_ok-add_field.ensures)
