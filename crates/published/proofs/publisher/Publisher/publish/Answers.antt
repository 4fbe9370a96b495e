use Rattle.std.proofs.Common.{rules, ◌≡◌, ◌∷◌, [], ◌++◌, ap, ◌∙◌, subst, sym}
use Rattle.std.specs.Arc.{arc_value}
use Rattle.left_right.specs.Sides.{view}
use Rattle.published.specs.Entry.{published_of}
use Rattle.published.specs.declared.listing.Published.{Published}
use Rattle.published.specs.Line.{Line, top_of}
use Rattle.published.specs.Listings.{GoesOn}
use Rattle.published.specs.Rule.{published}
use Rattle.published.specs.Showing.{listing}
use Rattle.published.proofs.Lines.{entry_is, line_refused, line_after}
use Rattle.published.proofs.publisher.Publisher.publish.Goals as goal

pub invariant_of-self-in_err-new : goal.invariant_of-self-in_err-new
invariant_of-self-in_err-new g c =
    let now = published c.self.inside.writer.desk.shown.value in
    let h = c.self.inside.history in
    let l = listing c.args.self.now.book c.args.showing in
    let more : c.add.new.self.log ≡ h.log ++ l ∷ [] = ap (λ b. b.log) c.in-Some.ensures.added ∙ ap (λ (i : Line). h.log ++ listing i.book c.args.showing ∷ []) c.self.view_is in
    let on : GoesOn l (top_of now.listing h.log) = subst (λ (i : Line). GoesOn l i.top) (sym c.self.view_is) c.requires in
    line_refused now l (view c.self.inside.writer.desk.place) h c.add.new.self c.self.invariant more on

pub invariant_of-self-2 : goal.invariant_of-self-2
invariant_of-self-2 g c =
    let now = published c.self.inside.writer.desk.shown.value in
    let h = c.self.inside.history in
    let next = published_of (arc_value c.in_ok-new.field-0) in
    let is : next ≡ record { listing = listing h.book c.args.showing; history = h.log ++ listing h.book c.args.showing ∷ [] } =
    ap published_of c.in_ok-new.ensures.ok ∙ entry_is c.in-Some.entry c.add.new.self h c.args.showing c.in-Some.ensures.entry c.in-Some.ensures.added in
    let log = ap (λ b. b.log) c.in-Some.ensures.added in
    let more : c.add.new.self.log ≡ h.log ++ next.listing ∷ [] = log ∙ ap (λ (p : Published). h.log ++ p.listing ∷ []) (sym is) in
    let whole : next.history ≡ c.add.new.self.log = ap (λ (p : Published). p.history) is ∙ sym log in
    let on : GoesOn (listing h.book c.args.showing) (top_of now.listing h.log) = subst (λ (i : Line). GoesOn (listing i.book c.args.showing) i.top) (sym c.self.view_is) c.requires in
    line_after c.replace_with.result now _ next (view c.self.inside.writer.desk.place) _ h c.add.new.self (search rules) (search rules) (search rules) c.self.invariant more whole
    (subst (λ (p : Published). GoesOn p.listing (top_of now.listing h.log)) (sym is) on)
