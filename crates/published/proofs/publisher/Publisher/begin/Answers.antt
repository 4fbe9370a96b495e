use Rattle.std.proofs.Common.{◌≡◌, ◌∷◌, [], ◌++◌, ap, ◌∙◌, subst, sym}
use Rattle.std.specs.Arc.{arc_value}
use Rattle.left_right.specs.Sides.{view}
use Rattle.published.specs.declared.front.Entry.{Entry}
use Rattle.published.specs.declared.latest.Latest.{Latest}
use Rattle.published.specs.declared.listing.Published.{Published}
use Rattle.published.specs.Entry.{published_of}
use Rattle.published.specs.Listings.{ComesAfter}
use Rattle.published.specs.Rule.{published}
use Rattle.published.specs.Showing.{listing}
use Rattle.published.proofs.Lines.{at_done, line_shown, entry_is}
use Rattle.published.proofs.Orders.{self-ComesAfter}
use Rattle.published.proofs.publisher.Publisher.begin.Goals as goal

pub publish_next-writer-requires : goal.publish_next-writer-requires
publish_next-writer-requires g c =
    let next : Entry = arc_value c.in_ok-next.next in
    let same : next ≡ arc_value c.in_ok-writer.writer.desk.shown.value.entry = c.in_ok-next.ensures ∙ ap (λ (l : Latest). arc_value l.entry) (sym c.in_ok-writer.ensures.0) in
    subst (λ (e : Entry). ComesAfter (published_of next) (published_of e)) same (self-ComesAfter (published_of next))

pub invariant_of-result : goal.invariant_of-result
invariant_of-result g c =
    let writer = c.publish_next-writer.result.0 in
    let done = c.publish_next-writer.result.1 in
    let fine = sym c.if-is_err.ensures.value in
    let next : Entry = arc_value c.in_ok-next.next in
    let same : next ≡ c.in-Some.entry = c.in_ok-next.ensures ∙ c.in_ok-entry.ensures.ok in
    let is : published_of next ≡ record { listing = listing c.new-history.result.book c.args.showing; history = c.new-history.result.log ++ listing c.new-history.result.book c.args.showing ∷ [] } =
    ap published_of same ∙ entry_is c.in-Some.entry c.add.new.self c.new-history.result c.args.showing c.in-Some.ensures.entry c.in-Some.ensures.added in
    let more = ap (λ h. h.log) c.in-Some.ensures.added in
    line_shown (published writer.desk.shown.value) (published_of next) (view writer.desk.place) c.new-history.result c.add.new.self
    (at_done done _ fine c.publish_next-writer.ensures.ok) (at_done done _ fine c.publish_next-writer.ensures.knows)
    (more ∙ ap (λ (p : Published). c.new-history.result.log ++ p.listing ∷ []) (sym is)) (ap (λ (p : Published). p.history) is ∙ sym more)
