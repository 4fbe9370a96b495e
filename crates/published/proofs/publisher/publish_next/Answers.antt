use Rattle.std.proofs.Common.{◌≡◌, drop, fold, ◌∙◌, ap, subst, sym}
use Rattle.std.specs.Arc.{arc_value}
use Rattle.published.specs.declared.front.Entry.{Entry}
use Rattle.published.specs.declared.latest.Latest.{Latest}
use Rattle.published.specs.Entry.{published_of}
use Rattle.published.specs.Listings.{ComesAfter}
use Rattle.published.specs.Rule.{published}
use Rattle.published.proofs.Lines.{fold-last, at_ok}
use Rattle.published.proofs.Steps.{turns}
use Rattle.published.proofs.publisher.publish_next.Goals as goal

pub publish_as-requires : goal.publish_as-requires
publish_as-requires g c = λ next is.
    let now = c.append.new.self.desk.shown.value in
    let pending = at_ok c.append.result _ _ (sym c.if-is_err.ensures.value) c.append.ensures.pending in
    let shown : Latest → Entry = λ p. arc_value p.entry in
    let same : arc_value next.entry ≡ arc_value c.args.next.entry =
    is ∙ (ap (λ ps. fold (λ (s : Entry) (p : Latest). arc_value p.entry) (arc_value now.entry) ps) pending ∙ fold-last shown (arc_value now.entry) (drop c.args.writer.behind c.args.writer.log.items) c.args.next) in
    turns _ _ now next (subst (λ (e : Entry). ComesAfter (published_of e) (published now)) (sym same) (subst (λ d. ComesAfter (published c.args.next) (published d.shown.value)) (sym c.append.ensures.desk) c.requires))
