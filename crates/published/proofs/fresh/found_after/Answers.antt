use Rattle.std.proofs.Common.{◌≡◌, ap, ◌∙◌, sym, subst}
use Rattle.engine.specs.Shown.{hits_view}
use Rattle.query.specs.View.{query_view}
use Rattle.published.specs.declared.listing.Published.{Published}
use Rattle.published.specs.declared.searcher.Found.{Found}
use Rattle.published.specs.Line.{Line, line_behind}
use Rattle.published.specs.Listings.{ComesAfter}
use Rattle.published.specs.Showing.{listing}
use Rattle.published.proofs.Lines.{at_done}
use Rattle.published.proofs.Searches.{finds_after}
use Rattle.published.proofs.fresh.found_after.Goals as goal

pub returns : goal.returns
returns g c =
    let next : Line → Published = λ l. (line_behind l.book l.history (listing l.book c.args.next)).shown in
    let shown = at_done c.publish.result _ (sym c.if-is_err.ensures.value) c.publish.ensures.ok in
    let told : c.in-Ok-note.note ≡ next c.args.publisher.now = c.in-Ok-note.ensures ∙ (ap (λ (l : Line). l.shown) shown ∙ ap next c.in-Ok.ensures.same) in
    finds_after (λ (f : Found). hits_view f.hits) (λ (f : Found). f.place) (query_view c.args.query.now) c.args.page _ _ (next c.args.publisher.now) c.search.result
    (λ later on. subst (λ (x : Published). ComesAfter later x) told (c.learn.ensures.note later on)) c.search.ensures.found
