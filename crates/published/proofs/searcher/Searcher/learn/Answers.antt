use Rattle.std.proofs.Common.{subst}
use Rattle.left_right.specs.Sides.{view}
use Rattle.published.specs.Listings.{ComesAfterAll}
use Rattle.published.specs.Told.{listed}
use Rattle.published.proofs.Searches.{learned-floor, learned-no_less}
use Rattle.published.proofs.searcher.Searcher.learn.Goals as goal

pub returns-clause-note : goal.returns-clause-note
returns-clause-note g c = learned-floor (view c.self.inside.reader.place) c.taken_in-told.result c.args.note c.taken_in-told.ensures.note

pub returns-clause-kept : goal.returns-clause-kept
returns-clause-kept g c =
    let on : ComesAfterAll c.taken_in-told.result (listed c.self.inside.told) = subst (λ o. ComesAfterAll c.taken_in-told.result (listed o)) c.take.ensures.value c.taken_in-told.ensures.told in
    rw (← c.self.view_is) (learned-no_less (view c.self.inside.reader.place) c.self.inside.told c.taken_in-told.result on)
