use Rattle.engine.specs.Shown.{hits_view}
use Rattle.query.specs.View.{query_view}
use Rattle.published.specs.Entry.{published_of}
use Rattle.published.specs.declared.searcher.Found.{Found}
use Rattle.published.proofs.Searches.{found_told, found_taken}
use Rattle.published.proofs.searcher.hits_of.Goals as goal

pub returns-in-Some-clause-found : goal.returns-in-Some-clause-found
returns-in-Some-clause-found g c =
    rw c.in-Some.is (found_told (λ (f : Found). hits_view f.hits) (λ (f : Found). f.place) (query_view c.args.query.now) c.args.page (published_of c.args.taken.now) c.in-Some.note (published_of c.later.result.now) c.later.ensures c.hits_in.result c.hits_in.ensures.found)

pub returns-in-None-clause-found : goal.returns-in-None-clause-found
returns-in-None-clause-found g c =
    rw c.in-None.is (found_taken (λ (f : Found). hits_view f.hits) (λ (f : Found). f.place) (query_view c.args.query.now) c.args.page (published_of c.args.taken.now) c.hits_in-in-None.result c.hits_in-in-None.ensures.found)
