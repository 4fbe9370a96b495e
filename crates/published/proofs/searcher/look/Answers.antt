use Rattle.std.proofs.Common.{◌∙◌, ap, subst, IfOk}
use Rattle.std.specs.Arc.{arc_value}
use Rattle.left_right.specs.Sides.{view}
use Rattle.engine.specs.Shown.{hits_view}
use Rattle.query.specs.View.{query_view}
use Rattle.published.specs.Entry.{published_of}
use Rattle.published.specs.declared.searcher.Found.{Found}
use Rattle.published.specs.Search.{FindsIn}
use Rattle.published.proofs.Steps.{looks}
use Rattle.published.proofs.Searches.{looks_found, looks_no_less, no_less}
use Rattle.published.proofs.searcher.look.Goals as goal

pub enter_as-requires : goal.enter_as-requires
enter_as-requires g c x = looks _ _ x

pub returns-in-Ok-taken-clause-found : goal.returns-in-Ok-taken-clause-found
returns-in-Ok-taken-clause-found g c =
    looks_found (λ (f : Found). hits_view f.hits) (λ (f : Found). f.place) (query_view c.args.query.now) c.args.page (view c.args.reader.place) (view c.leave-reader.result.place) _ c.args.told.now c.in-Ok.ensures.1.0 (c.leave-reader.ensures.1 ∙ c.in-Ok.ensures.1.1) c.hits_of.result
    (subst (λ e. IfOk c.hits_of.result (λ f. FindsIn (published_of e) c.args.told.now (query_view c.args.query.now) c.args.page (hits_view f.hits) f.place)) (c.deref.ensures ∙ c.in-Ok-taken.ensures ∙ ap (λ l. arc_value l.entry) c.get.ensures) c.hits_of.ensures.found)

pub returns-in-Ok-taken-clause-refused : goal.returns-in-Ok-taken-clause-refused
returns-in-Ok-taken-clause-refused g c =
    looks_no_less (view c.args.reader.place) (view c.leave-reader.result.place) _ c.args.told.now c.in-Ok.ensures.1.0 (c.leave-reader.ensures.1 ∙ c.in-Ok.ensures.1.1) c.hits_of.result

pub returns-in-Err-taken-clause-refused : goal.returns-in-Err-taken-clause-refused
returns-in-Err-taken-clause-refused g c =
    no_less (view c.args.reader.place) (view c.leave-reader.result.place) _ c.args.told.now c.in-Ok.ensures.1.0 (c.leave-reader.ensures.1 ∙ c.in-Ok.ensures.1.1)
