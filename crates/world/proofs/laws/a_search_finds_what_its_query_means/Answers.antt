use Rattle.std.proofs.Common.{option_map}
use Rattle.engine.specs.Shown.{hits_view}
use Rattle.query.specs.View.{query_view}
use Rattle.world.proofs.Searching.{found_after}
use Rattle.world.proofs.laws.a_search_finds_what_its_query_means.Goals as goal

pub returns-in-Ok-clause-found : goal.returns-in-Ok-clause-found
returns-in-Ok-clause-found c =
    found_after c.in_ok-world.world.world c.args.mapping.now c.args.copies c.args.events.now c.args.copy (query_view c.args.query.now) c.args.page (option_map hits_view c.in-Ok.found)
    c.in_ok-world.ensures.count.0 c.in_ok-world.ensures.world c.in-Ok.ensures
