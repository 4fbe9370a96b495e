use Rattle.std.proofs.Common.{subst}
use Rattle.engine.specs.Shown.{hits_view}
use Rattle.query.specs.View.{query_view}
use Rattle.cell.specs.Points.{place_in, FindsUnder, SearcherData}
use Rattle.cell.proofs.Pointing.{found_in, found_leads, found_registry, refused_leads}
use Rattle.cell.proofs.searching.CopySearcher.find.Goals as goal

pub of-point-requires : goal.of-point-requires
of-point-requires g c = found_registry g.J.RegistryName.registry g.J.IndexName.index.mapping c.self.inside.searcher c.search.new.self _ _ _ c.in_ok-found.found.place c.self.invariant c.in_ok-found.ensures.found

pub invariant_of-self : goal.invariant_of-self
invariant_of-self g c = refused_leads g.J.RegistryName.registry g.J.IndexName.index.mapping c.self.inside.searcher c.search.new.self c.self.invariant c.in_err-found.ensures.refused

pub invariant_of-self-2 : goal.invariant_of-self-2
invariant_of-self-2 g c = found_leads g.J.RegistryName.registry g.J.IndexName.index.mapping c.self.inside.searcher c.search.new.self _ _ _ c.in_ok-found.found.place c.self.invariant c.in_ok-found.ensures.found

pub returns-clause-found : goal.returns-clause-found
returns-clause-found g c =
    subst (λ (k : SearcherData). FindsUnder g.J.IndexName.index.mapping k.known c.search.new.self (query_view c.args.query.now) c.args.page (hits_view c.in_ok-found.found.hits) (place_in g.J.RegistryName.registry c.of-point.result)) c.self.view_is
    (found_in g.J.RegistryName.registry g.J.IndexName.index.mapping c.self.inside.searcher c.search.new.self _ _ _ c.in_ok-found.found.place c.of-point.result c.self.invariant c.of-point.ensures c.in_ok-found.ensures.found)
