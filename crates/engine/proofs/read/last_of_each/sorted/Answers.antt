use Rattle.std.proofs.Common.{rules}
use Rattle.std.proofs.lemmas.List.Sorted.{answers_always, ranks_by}
use Rattle.engine.proofs.LastOfEachLaws.{alike-stable}
use Rattle.engine.proofs.read.last_of_each.sorted.Goals as goal

-- the sort is stable
pub returns-clause-same : goal.returns-clause-same
returns-clause-same g c = alike-stable g.met.K.Ord.total c.args.pairs.items c.sort_by.new.self.items
    (c.in_ok-sort_by.ensures.stable _ (ranks_by g.met.K.Ord.total (λ (e : g.row.K.Denot × g.row.V.Denot). e.0)) (answers_always _ _ _ (λ f a r f' k. search rules)))

pub returns-clause-sorted : goal.returns-clause-sorted
returns-clause-sorted g c = c.in_ok-sort_by.ensures.sorted _ (ranks_by g.met.K.Ord.total (λ (e : g.row.K.Denot × g.row.V.Denot). e.0)) (answers_always _ _ _ (λ f a r f' k. search rules))
