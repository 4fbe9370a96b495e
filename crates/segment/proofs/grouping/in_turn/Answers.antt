use Rattle.std.proofs.Common.{ℕ, rules}
use Rattle.std.proofs.lemmas.List.Sorted.{answers_always, ranks_by}
use Rattle.segment.proofs.GroupingLaws.{posted-stable}
use Rattle.segment.proofs.grouping.in_turn.Goals as goal

-- the sort is stable
pub returns-clause-same : goal.returns-clause-same
returns-clause-same g c = posted-stable g.met.K.Ord.total c.args.postings.items c.sort_by.new.self.items
    (c.in_ok-sort_by.ensures.stable _ (ranks_by g.met.K.Ord.total (λ (e : g.row.K.Denot × ℕ). e.0)) (answers_always _ _ _ (λ f a r f' k. search rules)))

pub returns-clause-sorted : goal.returns-clause-sorted
returns-clause-sorted g c = c.in_ok-sort_by.ensures.sorted _ (ranks_by g.met.K.Ord.total (λ (e : g.row.K.Denot × ℕ). e.0)) (answers_always _ _ _ (λ f a r f' k. search rules))
