use Rattle.std.proofs.Common.{◌≡◌, ◌++◌, length}
use Rattle.segment.specs.Grouped.{runs, runs_from, with_lists}
use Rattle.segment.specs.Places.{as_list}
use Rattle.segment.proofs.grouping.runs_of.Given as goal

-- what is closed, and the runs from the last key on
abbrev pub invariant-loop-posting : goal.invariant-loop-posting
invariant-loop-posting g l = record {
  all : with_lists l.closed.items ++ runs_from g.K.PartialEq.eq l.last.0 (as_list l.last.1) l.posting-iterator.rest.items ≡ runs g.K.PartialEq.eq l.fn.postings.items;
  len : l.posting-iterator.rest.len ≡ length l.posting-iterator.rest.items;
}
