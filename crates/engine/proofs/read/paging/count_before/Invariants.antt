use Rattle.std.proofs.Common.{◌≤◌, ◌-◌, drop, length, take}
use Rattle.engine.specs.Shown.{seen}
use Rattle.engine.proofs.PageLaws.{AllBefore, NoneBefore}
use Rattle.engine.proofs.read.paging.count_before.Given as goal

-- those before the low end stand before the id, and those from the high end on don't
abbrev pub invariant-loop-low : goal.invariant-loop-low
invariant-loop-low l = record {
  order : l.low ≤ l.high;
  within : l.high ≤ length l.list;
  front : AllBefore l.id (take l.low (seen l.list));
  rest : NoneBefore l.id (drop l.high (seen l.list));
}

abbrev pub decreases-loop-low : goal.decreases-loop-low
decreases-loop-low l = l.high - l.low
