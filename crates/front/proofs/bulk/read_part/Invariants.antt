use Rattle.std.proofs.Common.{◌≡◌, ◌≤◌, length, map, take}
use Rattle.front.specs.Bulk.{writes_of, AreSteps}
use Rattle.front.specs.BulkView.{item_view, step_view}
use Rattle.front.proofs.bulk.read_part.Given as goal

-- the writes and the steps of the first items
abbrev pub invariant-loop-item : goal.invariant-loop-item
invariant-loop-item l = record {
  writes : l.writes.items ≡ writes_of l.served l.mapping (map item_view (take l.item-index l.items));
  steps : AreSteps l.greets l.served l.mapping (map item_view (take l.item-index l.items)) (map step_view l.steps.items);
  long : length l.steps.items ≡ l.item-index;
  fits : l.item-index ≤ length l.items;
  most : length l.writes.items ≤ 1024;
}
