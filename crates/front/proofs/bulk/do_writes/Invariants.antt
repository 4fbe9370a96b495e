use Rattle.std.proofs.Common.{◌≡◌, ◌++◌, List, length, map}
use Rattle.front.specs.Bulk.{write_commands, is_any}
use Rattle.front.specs.BulkView.{item_view, text_view}
use Rattle.front.specs.Item.{Item}
use Rattle.front.proofs.Bulks.{PartsDone, all_of, batches}
use Rattle.front.proofs.bulk.do_writes.Given as goal

-- the first parts were done, and it is known whether any of them has a write; the service is of the same index
abbrev pub invariant-loop-left : goal.invariant-loop-left
invariant-loop-left g l = record {
  done : List (List Item);
  all : map item_view l.items ≡ all_of done ++ map item_view l.left;
  split : write_commands (g.S.Service.name l.fn.service) (g.S.Service.fields l.fn.service) (map item_view l.items)
      ≡ batches (g.S.Service.name l.fn.service) (g.S.Service.fields l.fn.service) done ++ write_commands (g.S.Service.name l.fn.service) (g.S.Service.fields l.fn.service) (map item_view l.left);
  made : PartsDone l.greets g.S.Service.answers (g.S.Service.name l.fn.service) (g.S.Service.fields l.fn.service) l.fn.service done (map text_view l.texts.items) l.service;
  any : l.is_any ≡ is_any (batches (g.S.Service.name l.fn.service) (g.S.Service.fields l.fn.service) done);
  name : g.S.Service.name l.service ≡ g.S.Service.name l.fn.service;
  fields : g.S.Service.fields l.service ≡ g.S.Service.fields l.fn.service;
}

abbrev pub decreases-loop-left : goal.decreases-loop-left
decreases-loop-left g l = length l.left
