use Rattle.std.proofs.Common.{◌≡◌, ◌≤◌, ◌*◌, ◌^◌, map, filter, take, length}
use Rattle.query.specs.View.{query_view}
use Rattle.engine.specs.Answer.{is_found}
use Rattle.engine.specs.Entry.{entry_view}
use Rattle.engine.specs.Parts.{documents_of_parts, woven}
use Rattle.engine.proofs.read.part_list.find.Given as goal

-- what the parts so far have
abbrev pub invariant-loop-part : goal.invariant-loop-part
invariant-loop-part l = record {
  total : l.total ≡ length (filter (is_found l._mapping (query_view l.query)) (woven (take l.part-index (documents_of_parts l.parts))));
  few : l.total ≤ l.part-index * 2 ^ 32;
  first : map entry_view l.first.items ≡ take l.wanted (filter (is_found l._mapping (query_view l.query)) (woven (take l.part-index (documents_of_parts l.parts))));
}
