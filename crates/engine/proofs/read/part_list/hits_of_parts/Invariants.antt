use Rattle.std.proofs.Common.{◌≡◌, ◌≤◌, ◌*◌, ◌^◌, filter, take, length}
use Rattle.query.specs.View.{query_view}
use Rattle.engine.specs.Answer.{is_found}
use Rattle.engine.specs.Before.{first_of_each}
use Rattle.engine.specs.Parts.{documents_of_parts, woven}
use Rattle.engine.specs.Shown.{seen_all}
use Rattle.engine.proofs.read.part_list.hits_of_parts.Given as goal

-- what the parts so far have
abbrev pub invariant-loop-part : goal.invariant-loop-part
invariant-loop-part l = record {
  total : l.total ≡ length (filter (is_found l._mapping (query_view l.query)) (woven (take l.part-index (documents_of_parts l.parts))));
  few : l.total ≤ l.part-index * 2 ^ 32;
  lists : seen_all l.lists.items ≡ first_of_each l.wanted (is_found l._mapping (query_view l.query)) (take l.part-index (documents_of_parts l.parts));
}
