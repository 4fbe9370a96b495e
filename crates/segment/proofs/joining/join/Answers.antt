use Rattle.std.specs.Prelude.{string_bytes}
use Rattle.std.proofs.lemmas.Map.Text.{btree_map_updates_text}
use Rattle.segment.proofs.AddedLaws.{long-there}
use Rattle.segment.proofs.JoinedLaws.{long-left, one-field-joined}
use Rattle.segment.proofs.joining.join.Goals as goal

pub join_one-requires-clause-later : goal.join_one-requires-clause-later
join_one-requires-clause-later c = long-there c.args.len c.loop-name.left (string_bytes c.in-Some.name) c.in-Some.making c.loop-name.invariant.later c.in-Some.ensures.value

-- one column more
pub loop-name-preserved : goal.loop-name-preserved
loop-name-preserved c =
    let name = string_bytes c.in-Some.name in
    let taken = btree_map_updates_text name c.loop-name.left c.pop_first.new.self _ c.in-Some.ensures.updates in
    record {
      either = one-field-joined c.args.makings.now c.args.later c.loop-name.left c.pop_first.new.self c.loop-name.makings c.join_one.new.makings name c.in-Some.making c.in-Some.ensures.value taken c.in_ok-join_one.ensures.here c.in_ok-join_one.ensures.others c.loop-name.invariant.either;
      long = c.in_ok-join_one.ensures.long;
      later = long-left c.args.makings.now c.args.later c.loop-name.left c.pop_first.new.self c.loop-name.makings c.join_one.new.makings name c.in-Some.making c.in-Some.ensures.value taken c.in_ok-join_one.ensures.here c.in_ok-join_one.ensures.others c.args.len c.loop-name.invariant.later;
    }
