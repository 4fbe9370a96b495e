use Rattle.std.specs.Prelude.{string_bytes}
use Rattle.std.proofs.lemmas.Map.Text.{btree_map_updates_text}
use Rattle.segment.specs.Posted.{IsFinished}
use Rattle.segment.proofs.FinishLaws.{few-left, few-there, one-finished}
use Rattle.segment.proofs.finishing.finish_all.Goals as goal

pub finished-requires : goal.finished-requires
finished-requires c = few-there c.args.len c.loop-name.left (string_bytes c.in-Some.name) c.in-Some.making c.in-Some.ensures.value c.loop-name.invariant.few

-- one column more
pub loop-name-preserved-in_ok-insert : goal.loop-name-preserved-in_ok-insert
loop-name-preserved-in_ok-insert c =
    let name = string_bytes c.in-Some.name in
    let taken = btree_map_updates_text name c.loop-name.left c.pop_first.new.self _ c.in-Some.ensures.updates in
    let sets = btree_map_updates_text name c.loop-name.columns c.insert.new.self _ c.in_ok-insert.ensures.updates in
    record {
      either = one-finished (IsFinished c.args.len) c.args.makings c.loop-name.left c.pop_first.new.self c.loop-name.columns c.insert.new.self name c.in-Some.making c.in_ok-column.column c.in-Some.ensures.value taken sets c.in_ok-column.ensures c.loop-name.invariant.either;
      few = few-left c.args.len c.loop-name.left c.pop_first.new.self name taken c.loop-name.invariant.few;
    }

pub loop-name-preserved : goal.loop-name-preserved
loop-name-preserved c =
    let name = string_bytes c.in-Some.name in
    let taken = btree_map_updates_text name c.loop-name.left c.pop_first.new.self _ c.in-Some.ensures.updates in
    let sets = btree_map_updates_text name c.loop-name.columns c.insert.new.self _ c.in_ok-insert.ensures.updates in
    record {
      either = one-finished (IsFinished c.args.len) c.args.makings c.loop-name.left c.pop_first.new.self c.loop-name.columns c.insert.new.self name c.in-Some.making c.in_ok-column.column c.in-Some.ensures.value taken sets c.in_ok-column.ensures c.loop-name.invariant.either;
      few = few-left c.args.len c.loop-name.left c.pop_first.new.self name taken c.loop-name.invariant.few;
    }
