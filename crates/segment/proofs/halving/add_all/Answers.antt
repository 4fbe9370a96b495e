use Rattle.std.proofs.Common.{◌∙◌}
use Rattle.std.specs.Prelude.{string_bytes}
use Rattle.std.proofs.lemmas.Map.Text.{btree_map_updates_text}
use Rattle.segment.proofs.HalvingLaws.{one-moved}
use Rattle.segment.proofs.halving.add_all.Goals as goal

-- one column more
pub loop-name-preserved-in_ok-insert : goal.loop-name-preserved-in_ok-insert
loop-name-preserved-in_ok-insert c = λ w.
    let name = string_bytes c.in-Some.name in
    let taken = btree_map_updates_text name c.loop-name.left c.pop_first.new.self _ c.in-Some.ensures.updates in
    let sets = btree_map_updates_text name c.loop-name.columns c.insert.new.self _ c.in_ok-insert.ensures.updates in
    one-moved c.loop-name.left c.pop_first.new.self c.loop-name.columns c.insert.new.self name c.in-Some.column c.in-Some.ensures.value taken sets w ∙ c.loop-name.invariant w

pub loop-name-preserved : goal.loop-name-preserved
loop-name-preserved c = λ w.
    let name = string_bytes c.in-Some.name in
    let taken = btree_map_updates_text name c.loop-name.left c.pop_first.new.self _ c.in-Some.ensures.updates in
    let sets = btree_map_updates_text name c.loop-name.columns c.insert.new.self _ c.in_ok-insert.ensures.updates in
    one-moved c.loop-name.left c.pop_first.new.self c.loop-name.columns c.insert.new.self name c.in-Some.column c.in-Some.ensures.value taken sets w ∙ c.loop-name.invariant w
