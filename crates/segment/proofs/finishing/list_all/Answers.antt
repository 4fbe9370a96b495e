use Rattle.std.proofs.Common.{subst, sym}
use Rattle.std.specs.Prelude.{string_bytes}
use Rattle.std.proofs.lemmas.Map.Text.{btree_map_updates_text}
use Rattle.segment.specs.Joined.{IsPut}
use Rattle.segment.proofs.FinishLaws.{one-finished}
use Rattle.segment.proofs.finishing.list_all.Goals as goal

-- one column more
pub loop-name-preserved-in_ok-insert : goal.loop-name-preserved-in_ok-insert
loop-name-preserved-in_ok-insert c =
    let name = string_bytes c.in-Some.name in
    let taken = btree_map_updates_text name c.loop-name.left c.pop_first.new.self _ c.in-Some.ensures.updates in
    let sets = btree_map_updates_text name c.loop-name.listed c.insert.new.self _ c.in_ok-insert.ensures.updates in
    one-finished IsPut c.args.makings c.loop-name.left c.pop_first.new.self c.loop-name.listed c.insert.new.self name c.in-Some.making c.in_ok-boxed.boxed c.in-Some.ensures.value taken sets
    (subst (IsPut c.in-Some.making.value) (sym c.in_ok-boxed.ensures.ok) (subst (λ m. IsPut m c.list.new.self) c.into_inner-making.ensures c.in_ok-list.ensures)) c.loop-name.invariant

pub loop-name-preserved : goal.loop-name-preserved
loop-name-preserved c =
    let name = string_bytes c.in-Some.name in
    let taken = btree_map_updates_text name c.loop-name.left c.pop_first.new.self _ c.in-Some.ensures.updates in
    let sets = btree_map_updates_text name c.loop-name.listed c.insert.new.self _ c.in_ok-insert.ensures.updates in
    one-finished IsPut c.args.makings c.loop-name.left c.pop_first.new.self c.loop-name.listed c.insert.new.self name c.in-Some.making c.in_ok-boxed.boxed c.in-Some.ensures.value taken sets
    (subst (IsPut c.in-Some.making.value) (sym c.in_ok-boxed.ensures.ok) (subst (λ m. IsPut m c.list.new.self) c.into_inner-making.ensures c.in_ok-list.ensures)) c.loop-name.invariant
