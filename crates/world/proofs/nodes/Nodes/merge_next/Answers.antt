use Rattle.std.proofs.Common.{◌≡◌, ◌<◌, length, set, None, Some, sym, ap, subst, arith}
use Rattle.replica.specs.Copy.{Copy}
use Rattle.replica.specs.Logged.{Logged}
use Rattle.world.specs.Nodes.{copies_of, nodes_of, WorldData, HasFewSegments, HasMergedAt}
use Rattle.world.specs.World.{place_in}
use Rattle.world.proofs.Places.{is_first, first_within, none_found}
use Rattle.world.proofs.Doing.{stays_there}
use Rattle.world.proofs.Swaps.{few_at, few_of_none, merged_at, no_node}
use Rattle.world.proofs.nodes.Nodes.merge_next.Goals as goal

pub index_mut-requires : goal.index_mut-requires
index_mut-requires c =
    let within : c.in-Some.place < length c.deref.result.now = first_within c.deref.result.now c.args.id c.in-Some.place (is_first c.deref.result.now c.args.id c.in-Some.place (sym c.in-Some.ensures)) in
    omega (arith, within, c.deref.ensures.len)

pub returns-in_ok-is_merged-in-Some-clause-world : goal.returns-in_ok-is_merged-in-Some-clause-world
returns-in_ok-is_merged-in-Some-clause-world c =
    let inside = c.self.inside in
    let ls = inside.copies.items in
    let place : place_in (copies_of ls) c.args.id ≡ Some c.in-Some.place = rw (← c.deref.ensures.value) (sym c.in-Some.ensures) in
    let old = c.index_mut.result.now in
    let new = c.merge_next.new.self in
    let copy : new.copy ≡ old.copy = ap (λ (l : Logged). l.copy) c.in_ok-is_merged-in-Some.ensures.rest in
    let stays : copies_of (set ls c.in-Some.place new) ≡ copies_of ls =
    stays_there inside.mapping inside.master.state ls inside.messages.items inside.acknowledged.items c.args.id c.in-Some.place old new place c.index_mut.ensures.value (ap (λ (x : Copy). x.id) copy) copy in
    rw stays (ap (λ (n : WorldData). n.world) c.self.view_is)

pub returns-in_ok-is_merged-in-Some-clause-merged : goal.returns-in_ok-is_merged-in-Some-clause-merged
returns-in_ok-is_merged-in-Some-clause-merged c =
    let ls = c.self.inside.copies.items in
    let place : place_in (copies_of ls) c.args.id ≡ Some c.in-Some.place = rw (← c.deref.ensures.value) (sym c.in-Some.ensures) in
    let old = c.index_mut.result.now in
    let new = c.merge_next.new.self in
    let done = c.in_ok-is_merged-in-Some in
    let copy : new.copy ≡ old.copy = ap (λ (l : Logged). l.copy) done.ensures.rest in
    λ made. subst (λ (n : WorldData). HasMergedAt c.args.id n.nodes (nodes_of (set ls c.in-Some.place new))) c.self.view_is
    (merged_at ls c.args.id c.in-Some.place old new (is_first ls c.args.id c.in-Some.place place) c.index_mut.ensures.value copy (done.ensures.merged made))

pub returns-in_ok-is_merged-in-Some-clause-few : goal.returns-in_ok-is_merged-in-Some-clause-few
returns-in_ok-is_merged-in-Some-clause-few c =
    let ls = c.self.inside.copies.items in
    let place : place_in (copies_of ls) c.args.id ≡ Some c.in-Some.place = rw (← c.deref.ensures.value) (sym c.in-Some.ensures) in
    let old = c.index_mut.result.now in
    λ left. subst (λ (n : WorldData). HasFewSegments c.args.id n.nodes) c.self.view_is
    (few_at ls c.args.id c.in-Some.place old (is_first ls c.args.id c.in-Some.place place) c.index_mut.ensures.value (c.in_ok-is_merged-in-Some.ensures.few left))

pub returns-in-None-clause-few : goal.returns-in-None-clause-few
returns-in-None-clause-few c =
    let ls = c.self.inside.copies.items in
    let place : place_in (copies_of ls) c.args.id ≡ None = rw (← c.deref.ensures.value) (sym c.in-None.ensures) in
    λ left. subst (λ (n : WorldData). HasFewSegments c.args.id n.nodes) c.self.view_is (few_of_none (nodes_of ls) c.args.id (no_node ls c.args.id (none_found ls c.args.id place)))
