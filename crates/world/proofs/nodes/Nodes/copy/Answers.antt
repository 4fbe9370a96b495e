use Rattle.std.proofs.Common.{◌≡◌, ◌<◌, length, Option, Some, None, sym, ap, ◌∙◌, arith}
use Rattle.replica.specs.Copy.{Copy}
use Rattle.replica.specs.Logged.{Logged, searched}
use Rattle.replica.specs.Searched.{Searched}
use Rattle.world.specs.Nodes.{copies_of, node_in, nodes_of}
use Rattle.world.specs.World.{place_in, copy_in}
use Rattle.world.proofs.Places.{is_first, first_within, first_found, none_found, open_at}
use Rattle.world.proofs.Swaps.{no_node, node_found}
use Rattle.world.proofs.nodes.Nodes.copy.Goals as goal

pub index-requires : goal.index-requires
index-requires c =
    let within : c.in-Some.place < length c.deref.result.now = first_within c.deref.result.now c.args.id c.in-Some.place (is_first c.deref.result.now c.args.id c.in-Some.place (sym c.in-Some.ensures)) in
    omega (arith, within, c.deref.ensures.len)

pub returns-in-Some-clause-copy : goal.returns-in-Some-clause-copy
returns-in-Some-clause-copy c =
    let ls = c.self.inside.copies.items in
    let place : place_in (copies_of ls) c.args.id ≡ Some c.in-Some.place = rw (← c.deref.ensures.value) (sym c.in-Some.ensures) in
    let found : copy_in (copies_of ls) c.args.id ≡ Some c.index.result.now.copy =
    first_found ls c.args.id c.in-Some.place c.index.result.now (is_first ls c.args.id c.in-Some.place place)
    ∙ ap (λ (l : Logged). let o : Option Copy = Some l.copy in o) (sym c.index.ensures) in
    rw (← c.self.view_is) (sym found)

pub returns-in-Some-clause-node : goal.returns-in-Some-clause-node
returns-in-Some-clause-node c =
    let ls = c.self.inside.copies.items in
    let place : place_in (copies_of ls) c.args.id ≡ Some c.in-Some.place = rw (← c.deref.ensures.value) (sym c.in-Some.ensures) in
    let found : node_in (nodes_of ls) c.args.id ≡ Some (searched c.index.result.now) =
    node_found ls c.args.id c.in-Some.place c.index.result.now (is_first ls c.args.id c.in-Some.place place)
    ∙ ap (λ (l : Logged). let o : Option Searched = Some (searched l) in o) (sym c.index.ensures) in
    rw (← c.self.view_is) (sym found)

pub returns-in-Some-clause-open : goal.returns-in-Some-clause-open
returns-in-Some-clause-open c =
    let ls = c.self.inside.copies.items in
    let place : place_in (copies_of ls) c.args.id ≡ Some c.in-Some.place = rw (← c.deref.ensures.value) (sym c.in-Some.ensures) in
    let within : c.in-Some.place < length ls = first_within ls c.args.id c.in-Some.place (is_first ls c.args.id c.in-Some.place place) in
    ap (λ (l : Logged). l.closed) c.index.ensures ∙ open_at ls c.in-Some.place c.index.result.now c.self.invariant.1 within

pub returns-in-None-clause-copy : goal.returns-in-None-clause-copy
returns-in-None-clause-copy c =
    let ls = c.self.inside.copies.items in
    let place : place_in (copies_of ls) c.args.id ≡ None = rw (← c.deref.ensures.value) (sym c.in-None.ensures) in
    rw (← c.self.view_is) (sym (none_found ls c.args.id place))

pub returns-in-None-clause-node : goal.returns-in-None-clause-node
returns-in-None-clause-node c =
    let ls = c.self.inside.copies.items in
    let place : place_in (copies_of ls) c.args.id ≡ None = rw (← c.deref.ensures.value) (sym c.in-None.ensures) in
    rw (← c.self.view_is) (sym (no_node ls c.args.id (none_found ls c.args.id place)))
