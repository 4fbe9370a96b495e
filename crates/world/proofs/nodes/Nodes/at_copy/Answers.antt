use Rattle.std.proofs.Common.{◌≡◌, ◌<◌, length, set, Some, None, refl, sym, ap, ◌∙◌, arith}
use Rattle.std.proofs.lemmas.Result.{err_from_is_err_and}
use Rattle.replica.specs.Copy.{Copy}
use Rattle.replica.specs.Logged.{Logged}
use Rattle.world.specs.Nodes.{copies_of, WorldData}
use Rattle.world.specs.World.{place_in, copy_in}
use Rattle.world.proofs.Places.{is_first, first_within, none_found, open_at}
use Rattle.world.proofs.Doing.{stepped_at, stays_there}
use Rattle.world.proofs.nodes.Nodes.at_copy.Goals as goal

pub index_mut-requires : goal.index_mut-requires
index_mut-requires c =
    let within : c.in-Some.place < length c.deref.result.now = first_within c.deref.result.now c.args.id c.in-Some.place (is_first c.deref.result.now c.args.id c.in-Some.place (sym c.in-Some.ensures)) in
    omega (arith, within, c.deref.ensures.len)

pub step_copy-requires : goal.step_copy-requires
step_copy-requires c =
    let ls = c.self.inside.copies.items in
    let place : place_in (copies_of ls) c.args.id ≡ Some c.in-Some.place = rw (← c.deref.ensures.value) (sym c.in-Some.ensures) in
    let within : c.in-Some.place < length ls = first_within ls c.args.id c.in-Some.place (is_first ls c.args.id c.in-Some.place place) in
    ap (λ (l : Logged). l.closed) c.index_mut.ensures.value ∙ open_at ls c.in-Some.place c.index_mut.result.now c.self.invariant.1 within

pub returns-in_err-answer-in-Some-clause-stays : goal.returns-in_err-answer-in-Some-clause-stays
returns-in_err-answer-in-Some-clause-stays c =
    let p = err_from_is_err_and c.from_residual.result c.from_residual.ensures.1 in
    let inside = c.self.inside in
    let ls = inside.copies.items in
    let place : place_in (copies_of ls) c.args.id ≡ Some c.in-Some.place = rw (← c.deref.ensures.value) (sym c.in-Some.ensures) in
    let done = c.in_err-answer-in-Some.ensures in
    let old = c.index_mut.result.now in
    let new = c.step_copy.new.copy in
    let stays : copies_of (set ls c.in-Some.place new) ≡ copies_of ls =
    stays_there inside.mapping inside.master.state ls inside.messages.items inside.acknowledged.items c.args.id c.in-Some.place old new place c.index_mut.ensures.value (ap (λ (x : Copy). x.id) done.stays) done.stays in
    rw (p.1, stays, done.messages, done.acknowledged) (ap (λ (n : WorldData). n.world) c.self.view_is)

pub returns-in_ok-answer-in-Some-clause-happened : goal.returns-in_ok-answer-in-Some-clause-happened
returns-in_ok-answer-in-Some-clause-happened c =
    let inside = c.self.inside in
    let ls = inside.copies.items in
    let place : place_in (copies_of ls) c.args.id ≡ Some c.in-Some.place = rw (← c.deref.ensures.value) (sym c.in-Some.ensures) in
    let done = c.in_ok-answer-in-Some.ensures in
    let old = c.index_mut.result.now in
    let new = c.step_copy.new.copy in
    rw (← c.self.view_is)
    (stepped_at inside.mapping inside.master.state ls inside.messages.items inside.acknowledged.items c.args.id c.in-Some.place old new place c.index_mut.ensures.value done.id c.args.input c.step_copy.new.messages.items c.step_copy.new.acknowledged.items c.in_ok-answer-in-Some.answer done.happened)

pub returns-in-None-clause-happened : goal.returns-in-None-clause-happened
returns-in-None-clause-happened c =
    let ls = c.self.inside.copies.items in
    let place : place_in (copies_of ls) c.args.id ≡ None = rw (← c.deref.ensures.value) (sym c.in-None.ensures) in
    let none : copy_in (copies_of ls) c.args.id ≡ None = none_found ls c.args.id place in
    rw (← c.self.view_is, none) refl
