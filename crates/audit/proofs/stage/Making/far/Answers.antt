use Rattle.std.proofs.Common.{◌≡◌, true, false, List, length, refl, sym, ap, arith, ◌∙◌}
use Rattle.std.specs.Prelude.{slice_get}
use Rattle.std.proofs.lemmas.Option.{slice_get_read}
use Rattle.op.specs.declared.message.Msg.{Msg}
use Rattle.audit.proofs.Caused.{none_yet, none_more, none_all}
use Rattle.audit.proofs.stage.Making.far.Goals as goal

pub loop-place-init : goal.loop-place-init
loop-place-init c = none_yet c.args.self.now.world.world c.args.next.now

pub loop-place-preserved : goal.loop-place-preserved
loop-place-preserved c =
    let all = c.messages-messages.result.now in
    let x = c.index-messages-place.result in
    let at = ap (λ (ms : List Msg). slice_get ms c.loop-place.place) (sym c.messages-messages.ensures) ∙ slice_get_read all (length all) c.loop-place.place x refl c.loop-place-test.true c.index-messages-place.is in
    none_more c.args.self.now.world.world c.args.next.now c.loop-place.place x at (λ l. let no : false ≡ true = c.if-lets.ensures.1 l in absurd cc) c.loop-place.invariant

pub returns-clause-none : goal.returns-clause-none
returns-clause-none c = λ e.
    let same = ap (λ (ms : List Msg). length ms) c.messages-messages.ensures in
    let past = c.loop-place-test.false in
    none_all c.args.self.now.world.world c.args.next.now c.loop-place.place (omega arith) c.loop-place.invariant
