use Rattle.std.proofs.Common.{◌∙◌, sym, ap}
use Rattle.engine.specs.Slot.{SlotData}
use Rattle.engine.proofs.HeldLaws.{ops-set, AreHeld-set}
use Rattle.engine.proofs.operations.slots.let_go.Goals as goal

-- the operation stays
pub returns-clause-ops : goal.returns-clause-ops
returns-clause-ops c =
    let at = c.index-slots-at in
    ops-set c.args.slots.now c.args.at c.let_go.new.self at.result at.is (c.let_go.ensures ∙ ap (λ (t : SlotData). t.op) (sym at.is))

pub returns-clause-held : goal.returns-clause-held
returns-clause-held c = λ os held replaced.
    let at = c.index-slots-at in
    AreHeld-set os c.args.slots.now c.args.at c.let_go.new.self at.result at.is (c.let_go.ensures ∙ ap (λ (t : SlotData). t.op) (sym at.is)) held replaced
