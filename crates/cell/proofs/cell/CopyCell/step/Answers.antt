use Rattle.std.proofs.Common.{subst}
use Rattle.std.specs.Prelude.{IfOk, IsOk}
use Rattle.node.specs.Held.{IsCall}
use Rattle.cell.specs.Publishing.{CellData, IsStepped}
use Rattle.cell.proofs.Refusing.{step_published, stepped}
use Rattle.cell.proofs.cell.CopyCell.step.Goals as goal

pub invariant_of-self : goal.invariant_of-self
invariant_of-self g c =
    (step_published c.self.inside.held c.call.new.self c.args.pass.now c.call.new.pass c.args.input c.call.result c.copy-copy.result.now c.self.inside.publisher c.copy-copy.ensures c.call.ensures.ok c.call.ensures.err c.self.invariant.0, c.self.invariant.1)

pub returns-clause-ok : goal.returns-clause-ok
returns-clause-ok g c = subst (λ (v : CellData). IfOk c.call.result (λ r. IsCall v.journal c.call.new.self c.args.pass.now c.call.new.pass c.args.input r × IsOk r.deed.answer)) c.self.view_is c.call.ensures.ok

pub returns-clause-stepped : goal.returns-clause-stepped
returns-clause-stepped g c =
    subst (λ (v : CellData). IfOk c.call.result (λ r. IsStepped c.args.input v (record { journal = c.call.new.self; line = c.self.inside.publisher }))) c.self.view_is
    (stepped c.self.inside.held c.call.new.self c.self.inside.publisher c.args.pass.now c.call.new.pass c.args.input c.call.result c.call.ensures.ok)
