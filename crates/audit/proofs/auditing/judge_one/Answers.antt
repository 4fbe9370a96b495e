use Rattle.std.proofs.lemmas.Result.{IfOk-weaker}
use Rattle.audit.proofs.Passing.{passes_at}
use Rattle.audit.proofs.auditing.judge_one.Goals as goal

pub returns-then-node-eq0-clause-ok : goal.returns-then-node-eq0-clause-ok
returns-then-node-eq0-clause-ok c =
    IfOk-weaker c.judge_master.result _ _
    (λ part h. passes_at c.args.mapping.now c.args.copies c.args.node c.args.journal.now c.in-OfMaster.state c.as_slice.result.now c.in-OfMaster.rulings part c.if-node-eq0.true c.in-OfMaster.is c.as_slice.ensures (h c.args.mapping.now))
    c.judge_master.ensures.ok
