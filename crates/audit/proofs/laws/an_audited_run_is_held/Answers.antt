use Rattle.audit.proofs.laws.an_audited_run_is_held.Goals as goal

pub returns : goal.returns
returns c = λ mapping n js es made. c.what_is_acknowledged_is_held.ensures mapping n es made.size.0
