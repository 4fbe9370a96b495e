use Rattle.std.proofs.Common.{ap, ◌++◌, ◌∙◌}
use Rattle.master.proofs.Decisions.{first_log}
use Rattle.master.proofs.master.first.Goals as goal

pub returns-clause-whole : goal.returns-clause-whole
returns-clause-whole g c =
    let log = c.in_ok-append.ensures.ok ∙ ap (λ bs. bs ++ c.in_ok-frame.frame) c.prepared.ensures.held ∙ ap (λ f. g.D.LogDevice.bytes c.args.frames.now.device ++ f) c.in_ok-frame.ensures.frame in
    rw (log, c.in_ok-state.ensures.state) (first_log (g.D.LogDevice.bytes c.args.frames.now.device) c.args.copies c.requires.log c.in_ok-frame.ensures.reads)
