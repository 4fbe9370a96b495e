use Rattle.std.proofs.Common.{subst}
use Rattle.translog.specs.Frames.{IsTorn}
use Rattle.translog.specs.declared.frames.Torn.{Torn}
use Rattle.translog.proofs.FramesLaws.{cut_loses_nothing}
use Rattle.translog.proofs.frames.mend.Goals as goal

pub returns-in-Err-clause-refused : goal.returns-in-Err-clause-refused
returns-in-Err-clause-refused g c =
    let header = c.args.header.now in
    let old = g.D.LogDevice.bytes c.args.device.now in
    let torn = subst (λ (t : Torn). IsTorn header old c.requires.0 t) c.in-End.is c.requires.1 in
    record {
      same = λ no. absurd cc;
      left = cut_loses_nothing header old (g.D.LogDevice.bytes c.cut.new.self) c.requires.0 c.in-End.whole torn c.in-Err.ensures.err;
      counts = c.in-Err.ensures.counts;
    }
