use Rattle.std.proofs.Common.{true, ap, ◌∙◌}
use Rattle.std.proofs.lemmas.Result.{err_from_is_err_and}
use Rattle.translog.specs.Device.{count_after}
use Rattle.translog.proofs.FramesLaws.{header_cut, header_added}
use Rattle.translog.proofs.frames.write_header.Goals as goal

pub returns-in_err-cut-clause-refused : goal.returns-in_err-cut-clause-refused
returns-in_err-cut-clause-refused g c =
    let p = err_from_is_err_and c.from_residual-in_err-cut.result c.from_residual-in_err-cut.ensures.1 in
    rw (p.1, p.2) record {
      same = λ no. absurd cc;
      left = header_cut c.args.header.now _ _ _ c.requires.0 c.requires.1 c.requires.2 c.reserve.ensures.bytes c.in_err-cut.ensures.err;
      counts = c.in_err-cut.ensures.counts ∙ ap (count_after true) c.reserve.ensures.failures;
    }

pub returns-in_err-append-clause-refused : goal.returns-in_err-append-clause-refused
returns-in_err-append-clause-refused g c =
    let p = err_from_is_err_and c.from_residual-in_err-append.result c.from_residual-in_err-append.ensures.1 in
    rw (p.1, p.2) record {
      same = λ no. absurd cc;
      left = header_added c.args.header.now _ _ _ c.requires.0 c.requires.1 c.requires.2 c.in_ok-cut.ensures.ok c.in_err-append.ensures.err;
      counts = c.in_err-append.ensures.counts ∙ ap (count_after true) (c.in_ok-cut.ensures.counts ∙ c.reserve.ensures.failures);
    }
