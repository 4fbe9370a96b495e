use Rattle.std.proofs.Common.{◌≡◌, ℕ, List, ap, ◌∙◌, sym}
use Rattle.std.proofs.lemmas.Result.{err_from_is_err_and}
use Rattle.scripts.specs.Step.{State}
use Rattle.scripts.specs.Output.{played}
use Rattle.scripts.proofs.Played.{goes_on, cut_short}
use Rattle.scripts.proofs.playing.replay_telling.Goals as goal

-- the line was played, and its text was cut short
pub returns-in_err-write_line-clause-err : goal.returns-in_err-write_line-clause-err
returns-in_err-write_line-clause-err g c =
    let refused = err_from_is_err_and c.from_residual-in_err-write_line.result c.from_residual-in_err-write_line.ensures.1 in
    let line = c.in-Some.line.items in
    let s = c.loop.index in
    let step = rw c.deref.ensures.value at c.in_ok-text.ensures in
    let text : c.as_bytes.result.now ≡ (played s line).1 = c.as_bytes.ensures.value ∙ sym (ap (λ (p : State × List ℕ). p.1) step) in
    rw refused.1 (cut_short (g.R.Read.remaining c.args.reader.now) (g.W.Write.contents c.args.writer.now) (g.W.Write.contents c.loop.writer) (g.W.Write.contents c.write_line.new.writer) (g.R.Read.remaining c.loop.reader) (g.R.Read.remaining c.read_line.new.reader) s line c.loop.invariant (rw c.in-Some.is at c.in_ok-line.ensures.some) (rw text at c.in_err-write_line.ensures.err))

-- the line was played, and its text was written
pub loop-preserved : goal.loop-preserved
loop-preserved g c =
    let line = c.in-Some.line.items in
    let s = c.loop.index in
    let step = rw c.deref.ensures.value at c.in_ok-text.ensures in
    let text : c.as_bytes.result.now ≡ (played s line).1 = c.as_bytes.ensures.value ∙ sym (ap (λ (p : State × List ℕ). p.1) step) in
    let after : c.played.new.index ≡ (played s line).0 = sym (ap (λ (p : State × List ℕ). p.0) step) in
    rw after (goes_on (g.R.Read.remaining c.args.reader.now) (g.W.Write.contents c.args.writer.now) (g.W.Write.contents c.loop.writer) (g.W.Write.contents c.write_line.new.writer) (g.R.Read.remaining c.loop.reader) (g.R.Read.remaining c.read_line.new.reader) s line c.loop.invariant (rw c.in-Some.is at c.in_ok-line.ensures.some) (rw text at c.in_ok-write_line.ensures.ok))
