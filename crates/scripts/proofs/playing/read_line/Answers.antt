use Rattle.std.proofs.Common.{◌<◌, length, arith}
use Rattle.scripts.proofs.FirstLine.{first_line}
use Rattle.scripts.proofs.playing.read_line.Goals as goal

pub returns-in-Ok-clause-some : goal.returns-in-Ok-clause-some
returns-in-Ok-clause-some g c =
    let some : 0 < length c.read_until.new.buf.items = omega (arith, c.in-Ok.ensures.ok, c.read_until.new.buf.ok.0) in
    rw c.strip_newline.ensures (first_line (g.R.Read.remaining c.args.reader.now) (g.R.Read.remaining c.read_until.new.self) c.read_until.new.buf.items (rw c.new-line.ensures.items at c.in-Ok.ensures.bytes) c.in-Ok.ensures.rest some)
