use Rattle.std.proofs.Common.{◌≡◌, ◌∙◌, sym, ap, Ok}
use Rattle.std.proofs.lemmas.Result.{MatchResult-from_both}
use Rattle.wire.specs.Framing.{framed}
use Rattle.wire.specs.FrameView.{framed_view}
use Rattle.wire.proofs.Requests.{short_first, long_first, broken_first, whole_first_if_ok}
use Rattle.wire.proofs.reading.read_request.Goals as goal

pub returns-in-Short : goal.returns-in-Short
returns-in-Short g c = short_first c.args.most (g.R.Read.remaining c.args.reader.now) (rw c.in-Short.is at c.in_ok-read_head.ensures.head)

pub returns-in-Long : goal.returns-in-Long
returns-in-Long g c = long_first c.args.most (g.R.Read.remaining c.args.reader.now) (rw c.in-Long.is at c.in_ok-read_head.ensures.head)

pub returns-in-Ok : goal.returns-in-Ok
returns-in-Ok g c =
    let e : Ok (framed_view c.in-Ok.framed) ≡ framed c.args.most c.in-Whole.bytes.items = sym c.in-Ok.ensures ∙ ap (framed c.args.most) c.deref.ensures.value in
    let read = whole_first_if_ok c.args.most (g.R.Read.remaining c.args.reader.now) (g.R.Read.remaining c.read_head.new.reader) (g.R.Read.remaining c.read_framed.new.reader) c.in-Whole.bytes.items (framed_view c.in-Ok.framed) c.read_framed.result
    (rw c.in-Whole.is at c.in_ok-read_head.ensures.head) e c.read_framed.ensures.whole in
    MatchResult-from_both c.read_framed.result _ _ read c.read_framed.ensures.cause

pub returns : goal.returns
returns g c =
    broken_first c.args.most (g.R.Read.remaining c.args.reader.now) (g.R.Read.remaining c.read_head.new.reader) c.in-Whole.bytes.items c.in-Err.fault
    (rw c.in-Whole.is at c.in_ok-read_head.ensures.head) (sym c.is_memory.ensures ∙ c.if-is_memory.false) (rw c.deref.ensures.value at c.in-Err.ensures)
