use Rattle.std.proofs.Common.{◌≡◌, ◌∙◌, refl, sym, true, false}
use Rattle.wire.specs.Reading.{ends}
use Rattle.std.proofs.lemmas.Result.{err_from_is_err_and}
use Rattle.front.proofs.Streams.{stops, is_over, stops_answering, stops_writing, ends_after, goes_on}
use Rattle.front.proofs.serving.serve_stream.Goals as goal

-- the request wasn't read
pub returns-in_err-whole-clause-err : goal.returns-in_err-whole-clause-err
returns-in_err-whole-clause-err g c =
    let p = err_from_is_err_and c.from_residual.result c.from_residual.ensures.1 in
    rw (p.1, p.2) (stops g.S.Service.answers (g.S.Service.name c.args.service.now) (g.S.Service.fields c.args.service.now) (g.R.Read.remaining c.args.reader.now) (g.R.Read.remaining c.loop-count.reader) (g.W.Write.contents c.args.writer.now) (g.W.Write.contents c.loop-count.writer) c.args.service.now c.loop-count.service c.loop-count.count _ c.in_err-whole.ensures c.loop-count.invariant.going)

-- no request is left
pub returns-in_default-clause-ok : goal.returns-in_default-clause-ok
returns-in_default-clause-ok g c = is_over g.S.Service.answers (g.S.Service.name c.args.service.now) (g.S.Service.fields c.args.service.now) (g.R.Read.remaining c.args.reader.now) (g.R.Read.remaining c.loop-count.reader) (g.R.Read.remaining c.read_request.new.reader) (g.W.Write.contents c.args.writer.now) (g.W.Write.contents c.loop-count.writer) c.args.service.now c.loop-count.service c.loop-count.count c.loop-count.invariant.going (rw c.in_default.is at c.in_ok-whole.ensures)

-- the request wasn't answered
pub returns-in_err-page-clause-err : goal.returns-in_err-page-clause-err
returns-in_err-page-clause-err g c =
    let p = err_from_is_err_and c.from_residual-in_err-page.result c.from_residual-in_err-page.ensures.1 in
    rw (p.1, p.2, c.in_err-page.ensures.cause) (stops_answering g.S.Service.answers (g.S.Service.name c.args.service.now) (g.S.Service.fields c.args.service.now) (g.R.Read.remaining c.args.reader.now) (g.R.Read.remaining c.loop-count.reader) (g.R.Read.remaining c.read_request.new.reader) (g.W.Write.contents c.args.writer.now) (g.W.Write.contents c.loop-count.writer) c.args.service.now c.loop-count.service c.answer.new.service c.loop-count.count c.in-Some.whole c.loop-count.invariant.going (rw c.in-Some.is at c.in_ok-whole.ensures) (rw (c.loop-count.invariant.name, c.loop-count.invariant.fields) at c.in_err-page.ensures.err))

-- its page wasn't written whole
pub returns-in_err-write-clause-err : goal.returns-in_err-write-clause-err
returns-in_err-write-clause-err g c =
    let p = err_from_is_err_and c.from_residual-in_err-write.result c.from_residual-in_err-write.ensures.1 in
    rw (p.1, p.2, c.in_err-write.ensures.cause) (stops_writing g.S.Service.answers (g.S.Service.name c.args.service.now) (g.S.Service.fields c.args.service.now) (g.R.Read.remaining c.args.reader.now) (g.R.Read.remaining c.loop-count.reader) (g.R.Read.remaining c.read_request.new.reader) (g.W.Write.contents c.args.writer.now) (g.W.Write.contents c.loop-count.writer) (g.W.Write.contents c.write.new.writer) c.args.service.now c.loop-count.service c.answer.new.service c.loop-count.count c.in-Some.whole c.in_ok-page.page c.loop-count.invariant.going (rw c.in-Some.is at c.in_ok-whole.ensures) (rw (c.loop-count.invariant.name, c.loop-count.invariant.fields) at c.in_ok-page.ensures.ok)
    c.in_err-write.ensures.err)

pub returns-then-ends-clause-ok : goal.returns-then-ends-clause-ok
returns-then-ends-clause-ok g c =
    let e : ends c.in-Some.whole ≡ true = sym c.ends.ensures ∙ c.if-ends.true in
    ends_after g.S.Service.answers (g.S.Service.name c.args.service.now) (g.S.Service.fields c.args.service.now) (g.R.Read.remaining c.args.reader.now) (g.R.Read.remaining c.loop-count.reader) (g.R.Read.remaining c.read_request.new.reader) (g.W.Write.contents c.args.writer.now) (g.W.Write.contents c.loop-count.writer) (g.W.Write.contents c.write.new.writer) c.args.service.now c.loop-count.service c.answer.new.service c.loop-count.count c.in-Some.whole c.in_ok-page.page c.loop-count.invariant.going (rw c.in-Some.is at c.in_ok-whole.ensures) (rw (c.loop-count.invariant.name, c.loop-count.invariant.fields) at c.in_ok-page.ensures.ok)
    c.in_ok-write.ensures.ok e

pub loop-count-preserved : goal.loop-count-preserved
loop-count-preserved g c =
    let e : ends c.in-Some.whole ≡ false = sym c.ends.ensures ∙ c.if-ends.false in
    record {
      going = goes_on g.S.Service.answers (g.S.Service.name c.args.service.now) (g.S.Service.fields c.args.service.now) (g.R.Read.remaining c.args.reader.now) (g.R.Read.remaining c.loop-count.reader) (g.R.Read.remaining c.read_request.new.reader) (g.W.Write.contents c.args.writer.now) (g.W.Write.contents c.loop-count.writer) (g.W.Write.contents c.write.new.writer) c.args.service.now c.loop-count.service c.answer.new.service c.loop-count.count c.in-Some.whole c.in_ok-page.page c.loop-count.invariant.going (rw c.in-Some.is at c.in_ok-whole.ensures) (rw (c.loop-count.invariant.name, c.loop-count.invariant.fields) at c.in_ok-page.ensures.ok)
          c.in_ok-write.ensures.ok e;
      name = c.in_ok-page.ensures.name ∙ c.loop-count.invariant.name;
      fields = c.in_ok-page.ensures.fields ∙ c.loop-count.invariant.fields;
    }

-- the greatest count
pub returns-clause-err : goal.returns-clause-err
returns-clause-err g c = stops g.S.Service.answers (g.S.Service.name c.args.service.now) (g.S.Service.fields c.args.service.now) (g.R.Read.remaining c.args.reader.now) (g.R.Read.remaining c.loop-count.reader) (g.W.Write.contents c.args.writer.now) (g.W.Write.contents c.loop-count.writer) c.args.service.now c.loop-count.service c.loop-count.count _ refl c.loop-count.invariant.going
