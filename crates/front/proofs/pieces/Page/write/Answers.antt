use Rattle.std.proofs.Common.{◌≡◌, ◌∙◌}
use Rattle.front.specs.PieceView.{piece_bytes}
use Rattle.front.proofs.Calls.{on_err}
use Rattle.front.proofs.PieceLists.{piece_written, piece_refused}
use Rattle.front.proofs.pieces.Page.write.Goals as goal

-- a piece wasn't written whole
pub returns-in_err-write_whole-2-clause-err : goal.returns-in_err-write_whole-2-clause-err
returns-in_err-write_whole-2-clause-err g c =
    let e : c.as_bytes-in-loop-piece.result.now ≡ piece_bytes c.in-Some.piece = c.as_bytes-in-loop-piece.ensures.value ∙ c.as_str.ensures in
    on_err c.from_residual-in_err-write_whole-2.result _
    (piece_refused (g.W.Write.contents c.args.writer.now) (g.W.Write.contents c.loop-piece.writer) (g.W.Write.contents c.write_whole-in-loop-piece.new.writer) c.in-Some.piece c.loop-piece.piece-iterator.rest.items c.next.new.self.rest.items c.args.self
    c.loop-piece.invariant c.in-Some.ensures.steps.0 (rw e at c.in_err-write_whole-2.ensures.err))

pub loop-piece-preserved-in_ok-write_whole-2 : goal.loop-piece-preserved-in_ok-write_whole-2
loop-piece-preserved-in_ok-write_whole-2 g c =
    let e : c.as_bytes-in-loop-piece.result.now ≡ piece_bytes c.in-Some.piece = c.as_bytes-in-loop-piece.ensures.value ∙ c.as_str.ensures in
    piece_written (g.W.Write.contents c.args.writer.now) (g.W.Write.contents c.loop-piece.writer) (g.W.Write.contents c.write_whole-in-loop-piece.new.writer) c.in-Some.piece c.loop-piece.piece-iterator.rest.items c.next.new.self.rest.items c.args.self
    c.loop-piece.invariant c.in-Some.ensures.steps.0 (rw e at c.in_ok-write_whole-2.ensures.ok)

pub loop-piece-preserved : goal.loop-piece-preserved
loop-piece-preserved g c =
    let e : c.as_bytes-in-loop-piece.result.now ≡ piece_bytes c.in-Some.piece = c.as_bytes-in-loop-piece.ensures.value ∙ c.as_str.ensures in
    piece_written (g.W.Write.contents c.args.writer.now) (g.W.Write.contents c.loop-piece.writer) (g.W.Write.contents c.write_whole-in-loop-piece.new.writer) c.in-Some.piece c.loop-piece.piece-iterator.rest.items c.next.new.self.rest.items c.args.self
    c.loop-piece.invariant c.in-Some.ensures.steps.0 (rw e at c.in_ok-write_whole-2.ensures.ok)
