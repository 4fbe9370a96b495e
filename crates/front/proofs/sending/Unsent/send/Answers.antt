use Rattle.std.proofs.Common.{◌≡◌, ◌∙◌, ◌++◌, drop}
use Rattle.front.specs.PieceView.{joined, piece_bytes}
use Rattle.front.proofs.PieceLists.{is_sent, rest_of}
use Rattle.front.proofs.sending.Unsent.send.Goals as goal

-- the writer took the first bytes of the piece
pub returns-clause-ok : goal.returns-clause-ok
returns-clause-ok g c =
    let u = c.self-2.inside in
    let e : c.as_bytes-bytes.result.now ≡ piece_bytes u.piece = c.as_bytes-bytes.ensures.value ∙ c.as_str.ensures in
    let all : drop u.sent (piece_bytes u.piece) ++ joined u.rest.items ≡ c.args.self.now = c.self-2.view_is ∙ c.loop.invariant.0 in
    rw (← all) (is_sent (piece_bytes u.piece) (joined u.rest.items) u.sent c.in_ok-n.n (g.W.Write.contents c.args.writer.now) (g.W.Write.contents c.write.new.self)
    (rw (e, rest_of (piece_bytes u.piece) u.sent) at c.in_ok-n.ensures.bytes) (rw (e, rest_of (piece_bytes u.piece) u.sent) at c.in_ok-n.ensures.bound))
