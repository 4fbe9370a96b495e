use Rattle.std.proofs.Common.{◌≡◌, ◌∙◌, sym, ap, length, arith}
use Rattle.std.proofs.lemmas.Bool.Decides.{nat_tests}
use Rattle.front.specs.PieceView.{joined, piece_bytes}
use Rattle.front.proofs.PieceLists.{is_nothing}
use Rattle.front.proofs.sending.Unsent.is_empty.Goals as goal

pub returns-then-self-eq0 : goal.returns-then-self-eq0
returns-then-self-eq0 c =
    let u = c.self.inside in
    let k = is_nothing (piece_bytes u.piece) (joined u.rest.items) u.sent in
    let size : length c.as_str.result.now ≡ length (piece_bytes u.piece) = ap length c.as_str.ensures in (
      λ h. sym c.self.view_is ∙ k.0 (sym c.self.invariant.1 ∙ grind (arith, nat_tests, c.if-self-eq0.true)) (grind (arith, nat_tests, h, size)),
      λ e. grind (arith, nat_tests, (k.1 (c.self.view_is ∙ e)).1, size),
    )

pub returns-else-self-eq0 : goal.returns-else-self-eq0
returns-else-self-eq0 c =
    let u = c.self.inside in
    let k = is_nothing (piece_bytes u.piece) (joined u.rest.items) u.sent in (
      λ h. absurd (grind (arith, nat_tests, h, c.if-self-eq0.false)),
      λ e. absurd (grind (arith, nat_tests, c.if-self-eq0.false, c.self.invariant.1, (k.1 (c.self.view_is ∙ e)).0)),
    )
