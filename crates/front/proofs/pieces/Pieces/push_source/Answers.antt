use Rattle.std.proofs.Common.{◌≡◌, [], ◌++◌, length, arith, ap, ◌∙◌, append-nil, string_bytes}
use Rattle.front.specs.PieceView.{joined}
use Rattle.front.specs.declared.pieces.Piece.TheVariants.{Text, Shared}
use Rattle.front.proofs.PieceLists.{joined_two, length_more}
use Rattle.front.proofs.pieces.Pieces.push_source.Goals as goal

-- the open text became a piece, and so did the source
pub returns : goal.returns
returns c =
    let done = c.self.inside.done.items in
    let pieces = joined_two done c.push_back.new.self.items c.push_back-2.new.self.items (Text c.replace-text.result) (Shared c.in_ok-source.source) c.in_ok-push_back.ensures.items c.in_ok-push_back-2.ensures.items in
    let empty : string_bytes c.replace-text.new.dest ≡ [] = ap string_bytes c.replace-text.ensures.after ∙ c.new.ensures.bytes in
    let old : joined done ++ string_bytes c.replace-text.result ≡ c.args.self.now = ap (λ t. joined done ++ string_bytes t) c.replace-text.ensures.value ∙ c.self.view_is in
    ap (λ l. joined c.push_back-2.new.self.items ++ l) empty ∙ append-nil (joined c.push_back-2.new.self.items)
    ∙ pieces ∙ ap (λ l. l ++ c.in_ok-source.source) old ∙ ap (λ l. c.args.self.now ++ l) c.in_ok-source.ensures

-- the lengths of the pieces
pub invariant_of-self-in_err-push_back-2 : goal.invariant_of-self-in_err-push_back-2
invariant_of-self-in_err-push_back-2 c =
    let one = length_more c.self.inside.done.items c.push_back.new.self.items (Text c.replace-text.result) c.in_ok-push_back.ensures.items in
    let kept : length (joined c.push_back-2.new.self.items) ≡ length (joined c.push_back.new.self.items) = ap (λ l. length (joined l)) c.in_err-push_back-2.ensures.items in
    omega (arith, one, kept, c.self.invariant, c.in_ok-before.ensures, c.len.ensures)

pub invariant_of-self-2 : goal.invariant_of-self-2
invariant_of-self-2 c =
    let one = length_more c.self.inside.done.items c.push_back.new.self.items (Text c.replace-text.result) c.in_ok-push_back.ensures.items in
    let two = length_more c.push_back.new.self.items c.push_back-2.new.self.items (Shared c.in_ok-source.source) c.in_ok-push_back-2.ensures.items in
    omega (arith, one, two, c.self.invariant, c.in_ok-before.ensures, c.len.ensures, c.in_ok-after.ensures, ap length c.as_str-2.ensures.text)
