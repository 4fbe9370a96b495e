use Rattle.std.proofs.Common.{arith}
use Rattle.std.proofs.lemmas.List.{drop_more}
use Rattle.front.proofs.Pages.{is_escaped}
use Rattle.front.proofs.json_text.is_plain.Goals as goal

-- the byte that is no plain one is where the rest begins
pub returns-then-not-is_plain_byte : goal.returns-then-not-is_plain_byte
returns-then-not-is_plain_byte c =
    let here = drop_more c.args.text.now c.loop-byte.byte-index 0 (omega arith) in
    let left = rw here at c.loop-byte.invariant in
    let byte = rw c.as_bytes-byte-items.ensures.value at c.is_plain_byte.ensures in
    (λ t. absurd (cc t), λ e. absurd (is_escaped _ _ (λ same. cc (byte.1 same)) (left.1 e)))
