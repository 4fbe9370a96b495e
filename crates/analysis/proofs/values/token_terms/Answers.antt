use Rattle.std.proofs.Common.{map, string_bytes, ap, ◌∙◌}
use Rattle.std.specs.Vec.Iter.{into_iter_items}
use Rattle.analysis.specs.Tokens.{tokens_of}
use Rattle.analysis.proofs.TermTokens.{each_text}
use Rattle.analysis.proofs.values.token_terms.Goals as goal

-- all tokens are left at first
pub loop-token-init : goal.loop-token-init
loop-token-init c =
    let rest = c.into_iter-token-iterator.ensures.into_iter_gives.0 in
    rw (c.new-terms.ensures.items) (each_text (into_iter_items c.into_iter-token-iterator.result) (tokens_of c.args.text.now) (ap (map string_bytes) rest ∙ c.in_ok-token-items.ensures))
