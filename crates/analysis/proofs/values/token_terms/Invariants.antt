use Rattle.std.proofs.Common.{◌≡◌, ◌++◌, map, string_bytes}
use Rattle.std.specs.Vec.Iter.{into_iter_items}
use Rattle.analysis.specs.Tokens.{tokens_of}
use Rattle.doc.specs.Scalar.{text}
use Rattle.doc.specs.ScalarView.{scalars_view}
use Rattle.analysis.proofs.values.token_terms.Given as goal

-- the terms so far, and the tokens that are left
abbrev pub invariant-loop-token : goal.invariant-loop-token
invariant-loop-token l = scalars_view l.terms.items ++ map (λ t. text (string_bytes t)) (into_iter_items l.token-iterator) ≡ map text (tokens_of l.text)
