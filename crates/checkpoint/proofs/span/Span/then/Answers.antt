use Rattle.std.proofs.Common.{◌≡◌, ◌++◌, ◌∷◌, [], ◌∙◌, true, ap, arith}
use Rattle.checkpoint.proofs.Spans.{span-then}
use Rattle.checkpoint.proofs.span.Span.then.Goals as goal

pub returns-clause-grown : goal.returns-clause-grown
returns-clause-grown c =
    let first = c.base-first.result in
    let ends : c.ends_before.result ≡ true = c.if-not-ends_before.false in
    span-then c.self.inside.words c.set.new.words first c.args.number (omega (arith, c.if-block-first.false)) (omega (arith, c.if-block-first.false, c.if-block-first-ge-BLOCKS.false)) (c.ends_before.ensures.below ends) c.set.ensures
    ∙ ap (λ ns. ns ++ c.args.number ∷ []) (c.base-first.ensures.same ∙ c.self.view_is)
