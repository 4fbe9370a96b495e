use Rattle.std.proofs.Common.{◌∙◌, ℤ, ap, not, option_map, w64}
use Rattle.std.proofs.lemmas.Int.{to_z-of_z}
use Rattle.doc.specs.Scalar.{long}
use Rattle.analysis.specs.Terms.{is_less, meets}
use Rattle.segment.proofs.Blocked.{all_four, reached}
use Rattle.segment.proofs.limits.Limits.may_have.Goals as goal

pub returns : goal.returns
returns c = λ z low high is.
    let l = c.args.self in
    let first = to_z-of_z w64 c.args.first c.ranges.first in
    let last = to_z-of_z w64 c.args.last c.ranges.last in
    let p = reached l c.args.first c.args.last z low high is in
    all_four _ _ _ _
    (c.is_above.ensures ∙ ap (λ (y : ℤ). meets (option_map long l.above) (λ v. is_less v (long y))) last ∙ p.0)
    (c.is_from.ensures ∙ ap (λ (y : ℤ). meets (option_map long l.from) (λ v. not (is_less (long y) v))) last ∙ p.1)
    (c.is_below.ensures ∙ ap (λ (y : ℤ). meets (option_map long l.below) (λ v. is_less (long y) v)) first ∙ p.2)
    (c.is_to.ensures ∙ ap (λ (y : ℤ). meets (option_map long l.to) (λ v. not (is_less v (long y)))) first ∙ p.3)
