-- What is asked of the terms of a field, as it is handed on.
-- For proofs alone: no public contract rests on it.
use Rattle.std.specs.Prelude.{Bool}
use Rattle.doc.specs.Scalar.{Scalar, is_scalar}
use Rattle.doc.specs.ScalarView.{scalar_view, scalars_view}
use Rattle.query.specs.declared.asked.Asked.{Asked}
use Rattle.query.specs.declared.asked.Asked.TheVariants.{Is, IsOneOf, BeginsWith, IsWithin}
use Rattle.analysis.specs.Terms.{is_one_of, begins_with, is_within}
use Rattle.analysis.specs.BoundsView.{bounds_view}

-- whether a term is what is asked for
abbrev pub passes : Asked → Scalar → Bool
passes (Is v) t = is_scalar (scalar_view v.now) t
passes (IsOneOf vs) t = is_one_of (scalars_view vs.now) t
passes (BeginsWith p) t = begins_with p.now t
passes (IsWithin b) t = is_within (bounds_view b.now) t
