-- Bounds over numbers.
-- For proofs alone: no public contract rests on it.
use Rattle.std.specs.Prelude.{option_map}
use Rattle.doc.specs.Scalar.{long}
use Rattle.analysis.specs.Bounds.{Bounds}
use Rattle.segment.specs.declared.limits.Limits.{Limits}

-- the bounds as a query has them
abbrev pub limits_view : Limits → Bounds
limits_view l = record { gt = option_map long l.above; gte = option_map long l.from; lt = option_map long l.below; lte = option_map long l.to }
