-- The bounds of a range as they are handed on.
-- For proofs alone: no public contract rests on it.
use Rattle.std.specs.Prelude.{option_map}
use Rattle.serde_json.specs.View.{view}
use Rattle.query.specs.declared.leaves.WrittenBounds.{WrittenBounds}
use Rattle.query.specs.Leaves as spec

abbrev pub written_view : WrittenBounds → spec.WrittenBounds
written_view w = record { gt = option_map (λ v. view v.now) w.gt; gte = option_map (λ v. view v.now) w.gte; lt = option_map (λ v. view v.now) w.lt; lte = option_map (λ v. view v.now) w.lte }
