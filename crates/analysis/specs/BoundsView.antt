-- Bounds as they are kept.
use Rattle.std.specs.Prelude.{option_map}
use Rattle.doc.specs.ScalarView.{scalar_view}
use Rattle.analysis.specs.declared.bounds.Bounds.{Bounds}
use Rattle.analysis.specs.Bounds as spec

abbrev pub bounds_view : Bounds → spec.Bounds
bounds_view b = record { gt = option_map scalar_view b.gt; gte = option_map scalar_view b.gte; lt = option_map scalar_view b.lt; lte = option_map scalar_view b.lte }
