-- Ways to build segments.
use Rattle.std.specs.Prelude.{◌≡◌, ◌<◌, ◌^◌, length, Result, Vec, IfOk}
use Rattle.std.specs.declared.sync.Arc.{Arc}
use Rattle.std.specs.declared.alloc.Global.{Global}
use Rattle.std.specs.Arc.{arc_value}
use Rattle.std.specs.declared.alloc.AllocError.{AllocError}
use denote.Ref.{Bor}
use denote.Param.Members.{Shared}
use Rattle.doc.specs.declared.mapping.Mapping.{Mapping}
use Rattle.doc.specs.declared.source.Source.{Source}
use Rattle.segment.specs.declared.segment.Segment.{Segment}

-- f builds the segment of documents that have these texts, read under the mapping
pub record Builds {F : Type 0} (g : Shared F (Global × (Bor (Arc Mapping Global) × (Vec Source Global × Unit {0}))) (Result Segment AllocError)) (f : F) : Type 0 where
  pub accepts : (alloc : Global) (mapping : Bor (Arc Mapping Global)) (sources : Vec Source Global) → length sources.items < 2 ^ 32 → g.pre f (alloc, (mapping, (sources, tt)))
  pub gives : (alloc : Global) (mapping : Bor (Arc Mapping Global)) (sources : Vec Source Global) (r : Result Segment AllocError) → g.post f (alloc, (mapping, (sources, tt))) r → IfOk r (λ s. s ≡ record { mapping = arc_value mapping.now; sources = sources.items })
