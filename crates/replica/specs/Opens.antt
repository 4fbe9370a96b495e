-- Ways to open engines.
-- For proofs alone: no public contract rests on it.
use Rattle.std.specs.Prelude.{◌≡◌, All, Result, Vec, IfOk}
use Rattle.std.specs.declared.alloc.Global.{Global}
use Rattle.std.specs.declared.alloc.AllocError.{AllocError}
use denote.Param.Members.{Shared}
use Rattle.doc.specs.declared.mapping.Mapping.{Mapping}
use Rattle.op.specs.declared.record.Record.{Record}
use Rattle.op.specs.Records.{IsRecord}
use Rattle.engine.specs.Contents.{opened_engine}
use Rattle.engine.specs.declared.engine.Engine.{Engine}

-- f opens the engine of records, whose documents are read under the mapping
pub record Opens {F : Type 0} (g : Shared F (Global × (Mapping × (Vec Record Global × Unit {0}))) (Result Engine AllocError)) (f : F) : Type 0 where
  pub accepts : (alloc : Global) (mapping : Mapping) (records : Vec Record Global) → All IsRecord records.items → g.pre f (alloc, (mapping, (records, tt)))
  pub gives : (alloc : Global) (mapping : Mapping) (records : Vec Record Global) (r : Result Engine AllocError) → g.post f (alloc, (mapping, (records, tt))) r → IfOk r (λ e. e ≡ opened_engine mapping records.items)
