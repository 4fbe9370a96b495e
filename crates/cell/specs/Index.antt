-- The index of which copies are.
use Rattle.std.specs.Prelude.{ℕ, List}
use Rattle.doc.specs.Mapping.{MappingData}

-- its name, and the mapping that its documents are under
pub record IndexData : Type 0 where
  pub name : List ℕ
  pub mapping : MappingData
