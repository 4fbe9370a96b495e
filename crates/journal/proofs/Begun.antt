-- Each copy begins under the index's mapping.
use Rattle.std.proofs.Common.{◌≡◌, ℕ, true, false, [], if◌then◌else◌, refl}
use Rattle.std.specs.Prelude.{nat_le}
use Rattle.doc.specs.Mapping.{MappingData}
use Rattle.replica.specs.declared.role.Birth.TheVariants.{Added}
use Rattle.replica.specs.Copy.{begun, opened}
use Rattle.journal.specs.Opening.{born}

pub born_mapping : (mapping : MappingData) (n i : ℕ) → (born mapping n i).mapping ≡ mapping
born_mapping mapping n i = elim (nat_le i n) as (λ b. (if b then begun i n mapping else opened i Added mapping []).mapping ≡ mapping) [ true ↦ refl | false ↦ refl ]
