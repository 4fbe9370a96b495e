-- What a copy is when its journal begins.
use Rattle.std.specs.Prelude.{ℕ, nat_le, if◌then◌else◌, []}
use Rattle.doc.specs.Mapping.{MappingData}
use Rattle.replica.specs.declared.role.Birth.TheVariants.{Added}
use Rattle.replica.specs.Copy.{Copy, begun, opened}
use Rattle.journal.specs.declared.opening.Beginning.{Beginning}
use Rattle.journal.specs.declared.opening.Beginning.TheVariants.{New, Kept}

-- as one of n copies of a new index, or with records
abbrev pub begins : Beginning → Copy
begins (New id copies mapping) = begun id copies mapping
begins (Kept id birth mapping records) = opened id birth mapping records.items

-- copy i as it begins: with the index, or later
abbrev pub born : MappingData → ℕ → ℕ → Copy
born mapping n i = if nat_le i n then begun i n mapping else opened i Added mapping []
