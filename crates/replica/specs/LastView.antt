-- The last operation on an id, as the engine answers it.
-- For proofs alone: no public contract rests on it.
use Rattle.std.specs.Prelude.{ℕ, suc, Bool, true, false, not, ◌&&◌, ◌==◌, Option, Some, None}
use Rattle.engine.specs.declared.engine.Last.{Last}
use Rattle.replica.specs.declared.input.Condition.{Condition}
use Rattle.replica.specs.declared.input.OpType.{OpType}
use Rattle.replica.specs.declared.input.OpType.TheVariants.{Index, Create, Delete}

-- the version after it
abbrev pub version_of : Option Last → ℕ
version_of None = 1
version_of (Some last) = suc last.version

-- whether it left a document
abbrev pub is_live : Option Last → Bool
is_live None = false
is_live (Some last) = last.live

-- whether it left a document, and has the numbers of a condition
abbrev pub is_met_by : Option Last → Option Condition → Bool
is_met_by last None = true
is_met_by None (Some condition) = false
is_met_by (Some last) (Some condition) = last.live && ((last.seq == condition.seq) && (last.term == condition.term))

-- whether it allows a write
abbrev pub is_allowed_by : Option Last → OpType → Bool
is_allowed_by last (Index source condition) = is_met_by last condition
is_allowed_by last (Create source) = not (is_live last)
is_allowed_by last (Delete condition) = is_met_by last condition
