-- Operations that are found by number and by id.
use Rattle.std.specs.Prelude.{◌≡◌, ℕ, List, [], ◌∷◌, Option, None, Some, max, option_map, if◌then◌else◌}
use Rattle.std.specs.HashMap.{HashMap, get_by}
use Rattle.doc.specs.Id.{Id, is_id}
use Rattle.op.specs.declared.operation.Op.{Op}
use Rattle.op.specs.declared.record.Record.{Record}
use Rattle.op.specs.declared.record.Record.TheVariants.{Op as Kept, Resync, Recover}
use Rattle.op.specs.Operations.{IsAscending, last_on, local_count}
use Rattle.engine.specs.declared.ids.id_key.IdKey.{IdKey}

-- what is kept in addition to operations in order: at each id the number of the last on it, and how many are there from number 0 up without a gap
pub record IsIndexed (os : List Op) (latest : Id → Option ℕ) (local : ℕ) : Type 0 where
  pub ascending : IsAscending os
  pub last : (id : Id) → latest id ≡ option_map (λ o. o.seq) (last_on os id)
  pub reached : local ≡ local_count os

-- the operations that stand alone in records
abbrev pub operations_in : List Record → List Op
operations_in [] = []
operations_in (Kept g o ∷ rs) = o ∷ operations_in rs
operations_in (Resync term g tail ∷ rs) = operations_in rs
operations_in (Recover term all ∷ rs) = operations_in rs

-- the number at an id
abbrev pub number_at : {S : Type 0} → HashMap IdKey ℕ S → Id → Option ℕ
number_at latest id = get_by (λ k. is_id id k.0) latest

-- what is at an id where n was, after m is noted there: the greater of the two
abbrev pub raised : ℕ → Option ℕ → Option ℕ
raised m None = Some m
raised m (Some n) = Some (max m n)

-- the number at an id where n was, after each of these is noted at its own in turn
abbrev pub noted : List (Id × ℕ) → Id → Option ℕ → Option ℕ
noted [] id n = n
noted (p ∷ ps) id n = noted ps id (if is_id id p.0 then Some p.1 else n)
