-- How a copy stands, in numbers.
use Rattle.std.specs.Prelude.{◌≡◌, not, Bool, true, false}
use Rattle.op.specs.Operations.{local_count, next_seq}
use Rattle.replica.specs.declared.role.Role.{Role}
use Rattle.replica.specs.declared.role.Role.TheVariants.{Empty, Replica, Primary}
use Rattle.replica.specs.declared.status.CopyStatus.{CopyStatus}
use Rattle.replica.specs.Copy.{operations}
use Rattle.replica.specs.Logged.{Logged}

abbrev pub is_primary : Role → Bool
is_primary Empty = false
is_primary Replica = false
is_primary (Primary lead) = true

-- what a copy says of itself is so
pub record IsStatusOf (c : Logged) (s : CopyStatus) : Type 0 where
  pub copy : s.copy ≡ c.copy.id
  pub term : s.term ≡ c.copy.term
  pub leads : s.is_primary ≡ is_primary c.copy.role
  pub opened : s.is_open ≡ not c.closed
  pub next : s.next ≡ next_seq (operations c.copy)
  pub local : s.local ≡ local_count (operations c.copy)
  pub known : s.known ≡ c.copy.known
  pub point : s.point ≡ c.copy.point
