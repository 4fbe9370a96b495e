-- The writes of a bulk.
use Rattle.std.specs.Prelude.{◌<◌, ◌≤◌, List, length}
use Rattle.replica.specs.declared.input.Write.{Write}

-- a bulk has 1 to 1,024 writes
pub record AreOfOneBulk (ws : List Write) : Type 0 where
  pub some : 0 < length ws
  pub few : length ws ≤ 1024
