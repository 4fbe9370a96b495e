-- How many writes the commands of a bulk have.
use Rattle.std.proofs.Common.{ℕ, zero, suc, ◌+◌, ◌*◌, ◌<◌, List, length, drop, map, arith, length-drop}
use Rattle.std.proofs.lemmas.List.{length-take}
use Rattle.std.specs.Simd.{first_chunks}
use Rattle.std.specs.Slice.Iter.{chunk_count}
use Rattle.doc.specs.Mapping.{MappingData}
use Rattle.front.specs.declared.command.Write.{Write}
use Rattle.front.specs.Bulk.{AreFull, writes_of, write_commands}
use Rattle.front.specs.Command.{bulk}
use Rattle.front.specs.Item.{Item}

full : (k : ℕ) (ws : List Write) → k * 1024 < length ws + 1024 → AreFull (map (λ ws. bulk ws) (first_chunks 1024 k ws))
full zero ws h = tt
full (suc zero) ws h = (omega (arith, h, length-take 1024 ws), omega (arith, length-take 1024 ws))
full (suc (suc k)) ws h = (omega (arith, h, length-take 1024 ws), full (suc k) (drop 1024 ws) (omega (arith, h, length-drop 1024 ws)))

few : (n : ℕ) → chunk_count n 1024 * 1024 < n + 1024
few n = omega arith

pub are_full : (served : List ℕ) (mapping : MappingData) (items : List Item) → AreFull (write_commands served mapping items)
are_full served mapping items = full (chunk_count (length (writes_of served mapping items)) 1024) (writes_of served mapping items) (few (length (writes_of served mapping items)))
