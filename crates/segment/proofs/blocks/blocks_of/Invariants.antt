use Rattle.std.proofs.Common.{◌≡◌, ◌++◌, All, map}
use Rattle.std.specs.Map.Iter.{deref_pair}
use Rattle.segment.specs.Blocks.{IsBlock, listed, numbers_of}
use Rattle.segment.proofs.blocks.blocks_of.Given as goal

-- the blocks and the one that is open have the numbers so far
abbrev pub invariant-loop-number : goal.invariant-loop-number
invariant-loop-number l = record {
  are : All (IsBlock l.len) l.closed.items;
  is : IsBlock l.len l.block;
  same : numbers_of l.closed.items ++ l.block.numbers.items ≡ listed (map deref_pair l.yielded);
}
