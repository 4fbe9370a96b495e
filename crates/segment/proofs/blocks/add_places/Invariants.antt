use Rattle.std.proofs.Common.{◌≡◌, ◌++◌, take}
use Rattle.segment.specs.Blocks.{numbered}
use Rattle.segment.proofs.blocks.add_places.Given as goal

-- the number with the places so far
abbrev pub invariant-loop-place : goal.invariant-loop-place
invariant-loop-place l = l.numbers.items ≡ l.initial.numbers.items ++ numbered l.value (take l.place-index l.places)
