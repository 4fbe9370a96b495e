use Rattle.std.proofs.Common.{◌≡◌, filter, take}
use Rattle.engine.specs.Parts.{is_living}
use Rattle.engine.proofs.read.part_list.living_parts.Given as goal

-- those of the parts so far
abbrev pub invariant-loop-part : goal.invariant-loop-part
invariant-loop-part l = l.left.items ≡ filter is_living (take l.part-index l.parts)
