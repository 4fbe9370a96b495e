use Rattle.std.proofs.Common.{◌≡◌, take}
use Rattle.engine.proofs.read.part.copies_of.Given as goal

-- the parts so far
abbrev pub invariant-loop-part : goal.invariant-loop-part
invariant-loop-part l = l.copies.items ≡ take l.part-index l.parts
