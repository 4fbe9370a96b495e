use Rattle.std.proofs.Common.{◌≡◌, drop}
use Rattle.world.specs.Nodes.{copies_of}
use Rattle.world.specs.World.{place_in}
use Rattle.world.proofs.Places.{onward}
use Rattle.world.proofs.nodes.copies.place_of.Given as goal

-- what is left decides
abbrev pub invariant-loop-place : goal.invariant-loop-place
invariant-loop-place l = onward l.place (place_in (copies_of (drop l.place l.copies)) l.id) ≡ place_in (copies_of l.copies) l.id
