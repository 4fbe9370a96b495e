use Rattle.std.proofs.Common.{◌≡◌, take}
use Rattle.world.specs.Held.{HasInSyncCopies, Held}
use Rattle.world.specs.World.{world_of}
use Rattle.world.proofs.world.run.Given as goal

-- the world so far is that after the events so far
abbrev pub invariant-loop-taken : goal.invariant-loop-taken
invariant-loop-taken l = (l.world.world ≡ world_of l.mapping l.copies (take l.taken l.events)) × Held l.world.world × HasInSyncCopies l.world.world
