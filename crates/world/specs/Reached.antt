-- A world that events lead to.
use Rattle.std.specs.Prelude.{◌≡◌, ◌⊎◌, ℕ, ◌<◌, ◌≤◌, List}
use Rattle.doc.specs.Mapping.{MappingData}
use Rattle.world.specs.declared.event.Event.{Event}
use Rattle.world.specs.declared.fault.RunFault.{RunFault}
use Rattle.world.specs.declared.fault.RunFault.TheVariants.{BadCount, NoMemory}
use Rattle.world.specs.World.{World, world_of}

-- it is that of some copies after some events
pub record IsReached (w : World) : Type 0 where
  pub mapping : MappingData
  pub copies : ℕ
  pub events : List Event
  pub some : 1 ≤ copies
  pub is : w ≡ world_of mapping copies events

-- why a list of this many events isn't run: the number of copies isn't allowed, or memory ran out after `taken` events
abbrev pub IsRefusedRun : (copies events : ℕ) → RunFault → Type 0
IsRefusedRun copies events BadCount = (copies ≡ 0) ⊎ (5 < copies)
IsRefusedRun copies events (NoMemory taken) = (1 ≤ copies) × (copies ≤ 5) × (taken ≤ events)
