-- What an index of several copies keeps of a write over a run of all its nodes. A run is a list of events of which the nodes' journals are made, where each
-- message that came was sent before. In it, copies are promoted, recover, restart and lose messages any number of times.
use Rattle.std.specs.Prelude.{◌≡◌, ℕ, List, Some, slice_get}
use mathlib.Core.List.{IsPrefix}
use Rattle.chronicle.specs.Registered.{PrefixData}
use Rattle.doc.specs.Id.{Id}
use Rattle.doc.specs.Mapping.{MappingData}
use Rattle.replica.specs.Copy.{Copy, operations}
use Rattle.world.specs.declared.event.Event.{Event}
use Rattle.world.specs.Held.{IsInSync}
use Rattle.world.specs.World.{World, world_of}
use Rattle.journal.specs.declared.journal.Deed.{Deed}
use Rattle.journal.specs.declared.journal.Journal.{Journal}
use Rattle.journal.specs.declared.journal.Journal.TheVariants.{OfCopy}
use Rattle.audit.specs.Audit.{IsMadeOf}
use Rattle.front.specs.declared.command.Write.{Write}
use Rattle.front.specs.declared.reply.Wrote.{Wrote}
use Rattle.front.specs.Command.{Command}
use Rattle.front.specs.Reply.{Reply}
use Rattle.group.specs.Group.{IsTold}
use Rattle.group.specs.Known.{KnownData}
use Rattle.promises.specs.Promises.{HasWrite, IsAcknowledged}

-- the journal of the copy is among these, and extends what the client knows of it
pub record IsKnownOf (js : List Journal) (known : PrefixData Deed) : Type 0 where
  pub opening : Copy
  pub deeds : List Deed
  pub journal : slice_get js known.number ≡ Some (OfCopy opening deeds)
  pub goes_on : IsPrefix known.entries deeds

-- each copy that is in sync has the write, or a newer one on its id; and the master's primary is in sync
pub record IsHeldIn (w : World) (id : Id) (seq : ℕ) : Type 0 where
  pub each : (c : Copy) → IsInSync w c → HasWrite id seq (operations c)
  pub primary : (c : Copy) × (c.id ≡ w.master.primary) × IsInSync w c

-- ---- the promise

-- if a client knows from a reply that a write is done, the index has the write at the end of each run in which a journal extends what the client knew from
-- that reply
abbrev pub WritesAreHeldInRuns : Type 0 → MappingData → Type 0
WritesAreHeldInRuns J m =
    (w : Write) (x : Wrote) (asked : Command) (reply : Reply) (before after : KnownData) (acked : PrefixData Deed) → IsAcknowledged w x asked reply → IsTold J m before asked reply after → after.heard ≡ Some acked
    → (mapping : MappingData) (n : ℕ) (js : List Journal) (es : List Event) → IsMadeOf mapping n js es → IsKnownOf js acked → IsHeldIn (world_of mapping n es) w.id x.seq
