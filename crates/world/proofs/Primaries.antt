-- The copies in sync are there, over every list of events, and so the primary's copy holds what is acknowledged.
use Rattle.std.proofs.Common.{◌≡◌, ℕ, ◌≤◌, true, List, Option, Some, None, refl, ap, ◌∙◌}
use Rattle.std.specs.Prelude.{is_some}
use Rattle.doc.specs.Mapping.{MappingData}
use Rattle.op.specs.Ids.{has}
use Rattle.replica.specs.Copy.{Copy}
use Rattle.world.specs.declared.event.Event.{Event}
use Rattle.world.specs.World.{World, copy_in, world_of}
use Rattle.world.specs.Held.{IsThere, HasInSyncCopies, Held, HeldByPrimary}
use Rattle.world.proofs.Lists.{copy_in-id}
use Rattle.world.proofs.InSync.{Staffed}
use Rattle.world.proofs.Always.{always_founded}
use Rattle.world.proofs.Holds.{always_held}

in_sync_here : (w : World) → Staffed w → HasInSyncCopies w
in_sync_here w s = record { primary = s.primary; there = λ id is. found id (copy_in w.copies id) refl (s.there id is) }
  where
    found : (id : ℕ) (o : Option Copy) → copy_in w.copies id ≡ o → is_some o ≡ true → (c : Copy) × (c.id ≡ id) × IsThere w c
    found id None e is = absurd cc
    found id (Some c) e is = let same : c.id ≡ id = copy_in-id w.copies id c e in (c, same, ap (copy_in w.copies) same ∙ e)

primary_holds : (w : World) → HasInSyncCopies w → Held w → HeldByPrimary w
primary_holds w s h =
    let p = s.there w.master.primary s.primary in
    let member : has w.master.in_sync p.0.id ≡ true = ap (has w.master.in_sync) p.1 ∙ s.primary in
    record { copy = p.0; primary = p.1; in_sync = (member, p.2); acknowledged = λ o is. h.acknowledged o p.0 is (member, p.2) }

pub always_in_sync : (mapping : MappingData) (n : ℕ) (es : List Event) → 1 ≤ n → HasInSyncCopies (world_of mapping n es)
always_in_sync mapping n es some = in_sync_here (world_of mapping n es) (always_founded mapping n es some).staffed

pub always_by_primary : (mapping : MappingData) (n : ℕ) (es : List Event) → 1 ≤ n → HeldByPrimary (world_of mapping n es)
always_by_primary mapping n es some = primary_holds (world_of mapping n es) (always_in_sync mapping n es some) (always_held mapping n es some)
