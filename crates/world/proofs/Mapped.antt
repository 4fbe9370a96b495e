-- Each copy has the mapping of its world, which stays.
use Rattle.std.proofs.Common.{◌≡◌, ℕ, ◌≤◌, List, Some, refl, sym, subst, ◌∙◌}
use Rattle.doc.specs.Mapping.{MappingData}
use Rattle.replica.specs.Copy.{Copy}
use Rattle.world.specs.declared.event.Event.{Event}
use Rattle.world.specs.Reached.{IsReached}
use Rattle.world.specs.World.{World, copy_in, putting, world_of}
use Rattle.world.specs.Micro.{Micro, keep, change, send, confirm, promote, allocate, sync, fail, Keep, Turn, writes, takes, promotes, resyncs, recovers, counts, joins, leaves, settles, restarts, shows, keeps, changes, after, May}
use Rattle.world.specs.Clauses.{EachCopy}
use Rattle.world.proofs.Copies.{Grounded, grounded, keeps-id, changes-id, each_put, each_given}
use Rattle.world.proofs.Beginnings.{at_begun, begun_grounded}
use Rattle.world.proofs.Decompose.{always}

record Mapped (m : MappingData) (w : World) : Type 0 where
  grounded : Grounded w
  world : w.mapping ≡ m
  copies : EachCopy (λ c. c.mapping ≡ m) w

keeps-mapping : (c : Copy) (k : Keep) → (keeps c k).mapping ≡ c.mapping
keeps-mapping c (writes lead o) = refl
keeps-mapping c (takes g o) = refl
keeps-mapping c (promotes t set) = refl
keeps-mapping c (resyncs t g tail) = refl
keeps-mapping c (recovers t all) = refl

changes-mapping : (c : Copy) (k : Turn) → (changes c k).mapping ≡ c.mapping
changes-mapping c (counts lead r s l) = refl
changes-mapping c (joins lead r) = refl
changes-mapping c (leaves lead r) = refl
changes-mapping c (settles lead) = refl
changes-mapping c restarts = refl
changes-mapping c (shows n) = refl

mapped_put : (m : MappingData) (w : World) (c d : Copy) → copy_in w.copies c.id ≡ Some c → d.id ≡ c.id → d.mapping ≡ c.mapping → Mapped m w → EachCopy (λ x. x.mapping ≡ m) (putting w d)
mapped_put m w c d there id same h = each_put w c d there id (λ x. x.mapping ≡ m) h.copies (same ∙ h.copies c.id c there)

mapped : (m : MappingData) (w : World) (x : Micro) → May w x → Mapped m w → Mapped m (after w x)
mapped m w (keep c k) may h = record { grounded = grounded w (keep c k) may h.grounded; world = h.world; copies = mapped_put m w c (keeps c k) may.0 (keeps-id c k) (keeps-mapping c k) h }
mapped m w (change c k) may h = record { grounded = grounded w (change c k) may h.grounded; world = h.world; copies = mapped_put m w c (changes c k) may.0 (changes-id c k) (changes-mapping c k) h }
mapped m w (send x) may h = record { grounded = grounded w (send x) may h.grounded; world = h.world; copies = h.copies }
mapped m w (confirm c lead o) may h = record { grounded = grounded w (confirm c lead o) may h.grounded; world = h.world; copies = h.copies }
mapped m w (promote c) may h = record { grounded = grounded w (promote c) may h.grounded; world = h.world; copies = h.copies }
mapped m w allocate may h = record { grounded = grounded w allocate may h.grounded; world = h.world; copies = each_given w h.grounded.numbered (λ x. x.mapping ≡ m) h.copies h.world }
mapped m w (sync r) may h = record { grounded = grounded w (sync r) may h.grounded; world = h.world; copies = h.copies }
mapped m w (fail r) may h = record { grounded = grounded w (fail r) may h.grounded; world = h.world; copies = h.copies }

always_mapped : (m : MappingData) (n : ℕ) (es : List Event) → 1 ≤ n → Mapped m (world_of m n es)
always_mapped m n es some = always (Mapped m) (mapped m) m n es (record {
  grounded = begun_grounded m n some;
  world = refl;
  copies = at_begun m n some (λ c. c.mapping ≡ m) (λ id from to. refl);
})

-- the mapping of a world that these events lead to
pub mapping_of : (m : MappingData) (n : ℕ) (es : List Event) → 1 ≤ n → (world_of m n es).mapping ≡ m
mapping_of m n es some = (always_mapped m n es some).world

pub reached_mapped : (w : World) → IsReached w → EachCopy (λ c. c.mapping ≡ w.mapping) w
reached_mapped w r = let h : Mapped r.mapping w = subst (Mapped r.mapping) (sym r.is) (always_mapped r.mapping r.copies r.events r.some) in λ id c there. h.copies id c there ∙ sym h.world
