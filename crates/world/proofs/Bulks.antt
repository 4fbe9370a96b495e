-- The world after a bulk is the world after its writes, one after another.
use Rattle.std.proofs.Common.{◌≡◌, ℕ, List, [], ◌∷◌, Option, Some, None, Ok, Err, IfOk, refl, sym, ap, ◌∙◌}
use Rattle.std.specs.Prelude.{map}
use Rattle.replica.specs.declared.input.Input.{Input}
use Rattle.replica.specs.declared.input.Input.TheVariants.{Write as Client, Bulk as ClientBulk}
use Rattle.replica.specs.declared.input.Write.{Write}
use Rattle.replica.specs.declared.role.Role.{Role}
use Rattle.replica.specs.declared.role.Role.TheVariants.{Empty, Replica, Primary}
use Rattle.replica.specs.Copy.{Copy}
use Rattle.replica.specs.Step.{Step, Stepped, Folded, unwritten, with_write, write_step, folded, bulk, copy_step, client, settled, settled_as}
use Rattle.world.specs.declared.event.Event.TheVariants.{Write as Writes, Bulk}
use Rattle.world.specs.World.{World, copy_in, at_copy, after_step, world_step, world_after}
use Rattle.world.proofs.Lists.{copy_in-id, copy_in-with}
use Rattle.world.proofs.Decompose.{folded_in, one_more, none_yet, on_unless}

-- a write leaves the copy its id
same_id : (c : Copy) (v : Write) → IfOk (write_step c v) (λ s. s.copy.id ≡ c.id)
same_id c v = on_role c.role
  where
    after_role : (s : Stepped) (role : Role) → s.copy.id ≡ c.id → (settled_as s role).copy.id ≡ c.id
    after_role s Empty e = e
    after_role s Replica e = e
    after_role s (Primary lead) e = e

    after_settling : (r : Step) → IfOk r (λ s. s.copy.id ≡ c.id) → IfOk (settled r) (λ s. s.copy.id ≡ c.id)
    after_settling (Ok s) e = after_role s s.copy.role e
    after_settling (Err f) e = tt

    on_role : (role : Role) → IfOk (settled (client c v role)) (λ s. s.copy.id ≡ c.id)
    on_role Empty = tt
    on_role Replica = tt
    on_role (Primary lead) = after_settling _ (on_unless (λ s. s.copy.id ≡ c.id) _ _ (λ none. refl))

-- the step of a copy that is there
at_there : (w : World) (o : Option Copy) (c : Copy) (input : Input) → o ≡ Some c → (at_copy w o input).world ≡ (after_step w (copy_step c input)).world
at_there w o c input e = ap (λ (x : Option Copy). (at_copy w x input).world) e

-- writes that leave the world
module _ (w : World) (id : ℕ) (same : (v : Write) → (world_step w (Writes id v)).world ≡ w) where
  none_written : (vs : List Write) → w ≡ world_after w (map (Writes id) vs)
  none_written [] = refl
  none_written (v ∷ vs) = none_written vs ∙ ap (λ (x : World). world_after x (map (Writes id) vs)) (sym (same v))

-- those of a primary
written : (w : World) (id : ℕ) (c : Copy) (vs : List Write) (b : Folded) → copy_in w.copies id ≡ Some c → b.copy.id ≡ id → folded_in w (folded b vs) ≡ world_after (folded_in w b) (map (Writes id) vs)
written w id c [] b there same = refl
written w id c (v ∷ vs) b there same = on_item (write_step b.copy v) refl (same_id b.copy v) (λ d e. written w id c vs d there e)
  where
    at : copy_in (folded_in w b).copies id ≡ Some b.copy
    at = ap (λ (r : ℕ). copy_in (folded_in w b).copies r) (sym same) ∙ copy_in-with w.copies b.copy c (ap (λ (r : ℕ). copy_in w.copies r) same ∙ there)

    one : (world_step (folded_in w b) (Writes id v)).world ≡ (after_step (folded_in w b) (write_step b.copy v)).world
    one = at_there (folded_in w b) (copy_in (folded_in w b).copies id) b.copy (Client v) at

    on_item : (r : Step) → write_step b.copy v ≡ r → IfOk r (λ s. s.copy.id ≡ b.copy.id)
        → ((d : Folded) → d.copy.id ≡ id → folded_in w (folded d vs) ≡ world_after (folded_in w d) (map (Writes id) vs))
        → folded_in w (folded (with_write b r) vs) ≡ world_after (world_step (folded_in w b) (Writes id v)).world (map (Writes id) vs)
    on_item (Ok s) is keeps rest =
        rest (with_write b (Ok s)) (keeps ∙ same)
        ∙ ap (λ (x : World). world_after x (map (Writes id) vs)) (sym (one_more w b s (sym keeps)) ∙ sym (one ∙ ap (λ (y : Step). (after_step (folded_in w b) y).world) is))
    on_item (Err e) is keeps rest =
        rest (with_write b (Err e)) same
        ∙ ap (λ (x : World). world_after x (map (Writes id) vs)) (sym (one ∙ ap (λ (y : Step). (after_step (folded_in w b) y).world) is))

-- a role other than the primary's refuses the bulk and each of its writes
module _ (w : World) (id : ℕ) (c : Copy) (vs : List Write) (there : copy_in w.copies id ≡ Some c) where
  by_role : (role : Role) → c.role ≡ role → (after_step w (bulk c vs role)).world ≡ world_after w (map (Writes id) vs)
  by_role Empty is = none_written w id (λ v. at_there w _ c (Client v) there ∙ ap (λ (r : Role). (after_step w (settled (client c v r))).world) is) vs
  by_role Replica is = none_written w id (λ v. at_there w _ c (Client v) there ∙ ap (λ (r : Role). (after_step w (settled (client c v r))).world) is) vs
  by_role (Primary lead) is =
      let named : c.id ≡ id = copy_in-id w.copies id c there in
      let own : copy_in w.copies c.id ≡ Some c = ap (λ (r : ℕ). copy_in w.copies r) named ∙ there in
      written w id c vs (unwritten c) there named ∙ ap (λ (x : World). world_after x (map (Writes id) vs)) (none_yet w c own)

by_copy : (w : World) (id : ℕ) (o : Option Copy) (vs : List Write) → copy_in w.copies id ≡ o → (at_copy w o (ClientBulk vs)).world ≡ world_after w (map (Writes id) vs)
by_copy w id None vs there = none_written w id (λ v. ap (λ (o : Option Copy). (at_copy w o (Client v)).world) there) vs
by_copy w id (Some c) vs there = by_role w id c vs there c.role refl

pub bulk_is_writes : (w : World) (id : ℕ) (vs : List Write) → (world_step w (Bulk id vs)).world ≡ world_after w (map (Writes id) vs)
bulk_is_writes w id vs = by_copy w id (copy_in w.copies id) vs refl
