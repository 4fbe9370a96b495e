-- Worlds that events lead to.
use Rattle.std.proofs.Common.{◌≡◌, ℕ, ◌≤◌, List, [], ◌∷◌, ◌++◌, Result, Ok, Err, refl, sym, ap, subst, ◌∙◌}
use Rattle.std.specs.Prelude.{IfOk, OnErr, is_err, false}
use Rattle.doc.specs.Mapping.{MappingData}
use Rattle.world.specs.declared.event.Event.{Event}
use Rattle.world.specs.declared.event.EventAnswer.{EventAnswer}
use Rattle.world.specs.Held.{HasInSyncCopies, Held}
use Rattle.world.specs.Reached.{IsReached}
use Rattle.world.specs.World.{World, Happened, answering, new_world, world_after, world_of, world_step}
use Rattle.world.proofs.Holds.{always_held}
use Rattle.world.proofs.Primaries.{always_in_sync}

-- one event more
pub after_one : (w : World) (es : List Event) (e : Event) → world_after w (es ++ e ∷ []) ≡ (world_step (world_after w es) e).world
after_one w [] e = refl
after_one w (x ∷ es) e = after_one (world_step w x).world es e

pub reached_new : (w : World) (m : MappingData) (n : ℕ) → 1 ≤ n → w ≡ new_world m n → IsReached w
reached_new w m n some is = record { mapping = m; copies = n; events = []; some = some; is = is }

reached_step : (w new : World) (e : Event) (a : EventAnswer) → IsReached w → world_step w e ≡ answering new a → IsReached new
reached_step w new e a r happened = record {
  mapping = r.mapping;
  copies = r.copies;
  events = r.events ++ e ∷ [];
  some = r.some;
  is =
      sym (ap (λ (h : Happened). h.world) happened)
      ∙ ap (λ (x : World). (world_step x e).world) r.is
      ∙ sym (after_one (new_world r.mapping r.copies) r.events e);
}

pub reached_on : {E : Type 0} (r : Result EventAnswer E) (w new : World) (e : Event) → IsReached w → IfOk r (λ a. world_step w e ≡ answering new a) → OnErr r (new ≡ w) → IsReached new
reached_on (Ok a) w new e reached happened stays = reached_step w new e a reached happened
reached_on (Err x) w new e reached happened stays = subst (λ (y : World). IsReached y) (sym stays) reached

pub reached_held : (w : World) → IsReached w → Held w
reached_held w r = subst (λ (x : World). Held x) (sym r.is) (always_held r.mapping r.copies r.events r.some)

pub reached_in_sync : (w : World) → IsReached w → HasInSyncCopies w
reached_in_sync w r = subst (λ (x : World). HasInSyncCopies x) (sym r.is) (always_in_sync r.mapping r.copies r.events r.some)

-- a run goes on
pub run_on : {E : Type 0} (r : Result EventAnswer E) (m : MappingData) (n : ℕ) (es : List Event) (e : Event) (w new : World)
    → IfOk r (λ a. world_step w e ≡ answering new a) → is_err r ≡ false → w ≡ world_of m n es → new ≡ world_of m n (es ++ e ∷ [])
run_on (Ok a) m n es e w new happened taken is =
    sym (ap (λ (h : Happened). h.world) happened)
    ∙ ap (λ (x : World). (world_step x e).world) is
    ∙ sym (after_one (new_world m n) es e)
run_on (Err x) m n es e w new happened taken is = absurd cc
