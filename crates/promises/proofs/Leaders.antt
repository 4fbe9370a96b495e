-- What the primary of a term held stays in it, and what was acknowledged stays so, whatever happens later.
use Rattle.std.proofs.Common.{◌≡◌, ℕ, true, List, [], ◌∷◌, ◌++◌, Some, refl, sym, subst, ◌∙◌, arith}
use Rattle.std.specs.Prelude.{Contains}
use Rattle.std.proofs.lemmas.List.Elements.{Contains-append_left}
use Rattle.op.specs.declared.operation.Op.{Op}
use Rattle.op.specs.declared.message.Content.TheVariants.{Promoted, Removed}
use Rattle.op.specs.declared.message.Msg.{Msg}
use Rattle.op.specs.Operations.{op_at}
use Rattle.master.specs.Decide as master
use Rattle.history.specs.History.{History, at_end, primary, took}
use Rattle.history.specs.Grows.{Grows}
use Rattle.history.specs.Sound.{Traced}
use Rattle.history.proofs.Committing.{end_on, took_on}
use Rattle.history.proofs.Keeping as keeping
use Rattle.history.proofs.Promotions.{primary_old, primary_same}
use Rattle.history.proofs.Static.{within}
use Rattle.world.specs.declared.event.Event.{Event}
use Rattle.world.specs.Micro.{Micro, keep, change, send, confirm, promote, allocate, sync, fail, after, changes, keeps, promoted_state, record_kept, May}
use Rattle.world.specs.Past.{past, pushed, saying}
use Rattle.world.specs.World.{World, world_after, world_step}
use Rattle.world.proofs.Always.{Founded, founded}
use Rattle.world.proofs.Copies.{changes-birth, changes-id, changes-records, keeps-birth, keeps-id, keeps-records, past_given, past_push, past_same}
use Rattle.world.proofs.Decompose.{each}
use Rattle.world.proofs.Tracing.{follows, not_promoted, promoted_member}

module _ (i t k : ℕ) (o : Op) where
  -- copy i leads term t, and holds the operation at the number
  pub record Leader (w : World) : Type 0 where
    pub founded : Founded w
    pub taken : took (past w) i t ≡ true
    pub leads : primary (past w) t ≡ i
    pub there : op_at (at_end (past w) i t) k ≡ Some o

  -- a past that grew
  grown : (w x : World) (later : History) → Leader w → Grows (past w) later w.master.term → Founded x → past x ≡ later → Leader x
  grown w x later l g f is =
      let s : Traced (past w) w.master.term = l.founded.tracing.traced in
      record {
        founded = f;
        taken = subst (λ (v : History). took v i t ≡ true) (sym is) (took_on (past w) later w.master.term s g i t l.taken);
        leads = subst (λ (v : History). primary v t ≡ i) (sym is) (g.primary t (within (past w) w.master.term s i t l.taken) ∙ l.leads);
        there = subst (λ (v : History). op_at (at_end v i t) k ≡ Some o) (sym is) (end_on (past w) later w.master.term s g i t l.taken k o l.there);
      }

  -- the same past
  unchanged : (w x : World) → Leader w → Founded x → past x ≡ past w → Leader x
  unchanged w x l f is = record {
    founded = f;
    taken = subst (λ (v : History). took v i t ≡ true) (sym is) l.taken;
    leads = subst (λ (v : History). primary v t ≡ i) (sym is) l.leads;
    there = subst (λ (v : History). op_at (at_end v i t) k ≡ Some o) (sym is) l.there;
  }

  -- a past with one more message, which leaves the term its primary
  said : (w x : World) (m : Msg) → Leader w → Founded x → past x ≡ saying (past w) m → primary (saying (past w) m) t ≡ primary (past w) t → Leader x
  said w x m l f is same = record {
    founded = f;
    taken = subst (λ (v : History). took v i t ≡ true) (sym is) l.taken;
    leads = subst (λ (v : History). primary v t ≡ i) (sym is) (same ∙ l.leads);
    there = subst (λ (v : History). op_at (at_end v i t) k ≡ Some o) (sym is) l.there;
  }

  leader_on : (w : World) (m : Micro) → May w m → Leader w → Leader (after w m)
  leader_on w (keep c x) may l =
      grown w (after w (keep c x)) (pushed (past w) c.id (record_kept c x)) l
      (keeping.grows (past w) w.master.term c.id (record_kept c x) (follows w l.founded.grounded l.founded.tracing c may.0 x may.1))
      (founded w (keep c x) may l.founded) (past_push w c (keeps c x) may.0 (keeps-id c x) (record_kept c x) (keeps-birth c x) (keeps-records c x))
  leader_on w (change c x) may l = unchanged w (after w (change c x)) l (founded w (change c x) may l.founded) (past_same w c (changes c x) may.0 (changes-id c x) (changes-birth c x) (changes-records c x))
  leader_on w (send m) may l =
      said w (after w (send m)) m l (founded w (send m) may l.founded) refl (primary_same (past w) m (not_promoted w l.founded.grounded l.founded.tracing m m.content may) t)
  leader_on w (confirm c lead p) may l = unchanged w (after w (confirm c lead p)) l (founded w (confirm c lead p) may l.founded) refl
  leader_on w (promote c) may l =
      let state = promoted_state w.master c in
      let s : Traced (past w) w.master.term = l.founded.tracing.traced in
      said w (after w (promote c)) (master.message state c (Promoted state.in_sync)) l (founded w (promote c) may l.founded) refl
      (primary_old (past w) w.master.term s 0 c state.in_sync (promoted_member w l.founded.grounded l.founded.tracing c may.1) t (within (past w) w.master.term s i t l.taken))
  leader_on w allocate may l = unchanged w (after w allocate) l (founded w allocate may l.founded) (past_given w l.founded.grounded.numbered)
  leader_on w (sync r) may l = unchanged w (after w (sync r)) l (founded w (sync r) may l.founded) refl
  leader_on w (fail r) may l = said w (after w (fail r)) (master.message w.master w.master.primary (Removed r)) l (founded w (fail r) may l.founded) refl (primary_same (past w) _ refl t)

  pub leader_after : (es : List Event) (w : World) → Leader w → Leader (world_after w es)
  leader_after [] w l = l
  leader_after (e ∷ es) w l = leader_after es (world_step w e).world (each Leader leader_on w e l)

-- ---- what is acknowledged

module _ (o : Op) where
  abbrev IsIn : World → Type 0
  IsIn w = Contains w.acknowledged o

  stays : (w : World) (m : Micro) → May w m → IsIn w → IsIn (after w m)
  stays w (keep c x) may is = is
  stays w (change c x) may is = is
  stays w (send m) may is = is
  stays w (confirm c lead p) may is = Contains-append_left w.acknowledged (p ∷ []) o is
  stays w (promote c) may is = is
  stays w allocate may is = is
  stays w (sync r) may is = is
  stays w (fail r) may is = is

  pub acknowledged_after : (es : List Event) (w : World) → Contains w.acknowledged o → Contains (world_after w es).acknowledged o
  acknowledged_after [] w is = is
  acknowledged_after (e ∷ es) w is = acknowledged_after es (world_step w e).world (each IsIn stays w e is)
