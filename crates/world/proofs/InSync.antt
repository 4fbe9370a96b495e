-- The in-sync set: the primary is in it, and its ids are those of copies that are there.
use Rattle.std.proofs.Common.{◌≡◌, ℕ, Bool, true, false, Option, Some, None, refl, sym, subst, ◌∙◌, inl, inr, arith}
use Rattle.std.specs.Prelude.{◌==◌, ◌&&◌, ◌||◌, not, nat_lt, is_some}
use Rattle.std.proofs.lemmas.Bool.Decides.{nat_tests}
use Rattle.op.specs.Ids.{has}
use Rattle.replica.specs.Copy.{Copy}
use Rattle.history.specs.History.{took, story_of}
use Rattle.history.specs.Story.{is_taken}
use Rattle.history.proofs.Promotions.{or_cases}
use Rattle.world.specs.World.{World, copy_in, putting}
use Rattle.world.specs.Micro.{Micro, keep, change, send, confirm, promote, allocate, sync, fail, keeps, changes, after, May}
use Rattle.world.specs.Past.{past, first_of, records_of}
use Rattle.world.specs.Clauses.{Tracing}
use Rattle.world.proofs.Lists.{has-with, has-without}
use Rattle.world.proofs.Copies.{Grounded, keeps-id, changes-id, at_id, given_at}
use Rattle.world.proofs.Tracing.{promoted_member}
use Rattle.world.proofs.Masters.{promoted_within, said}

pub record Staffed (w : World) : Type 0 where
  pub primary : has w.master.in_sync w.master.primary ≡ true
  pub there : (id : ℕ) → has w.master.in_sync id ≡ true → is_some (copy_in w.copies id) ≡ true

-- who has taken a term is there
took_there : (w : World) (r t : ℕ) → took (past w) r t ≡ true → is_some (copy_in w.copies r) ≡ true
took_there w r t = of_copy (copy_in w.copies r)
  where
    of_copy : (o : Option Copy) → is_taken t (story_of (first_of o) (records_of o)) ≡ true → is_some o ≡ true
    of_copy None h = none_taken (nat_lt 0 t) h
      where
        none_taken : (b : Bool) → (b && false) ≡ true → false ≡ true
        none_taken true e = e
        none_taken false e = e
    of_copy (Some c) h = refl

-- a copy in its place
there_put : (w : World) (c d : Copy) → copy_in w.copies c.id ≡ Some c → d.id ≡ c.id → Staffed w → Staffed (putting w d)
there_put w c d own same s = record {
  primary = s.primary;
  there = λ id is. at_id w c d own same (λ (o p : Option Copy). is_some o ≡ true → is_some p ≡ true) id (λ at e h. refl) (λ at h. h) (s.there id is);
}

or_true : (a : Bool) → (a || true) ≡ true
or_true true = refl
or_true false = refl

second : (a b : Bool) → (a && b) ≡ true → b ≡ true
second true b e = e
second false b e = absurd cc

pub staffed : (w : World) (m : Micro) → May w m → Grounded w → Tracing w → Staffed w → Staffed (after w m)
staffed w (keep c k) may g t s = there_put w c (keeps c k) may.0 (keeps-id c k) s
staffed w (change c k) may g t s = there_put w c (changes c k) may.0 (changes-id c k) s
staffed w (send m) may g t s = record { primary = s.primary; there = s.there }
staffed w (confirm c lead o) may g t s = record { primary = s.primary; there = s.there }
staffed w (promote c) may g t s = record { primary = promoted_member w g t c may.1; there = λ id is. s.there id (promoted_within w.master c id is) }
staffed w allocate may g t s = record {
  primary = s.primary;
  there = λ id is. given_at w g.numbered (λ (o p : Option Copy). is_some o ≡ true → is_some p ≡ true) id (λ c e h. refl) (λ e h. refl) (λ h. h) (s.there id is);
}
staffed w (sync r) may g t s = record {
  primary = has-with w.master.in_sync r w.master.primary ∙ rw s.primary (or_true (r == w.master.primary));
  there = λ id is. elim (or_cases (r == id) (has w.master.in_sync id) (sym (has-with w.master.in_sync r id) ∙ is)) [
    | inl new ↦
        let same : r ≡ id = grind (arith, nat_tests, new) in
        let word = said (past w) may.1.0 may.1.1 w.master.term r may.1.2 in
        subst (λ (p : ℕ). is_some (copy_in w.copies p) ≡ true) same (took_there w r w.master.term (t.traced.synced w.master.term r word))
    | inr old ↦ s.there id old
  ];
}
staffed w (fail r) may g t s = record {
  primary = has-without w.master.in_sync r w.master.primary ∙ rw (may.1, s.primary) refl;
  there = λ id is. s.there id (second (not (id == r)) (has w.master.in_sync id) (sym (has-without w.master.in_sync r id) ∙ is));
}
