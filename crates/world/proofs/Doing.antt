-- What the nodes do, against the definitions.
use Rattle.std.proofs.Common.{◌≡◌, ℕ, zero, suc, Bool, true, false, ◌==◌, List, [], ◌∷◌, get_or, set, Option, Some, Ok, Err, refl, sym, ap, ◌∙◌, arith, eq-eqb}
use Rattle.std.proofs.lemmas.Bool.Decides.{nat_tests}
use Rattle.doc.specs.Mapping.{MappingData}
use Rattle.op.specs.declared.operation.Op.{Op}
use Rattle.op.specs.declared.message.Msg.{Msg}
use Rattle.replica.specs.declared.input.Input.{Input}
use Rattle.replica.specs.Copy.{Copy}
use Rattle.replica.specs.Logged.{Logged}
use Rattle.replica.specs.Step.{Step, copy_step, torn}
use Rattle.master.specs.declared.state.State.{State}
use Rattle.world.specs.declared.event.EventAnswer.{EventAnswer}
use Rattle.world.specs.declared.event.EventAnswer.TheVariants.{Torn}
use Rattle.world.specs.Nodes.{Local, local_step, copies_of}
use Rattle.world.specs.World.{World, Happened, answering, place_in, copy_in, with_copy, after_step, at_copy, torn_at}
use Rattle.world.proofs.Places.{IsFirst, is_first, first_found, first_is, first_put}

-- the nodes as a world
abbrev pub world_with : MappingData → State → List Copy → List Msg → List Op → World
world_with m s cs ms os = record { mapping = m; master = s; copies = cs; messages = ms; acknowledged = os }

same_put : (ls : List Logged) (id i : ℕ) (d : Logged) → IsFirst ls id i → with_copy (copies_of ls) (get_or ls i d).copy ≡ copies_of ls
same_put [] id i d h = absurd h
same_put (l ∷ ls) id zero d h = let self : (l.copy.id == l.copy.id) ≡ true = eq-eqb l.copy.id l.copy.id refl in rw self refl
same_put (l ∷ ls) id (suc i) d h =
    let n : ((get_or ls i d).copy.id == id) ≡ true = first_is ls id i d h.1 in
    let e : (get_or ls i d).copy.id ≡ id = grind (arith, nat_tests) in
    let other : (l.copy.id == (get_or ls i d).copy.id) ≡ false = rw e h.0 in
    rw other (ap (λ (cs : List Copy). l.copy ∷ cs) (same_put ls id i d h.1))

-- a copy that is as it was
pub kept_put : (ls : List Logged) (id i : ℕ) (new : Logged) → IsFirst ls id i → new.copy ≡ (get_or ls i new).copy → copies_of (set ls i new) ≡ copies_of ls
kept_put [] id i new h same = absurd h
kept_put (l ∷ ls) id zero new h same = ap (λ (c : Copy). c ∷ copies_of ls) same
kept_put (l ∷ ls) id (suc i) new h same = ap (λ (cs : List Copy). l.copy ∷ cs) (kept_put ls id i new h.1 same)

module _ (m : MappingData) (s : State) (ls : List Logged) (ms : List Msg) (os : List Op) (id i : ℕ) (old new : Logged)
    (place : place_in (copies_of ls) id ≡ Some i) (is : old ≡ get_or ls i old) (same : new.copy.id ≡ old.copy.id) where
  first : IsFirst ls id i
  first = is_first ls id i place

  found : copy_in (copies_of ls) id ≡ Some old.copy
  found = first_found ls id i old first ∙ ap (λ (l : Logged). let o : Option Copy = Some l.copy in o) (sym is)

  named : old.copy.id ≡ id
  named =
      let n : ((get_or ls i old).copy.id == id) ≡ true = first_is ls id i old first in
      let e : (get_or ls i old).copy.id ≡ id = grind (arith, nat_tests) in
      ap (λ (l : Logged). l.copy.id) is ∙ e

  put : copies_of (set ls i new) ≡ with_copy (copies_of ls) new.copy
  put = first_put ls id i new first (same ∙ named)

  stays_put : with_copy (copies_of ls) old.copy ≡ copies_of ls
  stays_put = ap (λ (l : Logged). with_copy (copies_of ls) l.copy) is ∙ same_put ls id i old first

  -- what a step of it makes of the world
  at_local : Local → Happened
  at_local l = answering (world_with m s (with_copy (copies_of ls) l.copy) l.messages l.acknowledged) l.answer

  local_at : (r : Step) → after_step (world_with m s (copies_of ls) ms os) r ≡ at_local (local_step old.copy ms os r)
  unfolding at_local
  local_at (Ok done) = refl
  local_at (Err e) = ap (λ (cs : List Copy). answering (world_with m s cs ms os) (local_step old.copy ms os (Err e)).answer) (sym stays_put)

  pub stepped_at : (input : Input) (more : List Msg) (settled : List Op) (a : EventAnswer)
      → local_step old.copy ms os (copy_step old.copy input) ≡ record { copy = new.copy; messages = more; acknowledged = settled; answer = a }
      → at_copy (world_with m s (copies_of ls) ms os) (copy_in (copies_of ls) id) input ≡ answering (world_with m s (copies_of (set ls i new)) more settled) a
  unfolding at_local
  stepped_at input more settled a e =
      rw (found, put) (local_at (copy_step old.copy input) ∙ ap at_local e)

  pub torn_there : (input : Input) (kept : Bool) (a : EventAnswer) → new.copy ≡ torn old.copy (copy_step old.copy input) kept → a ≡ Torn new.copy.point
      → torn_at (world_with m s (copies_of ls) ms os) (copy_in (copies_of ls) id) input kept ≡ answering (world_with m s (copies_of (set ls i new)) ms os) a
  torn_there input kept a e answer =
      rw (found, put, answer) (ap (λ (c : Copy). answering (world_with m s (with_copy (copies_of ls) c) ms os) (Torn c.point)) (sym e))

  pub stays_there : new.copy ≡ old.copy → copies_of (set ls i new) ≡ copies_of ls
  stays_there e = put ∙ ap (λ (c : Copy). with_copy (copies_of ls) c) e ∙ stays_put
