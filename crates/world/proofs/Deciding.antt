-- What the nodes make of a decision.
use Rattle.std.proofs.Common.{◌≡◌, ℕ, false, List, [], ◌∷◌, ◌++◌, Option, Some, None, Result, Ok, Err, refl, sym, ap, ◌∙◌}
use Rattle.std.specs.Prelude.{option_map, IfOk, IfErr, IfSome, OnErr}
use Rattle.std.proofs.lemmas.List.{map_push}
use Rattle.doc.specs.Outcome.{Fails, Gives}
use Rattle.doc.specs.Mapping.{MappingData}
use Rattle.op.specs.declared.operation.Op.{Op}
use Rattle.op.specs.declared.message.Msg.{Msg}
use Rattle.replica.specs.declared.role.Birth.TheVariants.{Added}
use Rattle.replica.specs.Copy.{Copy, opened}
use Rattle.replica.specs.Logged.{Logged}
use Rattle.master.specs.declared.fault.MasterFault.{MasterFault}
use Rattle.master.specs.declared.fault.MasterFault.TheVariants.{OldTerm, NotInSync, IsPrimary, Gone, Log, NoMemory, Full}
use Rattle.master.specs.declared.state.State.{State}
use Rattle.master.specs.declared.state.Request.{Request}
use Rattle.master.specs.declared.state.Decision.{Decision}
use Rattle.master.specs.Decide.{MasterStep, decision_of}
use Rattle.master.specs.Fault.{fault_of, is_log}
use Rattle.master.specs.Logged as master
use Rattle.master.specs.Logged.{IsDone, IsRefused}
use Rattle.world.specs.declared.event.EventAnswer.{EventAnswer}
use Rattle.world.specs.declared.event.EventAnswer.TheVariants.{RefusedByMaster}
use Rattle.world.specs.Nodes.{copies_of, with_one, AreOpen, IsFollowed}
use Rattle.world.specs.World.{World, answering, after_decision, decided_in, giving, telling}
use Rattle.world.proofs.Doing.{world_with}
use Rattle.world.proofs.Places.{open_more}

-- ---- an answer

pub after_made : (w new : World) (f : Decision → EventAnswer) (step : MasterStep) (d : Decision) → decided_in w step ≡ Ok (new, d) → after_decision w f step ≡ answering new (f d)
after_made w new f (Ok done) d e =
    let pair = elim_ok _ _ e in ap (λ (x : World × Decision). answering x.0 (f x.1)) pair
  where
    elim_ok : (x y : World × Decision) → (let r : Result (World × Decision) MasterFault = Ok x in r) ≡ Ok y → x ≡ y
    elim_ok x y e = cc
after_made w new f (Err fault) d e = absurd cc

pub after_refused : (w : World) (f : Decision → EventAnswer) (step : MasterStep) (e : MasterFault) → decided_in w step ≡ Err e → after_decision w f step ≡ answering w (RefusedByMaster e)
after_refused w f (Ok done) e is = absurd cc
after_refused w f (Err fault) e is =
    let same : fault ≡ e = same_err fault e is in ap (λ (x : MasterFault). answering w (RefusedByMaster x)) same
  where
    same_err : (x y : MasterFault) → (let r : Result (World × Decision) MasterFault = Err x in r) ≡ Err y → x ≡ y
    same_err x y e = cc

-- ---- a decision that is made

same_decision : (made decision : Decision) → (let r : Result Decision MasterFault = Ok made in r) ≡ Ok decision → made ≡ decision
same_decision made decision e = cc

given_in : (m : MappingData) (s : State) (ls : List Logged) (ms : List Msg) (os : List Op) (given : Option ℕ) (copy : Option Logged)
    → option_map (λ (l : Logged). l.copy) copy ≡ option_map (λ (r : ℕ). opened r Added m []) given
    → giving (world_with m s (copies_of ls) ms os) given ≡ world_with m s (copies_of (with_one ls copy)) ms os
given_in m s ls ms os None None e = refl
given_in m s ls ms os None (Some l) e = absurd cc
given_in m s ls ms os (Some r) None e = absurd cc
given_in m s ls ms os (Some r) (Some l) e =
    let same : l.copy ≡ opened r Added m [] = same_some l.copy (opened r Added m []) e in
    ap (λ (cs : List Copy). world_with m s cs ms os) (ap (λ (c : Copy). copies_of ls ++ c ∷ []) (sym same) ∙ sym (map_push (λ (x : Logged). x.copy) ls l))
  where
    same_some : (x y : Copy) → (let o : Option Copy = Some x in o) ≡ Some y → x ≡ y
    same_some x y e = cc

told_in : (m : MappingData) (s : State) (cs : List Copy) (ms : List Msg) (os : List Op) (sent : Option Msg) → telling (world_with m s cs ms os) sent ≡ world_with m s cs (with_one ms sent) os
told_in m s cs ms os None = refl
told_in m s cs ms os (Some x) = refl

made_in : (m : MappingData) (s t : State) (ls : List Logged) (ms : List Msg) (os : List Op) (step : MasterStep) (decision made : Decision) (copy : Option Logged)
    → decision_of step ≡ Ok decision → step ≡ Ok (record { state = t; decision = made })
    → option_map (λ (l : Logged). l.copy) copy ≡ option_map (λ (r : ℕ). opened r Added m []) decision.given
    → decided_in (world_with m s (copies_of ls) ms os) step ≡ Ok (world_with m t (copies_of (with_one ls copy)) (with_one ms made.sent) os, decision)
made_in m s t ls ms os step decision made copy looked is given =
    let same : made ≡ decision = same_decision made decision (sym (ap decision_of is) ∙ looked) in
    let gives = given_in m t ls ms os made.given copy (given ∙ ap (λ (d : Decision). option_map (λ (r : ℕ). opened r Added m []) d.given) (sym same)) in
    let tells = ap (λ (w : World). telling w made.sent) gives ∙ told_in m t (copies_of (with_one ls copy)) ms os made.sent in
    ap (decided_in (world_with m s (copies_of ls) ms os)) is
    ∙ ap (λ (w : World). let r : Result (World × Decision) MasterFault = Ok (w, made) in r) tells
    ∙ ap (λ (d : Decision). let r : Result (World × Decision) MasterFault = Ok (world_with m t (copies_of (with_one ls copy)) (with_one ms made.sent) os, d) in r) same

refused_in : (w : World) (e : MasterFault) (old new : master.Logged) (step : MasterStep) → is_log e ≡ false → IsRefused e old new step → Fails fault_of e (decided_in w step)
refused_in w OldTerm old new step other r = ap (decided_in w) r.cause
refused_in w NotInSync old new step other r = ap (decided_in w) r.cause
refused_in w IsPrimary old new step other r = ap (decided_in w) r.cause
refused_in w Gone old new step other r = ap (decided_in w) r.cause
refused_in w Full old new step other r = ap (decided_in w) r.cause
refused_in w NoMemory old new step other r = tt
refused_in w (Log f) old new step other r = absurd cc

same_in : (e : MasterFault) (old new : master.Logged) (step : MasterStep) → is_log e ≡ false → IsRefused e old new step → master.IsSame old new
same_in OldTerm old new step other r = r.same
same_in NotInSync old new step other r = r.same
same_in IsPrimary old new step other r = r.same
same_in Gone old new step other r = r.same
same_in Full old new step other r = r.same
same_in NoMemory old new step other r = r.1
same_in (Log f) old new step other r = absurd cc

module _ (m : MappingData) (ls after : List Logged) (ms told : List Msg) (os : List Op) (old new : master.Logged) (request : Request) (step : MasterStep) (decision : Decision) (copy : Option Logged) (opened_now : old.closed ≡ false) where
  pub decides : (r result : Result Decision MasterFault) → decision_of step ≡ Ok decision → option_map (λ (l : Logged). l.copy) copy ≡ option_map (λ (id : ℕ). opened id Added m []) decision.given
      → IfOk r (λ d. IsDone old new request d step) → IfErr r (λ e. IsRefused e old new step) → IfErr r (λ e. is_log e ≡ false)
      → IsFollowed r result decision copy ls after ms told
      → Gives fault_of (λ d. (world_with m new.state (copies_of after) told os, d)) result (decided_in (world_with m old.state (copies_of ls) ms os) step)
  decides (Ok made) result looked given done refused other followed =
      rw (followed.0, followed.1, followed.2) (made_in m old.state new.state ls ms os step decision made copy looked done.decided given)
  decides (Err e) result looked given done refused other followed = rw followed.0 (refused_in (world_with m old.state (copies_of ls) ms os) e old new step other refused)

  pub stays : (r result : Result Decision MasterFault)
      → IfErr r (λ e. IsRefused e old new step) → IfErr r (λ e. is_log e ≡ false)
      → IsFollowed r result decision copy ls after ms told
      → OnErr result (world_with m new.state (copies_of after) told os ≡ world_with m old.state (copies_of ls) ms os)
  stays (Ok made) result refused other followed = rw followed.0 tt
  stays (Err e) result refused other followed =
      rw (followed.0, followed.1, followed.2) (ap (λ (s : State). world_with m s (copies_of ls) ms os) (same_in e old new step other refused).state)

  pub no_log : (r result : Result Decision MasterFault) → IfErr r (λ e. is_log e ≡ false) → IsFollowed r result decision copy ls after ms told → IfErr result (λ e. is_log e ≡ false)
  no_log (Ok made) result other followed = rw followed.0 tt
  no_log (Err e) result other followed = rw followed.0 other

  pub still_open : (r result : Result Decision MasterFault) → AreOpen ls → IfSome copy (λ l. l.closed ≡ false)
      → IfOk r (λ d. IsDone old new request d step) → IfErr r (λ e. IsRefused e old new step) → IfErr r (λ e. is_log e ≡ false)
      → IsFollowed r result decision copy ls after ms told → (new.closed ≡ false) × AreOpen after
  still_open (Ok made) result opens one done refused other followed = (done.stays_open, rw followed.1 (open_one ls copy opens one))
    where
      open_one : (xs : List Logged) (o : Option Logged) → AreOpen xs → IfSome o (λ l. l.closed ≡ false) → AreOpen (with_one xs o)
      open_one xs None opens one = opens
      open_one xs (Some l) opens one = open_more xs l opens one
  still_open (Err e) result opens one done refused other followed = ((same_in e old new step other refused).closed ∙ opened_now, rw followed.1 opens)

-- ---- a refusal

pub refused_as : {E : Type 0} (r : Result EventAnswer E) (w new : World) (f : Decision → EventAnswer) (step : MasterStep) (e : MasterFault)
    → IfOk r (λ a. (a ≡ RefusedByMaster e) × (fault_of e ≡ Some e)) → Fails fault_of e (decided_in w step) → new ≡ w → IfOk r (λ a. after_decision w f step ≡ answering new a)
refused_as (Ok a) w new f step e h fails same =
    let is : decided_in w step ≡ Err e = rw h.1 at fails in
    rw (same, h.0) (after_refused w f step e is)
refused_as (Err x) w new f step e h fails same = tt
