-- Events, and what a script says of them.
use Rattle.std.proofs.Common.{◌≡◌, Bool, true, false, Option, Some, None, Result, Ok, Err, OnErr, refl, sym, ap, ◌∙◌}
use Rattle.op.specs.declared.message.Msg.{Msg}
use Rattle.replica.specs.declared.input.Input.{Input}
use Rattle.replica.specs.Copy.{Copy}
use Rattle.replica.specs.Step.{Step, copy_step}
use Rattle.master.specs.declared.state.Request.{Request}
use Rattle.master.specs.declared.state.Request.TheVariants.{Promote as Promotion, Allocate as Allocation}
use Rattle.master.specs.Decide.{MasterStep, master_step}
use Rattle.world.specs.declared.event.Event.{Event}
use Rattle.world.specs.declared.event.Event.TheVariants.{Write, Bulk, Get, Refresh, Restart, Deliver, Report, Promote, Allocate, TornWrite, TornBulk, TornDelivery}
use Rattle.world.specs.declared.event.EventAnswer.{EventAnswer}
use Rattle.world.specs.World.{World, Happened, answering, copy_in, after_step, at_copy, torn_at, after_decision, decided, delivered, request_of, at_master, deliver_to, deliver, deliver_torn_to, deliver_torn, message_at, world_step}
use Rattle.scripts.specs.declared.refusal.Refusal.{Refusal}
use Rattle.scripts.specs.declared.reply.Reply.{Reply}
use Rattle.scripts.specs.Refused.{IsRefused}

-- what is refused leaves the world as it was
abbrev pub Stays : World → Happened → Type 0
Stays w h = IsRefused h.answer → h.world ≡ w

step_stays : (w : World) (s : Step) → Stays w (after_step w s)
step_stays w (Ok s) r = absurd r
step_stays w (Err e) r = refl

copy_stays : (w : World) (c : Option Copy) (input : Input) → Stays w (at_copy w c input)
copy_stays w (Some c) input r = step_stays w (copy_step c input) r
copy_stays w None input r = refl

torn_stays : (w : World) (c : Option Copy) (input : Input) (kept : Bool) → Stays w (torn_at w c input kept)
torn_stays w (Some c) input kept r = absurd r
torn_stays w None input kept r = refl

decided_stays : (w : World) (s : MasterStep) → Stays w (after_decision w decided s)
decided_stays w (Ok d) r = absurd r
decided_stays w (Err e) r = refl

delivered_stays : (w : World) (s : MasterStep) → Stays w (after_decision w delivered s)
delivered_stays w (Ok d) r = absurd r
delivered_stays w (Err e) r = refl

master_stays : (w : World) (request : Option Request) → Stays w (at_master w request)
master_stays w (Some request) r = delivered_stays w (master_step w.master request) r
master_stays w None r = refl

to_stays : (w : World) (m : Msg) (b : Bool) → Stays w (deliver_to w m b)
to_stays w m true r = master_stays w (request_of m.term m.content) r
to_stays w m false r = copy_stays w (copy_in w.copies m.to) _ r

delivery_stays : (w : World) (m : Option Msg) → Stays w (deliver w m)
delivery_stays w None r = refl
delivery_stays w (Some m) r = to_stays w m _ r

torn_to_stays : (w : World) (m : Msg) (kept b : Bool) → Stays w (deliver_torn_to w m kept b)
torn_to_stays w m kept true r = refl
torn_to_stays w m kept false r = torn_stays w (copy_in w.copies m.to) _ kept r

torn_delivery_stays : (w : World) (m : Option Msg) (kept : Bool) → Stays w (deliver_torn w m kept)
torn_delivery_stays w None kept r = refl
torn_delivery_stays w (Some m) kept r = torn_to_stays w m kept _ r

event_stays : (w : World) (e : Event) → Stays w (world_step w e)
event_stays w (Write c write) r = copy_stays w (copy_in w.copies c) _ r
event_stays w (Bulk c writes) r = copy_stays w (copy_in w.copies c) _ r
event_stays w (Get c id) r = copy_stays w (copy_in w.copies c) _ r
event_stays w (Refresh c) r = copy_stays w (copy_in w.copies c) _ r
event_stays w (Restart c) r = copy_stays w (copy_in w.copies c) _ r
event_stays w (Deliver k) r = delivery_stays w (message_at w k) r
event_stays w (Report c id) r = copy_stays w (copy_in w.copies c) _ r
event_stays w (Promote c) r = decided_stays w (master_step w.master (Promotion c)) r
event_stays w Allocate r = decided_stays w (master_step w.master Allocation) r
event_stays w (TornWrite c write kept) r = torn_stays w (copy_in w.copies c) _ kept r
event_stays w (TornBulk c writes kept) r = torn_stays w (copy_in w.copies c) _ kept r
event_stays w (TornDelivery k kept) r = torn_delivery_stays w (message_at w k) kept r

stays : (w v : World) (e : Event) (a : EventAnswer) → world_step w e ≡ answering v a → IsRefused a → v ≡ w
stays w v e a h r =
    let there : IsRefused (world_step w e).answer = rw h r in
    sym (ap (λ (x : Happened). x.world) h) ∙ event_stays w e there

pub refusal_stays : (w v : World) (e : Event) (a : EventAnswer) (result : Result Reply Refusal) → world_step w e ≡ answering v a → OnErr result (IsRefused a) → OnErr result (v ≡ w)
refusal_stays w v e a (Ok x) h r = tt
refusal_stays w v e a (Err f) h r = stays w v e a h r
