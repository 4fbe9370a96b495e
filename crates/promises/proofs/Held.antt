-- A write that a client was told as done is in each copy that is in sync at the end of a run.
use Rattle.std.proofs.Common.{◌≡◌, ◌+◌, ◌≤◌, ℕ, zero, suc, Bool, true, false, List, [], ◌∷◌, ◌++◌, map, Option, Some, None, Result, Ok, Err, IfOk, inl, inr, refl, sym, ap, subst, ◌∙◌, arith, append_assoc, append-nil}
use Rattle.std.specs.Prelude.{Contains, slice_get}
use Rattle.std.proofs.lemmas.List.Elements.{All-contains, Contains-append_right}
use mathlib.Core.List.{IsPrefix}
use Rattle.chronicle.specs.Registered.{PrefixData, prefix}
use Rattle.chronicle.proofs.Lines.{prefix_trans}
use Rattle.doc.specs.Id.{Id}
use Rattle.doc.specs.Mapping.{MappingData}
use Rattle.op.specs.declared.operation.Op.{Op}
use Rattle.op.specs.Ids.{has}
use Rattle.op.specs.Operations.{IsAscending, is_on, op_at}
use Rattle.replica.specs.declared.fault.CopyFault.{CopyFault}
use Rattle.replica.specs.declared.input.Input.{Input}
use Rattle.replica.specs.declared.input.Input.TheVariants.{Write as Client, Bulk}
use Rattle.replica.specs.declared.input.Write as taken
use Rattle.replica.specs.declared.output.Item.{Item}
use Rattle.replica.specs.declared.output.Item.TheVariants.{Wrote as WroteItem}
use Rattle.replica.specs.declared.output.Output.{Output}
use Rattle.replica.specs.declared.output.Written.{Written}
use Rattle.replica.specs.Copy.{Copy, operations}
use Rattle.replica.specs.Step.{Stepped, copy_step, stepped}
use Rattle.history.specs.History.{at_end, primary}
use Rattle.world.specs.declared.event.Event.{Event}
use Rattle.world.specs.Held.{HasInSyncCopies}
use Rattle.world.specs.Past.{past}
use Rattle.world.specs.World.{World, Happened, after_step, copy_in, with_copy, world_after, world_of, world_step}
use Rattle.world.proofs.Always.{Founded, always_founded, founded}
use Rattle.world.proofs.Decompose.{each}
use Rattle.world.proofs.Holds.{Everything, always_everything, always_held}
use Rattle.world.proofs.Lists.{Contains-at, Contains-none, copy_in-id, copy_in-with}
use Rattle.world.proofs.Own.{end_own, primary_first, took_own}
use Rattle.world.proofs.Primaries.{always_in_sync}
use Rattle.journal.specs.declared.journal.Deed.{Deed}
use Rattle.journal.specs.declared.journal.Journal.{Journal}
use Rattle.journal.specs.declared.journal.Journal.TheVariants.{OfCopy as of_copy}
use Rattle.journal.specs.Journal.{Shut, Standing, IsLegal, IsOutputOf, IsReopening, MayAnswer, after, left_by, open_at}
use Rattle.audit.specs.Audit.{IsMadeOf}
use Rattle.audit.proofs.StepIds.{step-id}
use Rattle.node.specs.Entry.{Receipt, IsEntry}
use Rattle.node.specs.Heard.{HasEntry}
use Rattle.cluster.specs.Bulks.{AreSettledAt, IsAcknowledgedAt, IsSettledAt, bulked as items_in, bulked_as}
use Rattle.cluster.specs.Confirmed.{AcknowledgedBy, IsBehind, wrote as written_in, written_as}
use Rattle.front.specs.declared.command.Write.{Write}
use Rattle.front.specs.declared.reply.Wrote.{Wrote}
use Rattle.front.specs.declared.reply.ItemReply.{ItemReply}
use Rattle.front.specs.declared.reply.ItemReply.TheVariants as item
use Rattle.front.specs.Reply.{bulked, refused, wrote}
use Rattle.shard.specs.Answering.{write_of}
use Rattle.group.specs.Group.{IsBulkWritten, IsWritten}
use Rattle.group.specs.Known.{KnownData}
use Rattle.promises.specs.Promises.{HasWrite, alone, among}
use Rattle.promises.specs.Runs.{IsHeldIn, IsKnownOf, WritesAreHeldInRuns}
use Rattle.promises.proofs.AtCopies.{HasKeptIn, in_bulk, known_one, last_split, replied_same, reply_item, seq_by, written_one, wrote_here}
use Rattle.promises.proofs.Events.{IsEvent, is_event}
use Rattle.promises.proofs.Leaders.{Leader, acknowledged_after, leader_after}
use Rattle.promises.proofs.Leading.{IsLeadingAs, bulk_leads, write_leads}
use Rattle.promises.proofs.Lists.{has_write}
use Rattle.promises.proofs.Standings.{goes_on_at}
use Rattle.promises.proofs.Written.{get_map, wrote_step}

-- ---- entries

op_one : (o p : Op) → (let x : Option Op = Some o in x) ≡ Some p → o ≡ p
op_one o p e = cc

item_one : (i j : Item) → (let o : Option Item = Some i in o) ≡ Some j → i ≡ j
item_one i j e = cc

items_same : (xs ys : List Item) → (let o : Option (List Item) = Some xs in o) ≡ Some ys → xs ≡ ys
items_same xs ys e = cc

none_in : (place : ℕ) (o : Op) → slice_get [] place ≡ Some o → ⊥
none_in place o e = absurd (Contains-none o (Contains-at [] place o e))

-- an answer that isn't a restart's is that of the step of an open copy
open_step : (c : Copy) (shut : Option Shut) (input : Input) (output : Output) → MayAnswer c shut input (Ok output) → ((f : Shut) → IsReopening c f input output → ⊥)
    → (shut ≡ None) × IsOutputOf c (copy_step c input) output
open_step c None input output may never = (refl, may)
open_step c (Some f) input output may never = absurd (never f may)

-- an answer that was accepted, of an input that isn't a restart
record IsStepBy (c : Copy) (shut : Option Shut) (input : Input) (a : Result Output CopyFault) : Type 0 where
  output : Output
  answer : a ≡ Ok output
  unshut : shut ≡ None
  legal : IsOutputOf c (copy_step c input) output

-- the answer of a write that was kept
record IsKeptBy (c : Copy) (shut : Option Shut) (v : taken.Write) (y : Written) (a : Result Output CopyFault) : Type 0 where
  by : IsStepBy c shut (Client v) a
  told : written_as by.output.answer ≡ Some y

kept_by : (c : Copy) (shut : Option Shut) (v : taken.Write) (y : Written) (a : Result Output CopyFault) → MayAnswer c shut (Client v) a → written_in a ≡ Some y → IsKeptBy c shut v y a
kept_by c shut v y (Ok output) may told =
    let is = open_step c shut (Client v) output may (λ f re. let never : false ≡ true = re.restart in absurd cc) in
    record { by = record { output = output; answer = refl; unshut = is.0; legal = is.1 }; told = told }
kept_by c shut v y (Err e) may told = absurd cc

-- that of a bulk
record IsBulkBy (c : Copy) (shut : Option Shut) (ws : List taken.Write) (is : List Item) (a : Result Output CopyFault) : Type 0 where
  by : IsStepBy c shut (Bulk ws) a
  told : bulked_as by.output.answer ≡ Some is

bulk_by : (c : Copy) (shut : Option Shut) (ws : List taken.Write) (is : List Item) (a : Result Output CopyFault) → MayAnswer c shut (Bulk ws) a → items_in a ≡ Some is → IsBulkBy c shut ws is a
bulk_by c shut ws is (Ok output) may told =
    let by = open_step c shut (Bulk ws) output may (λ f re. let never : false ≡ true = re.restart in absurd cc) in
    record { by = record { output = output; answer = refl; unshut = by.0; legal = by.1 }; told = told }
bulk_by c shut ws is (Err e) may told = absurd cc

-- an answer that acknowledges a write
record IsAckedBy (c : Copy) (shut : Option Shut) (input : Input) (y : Written) (a : Result Output CopyFault) : Type 0 where
  by : IsStepBy c shut input a
  op : Op
  there : Contains by.output.acknowledged op
  number : op.seq ≡ y.seq
  term : op.term ≡ y.term

acked_by : (c : Copy) (shut : Option Shut) (input : Input) (y : Written) (a : Result Output CopyFault) → MayAnswer c shut input a → AcknowledgedBy a y → IsAckedBy c shut input y a
acked_by c shut input y (Ok output) may acked =
    let is = open_step c shut input output may (λ f re. none_in acked.place acked.op (ap (λ (os : List Op). slice_get os acked.place) (sym re.acknowledged) ∙ acked.there)) in
    record {
      by = record { output = output; answer = refl; unshut = is.0; legal = is.1 };
      op = acked.op;
      there = Contains-at output.acknowledged acked.place acked.op acked.there;
      number = acked.seq_is;
      term = acked.term_is;
    }
acked_by c shut input y (Err e) may acked = absurd acked

-- the entry that acknowledges a write of a bulk
settled_at : (entries : List Receipt) (is : List Item) (places : List ℕ) → AreSettledAt entries is places → (at : ℕ) (y : Written) → slice_get is at ≡ Some (WroteItem y) → (place : ℕ) × IsAcknowledgedAt entries place y
settled_at entries [] [] all zero y there = absurd cc
settled_at entries [] [] all (suc at) y there = absurd cc
settled_at entries [] (p ∷ ps) all at y there = absurd all
settled_at entries (i ∷ is) [] all at y there = absurd all
settled_at entries (i ∷ is) (p ∷ ps) all zero y there = (p, subst (λ (x : Item). IsSettledAt entries x p) (item_one i (WroteItem y) there) all.0)
settled_at entries (i ∷ is) (p ∷ ps) all (suc at) y there = settled_at entries is ps all.1 at y there

-- ---- a run

module _ (mapping : MappingData) (n : ℕ) (js : List Journal) (es : List Event) (made : IsMadeOf mapping n js es) where
  abbrev w : World
  w = world_of mapping n es

  after_both : (x : World) (xs : List Event) (e : Event) (ys : List Event) → world_after x (xs ++ e ∷ ys) ≡ world_after (world_step (world_after x xs) e).world ys
  after_both x [] e ys = refl
  after_both x (z ∷ xs) e ys = after_both (world_step x z).world xs e ys

  module _ (node : ℕ) (c : Copy) (input : Input) (at : IsEvent mapping n js es made node c input) (s : Stepped) (step : copy_step c input ≡ Ok s) where
    abbrev before : World
    before = world_of mapping n at.front

    abbrev here : World
    here = (after_step before (Ok s)).world

    is_here : (world_step before at.event).world ≡ here
    is_here = ap (λ (h : Happened). h.world) (at.happens ∙ ap (after_step before) step)

    -- the world at the run's end goes on from it
    ends : w ≡ world_after here at.back
    ends = ap (world_of mapping n) at.split ∙ (after_both _ at.front at.event at.back ∙ ap (λ (x : World). world_after x at.back) is_here)

    acknowledges : (o : Op) → Contains s.acknowledged o → Contains w.acknowledged o
    acknowledges o is = subst (λ (x : World). Contains x.acknowledged o) (sym ends) (acknowledged_after o at.back here (Contains-append_right before.acknowledged s.acknowledged o is))

    founded_here : Founded here
    founded_here = subst Founded is_here (each Founded founded before at.event (always_founded mapping n at.front made.size.0))

  -- the operation of a write is there at the end of its term, at the term's primary
  record IsLedTo (id : Id) (y : Written) : Type 0 where
    op : Op
    number : op.seq ≡ y.seq
    on : is_on id op ≡ true
    copy : ℕ
    leader : Leader copy y.term op.seq op w

  -- an operation that a step of a copy kept which leads on
  module _ (node : ℕ) (c : Copy) (input : Input) (at : IsEvent mapping n js es made node c input) (s : Stepped) (step : copy_step c input ≡ Ok s) (id : Id) (y : Written) (kept : HasKeptIn id y.seq s.copy.records) (leads : IsLeadingAs c s.copy) (term : c.term ≡ y.term) where
    abbrev x : World
    x = here node c input at s step

    led_to : IsLedTo id y
    led_to =
        let start = before node c input at s step in
        let g : Founded x = founded_here node c input at s step in
        let term_is : s.copy.term ≡ y.term = leads.term ∙ term in
        let own : s.copy.id ≡ node = subst (λ (r : Result Stepped CopyFault). IfOk r (λ z. z.copy.id ≡ c.id)) step (step-id c input) ∙ copy_in-id start.copies node c at.there in
        let there : copy_in (with_copy start.copies s.copy) s.copy.id ≡ Some s.copy = copy_in-with start.copies s.copy c (ap (copy_in start.copies) own ∙ at.there) in
        let standing = g.grounded.standing s.copy.id s.copy there in
        let taken = took_own x s.copy there standing (primary_first x s.copy there standing leads.lead leads.role) in
        let held : op_at (at_end (past x) s.copy.id s.copy.term) kept.op.seq ≡ Some kept.op = ap (λ (os : List Op). op_at os kept.op.seq) (end_own x s.copy there standing s.copy.term (omega arith)) ∙ kept.has in
        let now : Leader s.copy.id s.copy.term kept.op.seq kept.op x = record { founded = g; taken = taken; leads = sym (g.tracing.led s.copy.id s.copy there leads.lead leads.role); there = held } in
        record {
          op = kept.op;
          number = kept.number;
          on = kept.on;
          copy = s.copy.id;
          leader = subst (λ (t : ℕ). Leader s.copy.id t kept.op.seq kept.op w) term_is
              (subst (Leader s.copy.id s.copy.term kept.op.seq kept.op) (sym (ends node c input at s step)) (leader_after s.copy.id s.copy.term kept.op.seq kept.op at.back x now));
        }

  -- the copy before an event of a run has its operations in order
  up_before : (node : ℕ) (c : Copy) (input : Input) → IsEvent mapping n js es made node c input → IsAscending (operations c)
  up_before node c input at = ((always_founded mapping n at.front made.size.0).grounded.standing node c at.there).up

  led_by_write : (node : ℕ) (c : Copy) (shut : Option Shut) (v : taken.Write) (y : Written) (a : Result Output CopyFault) → IsEvent mapping n js es made node c (Client v) → IsKeptBy c shut v y a → IsLedTo v.id y
  led_by_write node c shut v y a at k =
      let s = stepped (left_by c (copy_step c (Client v))) k.by.output in
      let up = up_before node c (Client v) at in
      let same = written_one _ y (sym (ap written_as (wrote_step c v s c.role k.by.legal.0).1) ∙ k.told) in
      led_to node c (Client v) at s k.by.legal.0 v.id y (wrote_here c up v y k.by.output k.by.legal k.told) (write_leads c v s c.role k.by.legal.0) (ap (λ (z : Written). z.term) same)

  led_by_bulk : (node : ℕ) (c : Copy) (shut : Option Shut) (ws : List taken.Write) (is : List Item) (a : Result Output CopyFault) → IsEvent mapping n js es made node c (Bulk ws) → IsBulkBy c shut ws is a
      → (place : ℕ) (v : taken.Write) (y : Written) → slice_get ws place ≡ Some v → slice_get is place ≡ Some (WroteItem y) → IsLedTo v.id y
  led_by_bulk node c shut ws is a at k place v y there was =
      let s = stepped (left_by c (copy_step c (Bulk ws))) k.by.output in
      let led = bulk_leads c ws is s c.role refl k.by.legal.0 k.told in
      led_to node c (Bulk ws) at s k.by.legal.0 v.id y (in_bulk c (up_before node c (Bulk ws) at) ws is s place v y there was c.role k.by.legal.0 k.told) led.leads (sym (led.term place y was))

  -- one that was acknowledged is that operation, and each copy in sync has it
  held_each : (id : Id) (y : Written) → IsLedTo id y → (o : Op) → Contains w.acknowledged o → o.seq ≡ y.seq → o.term ≡ y.term → (c : Copy) → (has w.master.in_sync c.id ≡ true) × (copy_in w.copies c.id ≡ Some c) → HasWrite id y.seq (operations c)
  held_each id y led o is number term c in_sync =
      let all : Everything w = always_everything mapping n es made.size.0 in
      let l = led.leader in
      let first : op_at (at_end (past w) (primary (past w) o.term) o.term) o.seq ≡ Some o = (all.holding.confirmed o is).0 in
      let second : op_at (at_end (past w) (primary (past w) y.term) y.term) o.seq ≡ Some o = subst (λ (t : ℕ). op_at (at_end (past w) (primary (past w) t) t) o.seq ≡ Some o) term first in
      let third : op_at (at_end (past w) led.copy y.term) o.seq ≡ Some o = subst (λ (i : ℕ). op_at (at_end (past w) i y.term) o.seq ≡ Some o) l.leads second in
      let same : o ≡ led.op = op_one o led.op (sym third ∙ (ap (op_at (at_end (past w) led.copy y.term)) (number ∙ sym led.number) ∙ l.there)) in
      let on : is_on id o ≡ true = ap (is_on id) same ∙ led.on in
      subst (λ (k : ℕ). HasWrite id k (operations c)) number
      (has_write (operations c) id o (all.founded.grounded.standing c.id c in_sync.1).up ((always_held mapping n es made.size.0).acknowledged o c is in_sync) on)

  -- the write and what acknowledges it stand in one journal
  module _ (node : ℕ) (opening : Copy) (deeds : List Deed) (there : slice_get js node ≡ Some (of_copy opening deeds)) (legal : IsLegal (open_at opening) 0 deeds) where
    -- an entry of it, and the copy before that
    record IsIn (d : Deed) : Type 0 where
      front : List Deed
      back : List Deed
      split : deeds ≡ front ++ d ∷ back
      may : let t = after (open_at opening) 0 front in MayAnswer t.copy t.shut d.input d.answer

    is_in : (front : List Deed) (d : Deed) → IsPrefix (front ++ d ∷ []) deeds → IsIn d
    is_in front d p =
        let split : deeds ≡ front ++ d ∷ p.0 = sym p.1 ∙ append_assoc front (d ∷ []) p.0 in
        record { front = front; back = p.0; split = split; may = (goes_on_at (open_at opening) 0 front (d ∷ p.0) (subst (λ (ds : List Deed). IsLegal (open_at opening) 0 ds) split legal)).rest.0 }

    abbrev standing_at : List Deed → Standing
    standing_at front = after (open_at opening) 0 front

    event_at : (d : Deed) (at : IsIn d) (output : Output) → (standing_at at.front).shut ≡ None → d.answer ≡ Ok output → IsEvent mapping n js es made node (standing_at at.front).copy d.input
    event_at d at output unshut answer =
        is_event mapping n js es made node opening at.front d at.back output (subst (λ (ds : List Deed). slice_get js node ≡ Some (of_copy opening ds)) at.split there) unshut answer

    event_by : (d : Deed) (at : IsIn d) (input : Input) → d.input ≡ input → IsStepBy (standing_at at.front).copy (standing_at at.front).shut input d.answer → IsEvent mapping n js es made node (standing_at at.front).copy input
    event_by d at input asked k = subst (IsEvent mapping n js es made node (standing_at at.front).copy) asked (event_at d at k.output k.unshut k.answer)

    may_at : (d : Deed) (at : IsIn d) (input : Input) → d.input ≡ input → let t = standing_at at.front in MayAnswer t.copy t.shut input d.answer
    may_at d at input asked = let t = standing_at at.front in subst (λ (i : Input). MayAnswer t.copy t.shut i d.answer) asked at.may

    led_at_write : (v : taken.Write) (y : Written) (d : Deed) → IsIn d → d.input ≡ Client v → written_in d.answer ≡ Some y → IsLedTo v.id y
    led_at_write v y d at asked kept =
        let t = standing_at at.front in
        let k = kept_by t.copy t.shut v y d.answer (may_at d at (Client v) asked) kept in
        led_by_write node t.copy t.shut v y d.answer (event_by d at (Client v) asked k.by) k

    led_at_bulk : (ws : List taken.Write) (is : List Item) (d : Deed) → IsIn d → d.input ≡ Bulk ws → items_in d.answer ≡ Some is → (place : ℕ) (v : taken.Write) (y : Written) → slice_get ws place ≡ Some v → slice_get is place ≡ Some (WroteItem y) → IsLedTo v.id y
    led_at_bulk ws is d at asked kept =
        let t = standing_at at.front in
        let k = bulk_by t.copy t.shut ws is d.answer (may_at d at (Bulk ws) asked) kept in
        led_by_bulk node t.copy t.shut ws is d.answer (event_by d at (Bulk ws) asked k.by) k

    -- what an entry acknowledges, each copy in sync has
    held_by : (id : Id) (y : Written) → IsLedTo id y → (a : Deed) → IsIn a → AcknowledgedBy a.answer y → (c : Copy) → (has w.master.in_sync c.id ≡ true) × (copy_in w.copies c.id ≡ Some c) → HasWrite id y.seq (operations c)
    held_by id y led a at acks c in_sync =
        let u = standing_at at.front in
        let k = acked_by u.copy u.shut a.input y a.answer at.may acks in
        held_each id y led k.op (acknowledges node u.copy a.input (event_by a at a.input refl k.by) _ k.by.legal.0 k.op k.there) k.number k.term c in_sync

-- ---- a client

some_primary : (w : World) → HasInSyncCopies w → (c : Copy) × (c.id ≡ w.master.primary) × ((has w.master.in_sync c.id ≡ true) × (copy_in w.copies c.id ≡ Some c))
some_primary w s =
    let p = s.there w.master.primary s.primary in
    (p.0, p.1, (subst (λ (i : ℕ). has w.master.in_sync i ≡ true) (sym p.1) s.primary, p.2))

-- where a write and an entry that acknowledges it stand among what a client knows, each copy in sync has it
held_known : (mapping : MappingData) (n : ℕ) (js : List Journal) (es : List Event) (made : IsMadeOf mapping n js es) (acked : PrefixData Deed) (known : IsKnownOf js acked) (id : Id) (y : Written) (seq : ℕ) → seq ≡ y.seq
    → IsLedTo mapping n js es made id y → (a : Receipt) → IsEntry a → IsPrefix a.deeds acked.entries → AcknowledgedBy a.deed.answer y → IsHeldIn (world_of mapping n es) id seq
held_known mapping n js es made acked known id y seq same led a stands up acks =
    let legal : IsLegal (open_at known.opening) 0 known.deeds = (made.pass acked.number (of_copy known.opening known.deeds) known.journal).1 in
    let split = last_split a.deeds a.place a.deed stands.stands stands.last in
    let at = is_in mapping n js es made acked.number known.opening known.deeds known.journal legal split.0 a.deed
    (subst (λ (ds : List Deed). IsPrefix ds known.deeds) split.1 (prefix_trans a.deeds acked.entries known.deeds up known.goes_on)) in
    record {
      each = λ c in_sync. subst (λ (k : ℕ). HasWrite id k (operations c)) (sym same) (held_by mapping n js es made acked.number known.opening known.deeds known.journal legal id y led a.deed at acks c in_sync);
      primary = some_primary (world_of mapping n es) (always_in_sync mapping n es made.size.0);
    }

held_write : (J : Type 0) (w : Write) (x : Wrote) (before after : KnownData) (acked : PrefixData Deed) → after.heard ≡ Some acked → IsWritten J before w (wrote x) after
    → (mapping : MappingData) (n : ℕ) (js : List Journal) (es : List Event) → IsMadeOf mapping n js es → IsKnownOf js acked → IsHeldIn (world_of mapping n es) w.id x.seq
held_write J w x before after acked upto is mapping n js es made known =
    let e = is.acknowledged in
    let r : Receipt = is.confirmed.write in
    let a : Receipt = is.confirmed.acknowledgement in
    let heard = known_one acked (prefix a.node a.deeds) (sym upto ∙ is.heard) in
    let all : IsPrefix a.deeds acked.entries = subst (λ (p : PrefixData Deed). IsPrefix a.deeds p.entries) (sym heard) ([], append-nil a.deeds) in
    let legal : IsLegal (open_at known.opening) 0 known.deeds = (made.pass acked.number (of_copy known.opening known.deeds) known.journal).1 in
    let split = last_split r.deeds r.place r.deed e.stands.stands e.stands.last in
    let at = is_in mapping n js es made acked.number known.opening known.deeds known.journal legal split.0 r.deed
    (subst (λ (ds : List Deed). IsPrefix ds known.deeds) split.1 (prefix_trans r.deeds acked.entries known.deeds (prefix_trans r.deeds a.deeds acked.entries e.behind.one all) known.goes_on)) in
    held_known mapping n js es made acked known w.id e.written x.seq (seq_by r.deed.answer _ e.written x e.kept is.told)
    (led_at_write mapping n js es made acked.number known.opening known.deeds known.journal legal (write_of w) e.written r.deed at e.asked e.kept) a e.behind.stands all e.acknowledged

held_bulk : (J : Type 0) (ws : List Write) (items : List ItemReply) (place : ℕ) (w : Write) (x : Wrote) (before after : KnownData) (acked : PrefixData Deed) → after.heard ≡ Some acked → slice_get ws place ≡ Some w → slice_get items place ≡ Some (item.Wrote x)
    → IsBulkWritten J before ws (bulked items) after
    → (mapping : MappingData) (n : ℕ) (js : List Journal) (es : List Event) → IsMadeOf mapping n js es → IsKnownOf js acked → IsHeldIn (world_of mapping n es) w.id x.seq
held_bulk J ws items place w x before after acked upto there was is mapping n js es made known =
    let e = is.acknowledged in
    let r : Receipt = is.confirmed.bulk in
    let acks = is.confirmed.acknowledgements.items in
    let heard = known_one acked is.heard (sym upto ∙ ap (λ (k : KnownData). k.heard) is.now) in
    let told = replied_same items _ is.told.told in
    let one = reply_item acks is.told.items is.confirmed.places.items place x (sym (ap (λ l. slice_get l place) told) ∙ was) in
    let kept : is.told.items ≡ e.settled.items = items_same is.told.items e.settled.items (sym is.told.kept ∙ e.settled.kept) in
    let settled = settled_at acks e.settled.items is.confirmed.places.items e.settled.acknowledged place one.written (ap (λ l. slice_get l place) (sym kept) ∙ one.there) in
    let a : Receipt = settled.1.entry in
    let inside = Contains-at acks settled.0 a settled.1.there in
    let legal : IsLegal (open_at known.opening) 0 known.deeds = (made.pass acked.number (of_copy known.opening known.deeds) known.journal).1 in
    let split = last_split r.deeds r.place r.deed e.stands.stands e.stands.last in
    let first : IsPrefix r.deeds acked.entries = subst (λ (p : PrefixData Deed). IsPrefix r.deeds p.entries) (sym heard) is.has.bulk.entries in
    let second : IsPrefix a.deeds acked.entries = subst (λ (p : PrefixData Deed). IsPrefix a.deeds p.entries) (sym heard) (All-contains (HasEntry is.heard) acks a is.has.each inside).entries in
    let at = is_in mapping n js es made acked.number known.opening known.deeds known.journal legal split.0 r.deed
    (subst (λ (ds : List Deed). IsPrefix ds known.deeds) split.1 (prefix_trans r.deeds acked.entries known.deeds first known.goes_on)) in
    held_known mapping n js es made acked known w.id one.written x.seq (sym one.number)
    (led_at_bulk mapping n js es made acked.number known.opening known.deeds known.journal legal (map write_of ws) is.told.items r.deed at e.asked is.told.kept place (write_of w) one.written (get_map write_of ws place w there) one.there)
    a (All-contains (IsBehind r) acks a e.behind inside).stands second settled.1.acknowledges

pub writes_are_held_in_runs : (J : Type 0) (m : MappingData) → WritesAreHeldInRuns J m
writes_are_held_in_runs J m w x _ _ before after acked alone (inl done) upto = held_write J w x before after acked upto done
writes_are_held_in_runs J m w x _ _ before after acked alone (inr refusal) upto = absurd (let never : wrote x ≡ refused refusal.0.refusal = refusal.0.told in cc)
writes_are_held_in_runs J m w x _ _ before after acked (among ws items place there was) (inl done) upto = held_bulk J ws items place w x before after acked upto there was done
writes_are_held_in_runs J m w x _ _ before after acked (among ws items place there was) (inr refusal) upto = absurd (let never : bulked items ≡ refused refusal.0.refusal = refusal.0.told in cc)
