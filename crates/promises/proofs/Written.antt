-- A write that is acknowledged is there.
use Rattle.std.proofs.Common.{◌≡◌, ℕ, zero, suc, Bool, true, false, List, [], ◌∷◌, ◌++◌, length, map, Option, Some, None, Result, Ok, Err, IfOk, if◌then◌else◌, refl, sym, ap, subst, ◌∙◌, append_assoc, append-nil}
use Rattle.std.specs.Prelude.{⊤, is_some, slice_get}
use Rattle.std.proofs.lemmas.Map.Text.{is_eq-slice_cmp}
use Rattle.std.proofs.lemmas.Slice.Eq.{bytes_eq-Decides}
use Rattle.doc.specs.Id.{Id, is_id}
use Rattle.doc.specs.Outcome.{◌>>=◌}
use Rattle.op.specs.declared.operation.Op.{Op}
use Rattle.op.specs.Checkpoint.{checkpoint_of}
use Rattle.op.specs.Operations.{IsAscending, concerns, is_on, op_at}
use Rattle.op.specs.Records.{operations}
use Rattle.op.proofs.OperationLaws.{op_at-next_seq}
use Rattle.op.proofs.RecordLaws.{operations-Op}
use Rattle.replica.specs.declared.fault.CopyFault.{CopyFault}
use Rattle.replica.specs.declared.input.Input.TheVariants.{Refresh as Refreshing}
use Rattle.replica.specs.declared.input.OpType.{OpType}
use Rattle.replica.specs.declared.input.OpType.TheVariants as kind
use Rattle.replica.specs.declared.input.Write as kept_write
use Rattle.replica.specs.declared.output.Answer.{Answer}
use Rattle.replica.specs.declared.output.Answer.TheVariants.{Point}
use Rattle.replica.specs.declared.output.Item.{Item}
use Rattle.replica.specs.declared.output.Item.TheVariants.{Wrote as WroteItem, Refused as RefusedItem}
use Rattle.replica.specs.declared.output.Written.{Written}
use Rattle.replica.specs.declared.role.Role.{Role}
use Rattle.replica.specs.declared.role.Role.TheVariants.{Empty, Replica, Primary}
use Rattle.replica.specs.Copy.{Copy}
use Rattle.replica.specs.Step.{Folded, Step, Stepped, body_of, bulk as bulk_step, client, copy_step, done, first_fault, folded, members_of, op_of, outcome_of, found_by, item_of, record_of, settled, settled_as, spellable, unless, unwritten, with_write, write_faults, write_step, wrote as wrote_answer}
use Rattle.front.specs.declared.command.Write.{Write}
use Rattle.front.specs.declared.reply.Wrote.{Wrote}
use Rattle.front.specs.declared.reply.ItemReply.{ItemReply}
use Rattle.front.specs.declared.reply.ItemReply.TheVariants as item
use Rattle.front.specs.declared.reply.Refusal.TheVariants.{Mismatch}
use Rattle.front.specs.Reply.{Reply, wrote, bulked, refused}
use Rattle.shard.specs.Answering.{bulk_of, bulk_reply_of, bulk_written, input_of, is_bulk, item_reply_of, kind_of, refreshed_after, reply_of, told, write_of, written}
use Rattle.promises.proofs.Lists.{is_added}
use Rattle.promises.proofs.Steps.{Has, HasOp, Later, fold_keeps, itself, whole, write_keeps}

-- ---- steps that were accepted

left_as : (s : Stepped) (role : Role) → ((settled_as s role).copy.records ≡ s.copy.records) × ((settled_as s role).copy.point ≡ s.copy.point) × ((settled_as s role).answer ≡ s.answer)
left_as s Empty = (refl, refl, refl)
left_as s Replica = (refl, refl, refl)
left_as s (Primary lead) = (refl, refl, refl)

settled_is : (r : Result ⊤ CopyFault) (y s : Stepped) → settled (r >>= λ u. Ok y) ≡ Ok s → (s.copy.records ≡ y.copy.records) × (s.copy.point ≡ y.copy.point) × (s.answer ≡ y.answer)
settled_is (Ok u) y s e =
    let is : settled_as y y.copy.role ≡ s = cc in
    let l = left_as y y.copy.role in
    (ap (λ (z : Stepped). z.copy.records) (sym is) ∙ l.0, ap (λ (z : Stepped). z.copy.point) (sym is) ∙ l.1, ap (λ (z : Stepped). z.answer) (sym is) ∙ l.2)
settled_is (Err f) y s e = absurd cc

abbrev answer_to : Copy → kept_write.Write → Answer
answer_to c w = wrote_answer (op_of c w) (outcome_of (is_some (found_by c w)) w.kind)

pub wrote_step : (c : Copy) (w : kept_write.Write) (s : Stepped) (role : Role) → settled (client c w role) ≡ Ok s → (s.copy.records ≡ c.records ++ record_of c (op_of c w) ∷ []) × (s.answer ≡ answer_to c w)
unfolding unless
wrote_step c w s Empty e = absurd cc
wrote_step c w s Replica e = absurd cc
wrote_step c w s (Primary lead) e = let is = settled_is (first_fault (write_faults c w ++ spellable (record_of c (op_of c w)))) _ s e in (is.0, is.2)

pub from_done : (y : Copy) (a : Answer) (s : Stepped) → settled (done y a []) ≡ Ok s → (s.copy.records ≡ y.records) × (s.copy.point ≡ y.point) × (s.answer ≡ a)
from_done y a s e = settled_is (Ok tt) (record { copy = y; answer = a; sent = []; acknowledged = [] }) s e

pub refresh_step : (c : Copy) (s : Stepped) → copy_step c Refreshing ≡ Ok s → (s.copy.records ≡ c.records) × (s.copy.point ≡ length c.records)
refresh_step c s e = let is = from_done (record c { point = length c.records }) (Point (length c.records)) s e in (is.0, is.1)

-- ---- a write that is acknowledged

pub record Acknowledges (w : Write) (x : Wrote) (d : Copy) : Type 0 where
  pub op : Op
  pub number : op.seq ≡ x.seq
  pub on : is_on w.id op ≡ true
  pub there : HasOp op w.refresh d

pub same_id : (id : Id) → is_id id id ≡ true
same_id id = is_eq-slice_cmp id id ∙ (bytes_eq-Decides id id).1 refl

on_kind : (id : Id) (k : OpType) → concerns id (body_of id k) ≡ true
on_kind id (kind.Index source condition) = same_id id
on_kind id (kind.Create source) = same_id id
on_kind id (kind.Delete condition) = same_id id

seq_told : (x y : Wrote) → (let r : Reply = wrote x in r) ≡ wrote y → x.seq ≡ y.seq
seq_told x y e = let same : x ≡ y = cc in ap (λ (z : Wrote). z.seq) same

module _ (c : Copy) (up : IsAscending (operations c.records)) (w : Write) (x : Wrote) (d : Copy) where
  abbrev o : Op
  o = op_of c (write_of w)

  added : Has o (c.records ++ record_of c o ∷ [])
  added = ap (λ os. op_at os o.seq) (operations-Op c.records (checkpoint_of c.known) o) ∙ is_added (operations c.records) o (op_at-next_seq (operations c.records) up)

  -- what a refresh behind it leaves
  refreshed_as : (b : Bool) (e : Copy) (s : Stepped) → s.copy.records ≡ c.records ++ record_of c o ∷ [] → refreshed_after b s.copy ≡ Ok e → HasOp o b e
  refreshed_as false e s is done =
      let copy : s.copy ≡ e = cc in
      let records : e.records ≡ c.records ++ record_of c o ∷ [] = ap (λ (z : Copy). z.records) (sym copy) ∙ is in
      (rw records added, λ h. absurd (let no : false ≡ true = h in cc))
  refreshed_as true e s is done = by_step (copy_step s.copy Refreshing) refl done
    where
      by_step : (r : Step) → copy_step s.copy Refreshing ≡ r → (r >>= λ z. Ok z.copy) ≡ Ok e → HasOp o true e
      by_step (Err f) step e_is = absurd cc
      by_step (Ok z) step e_is =
          let copy : z.copy ≡ e = cc in
          let one = refresh_step s.copy z step in
          let records : z.copy.records ≡ c.records ++ record_of c o ∷ [] = one.0 ∙ is in
          let point : z.copy.point ≡ length z.copy.records = one.1 ∙ ap length (sym one.0) in
          subst (λ (y : Copy). HasOp o true y) copy (rw point (whole o true z.copy.records (rw records added)))

  pub acknowledged : (d, wrote x) ≡ told c (written c w) → Acknowledges w x d
  acknowledged h = by_step (copy_step c (input_of w)) refl h
    where
      by_refresh : (s : Stepped) → copy_step c (input_of w) ≡ Ok s → (r : Result Copy CopyFault) → refreshed_after w.refresh s.copy ≡ r
          → (d, wrote x) ≡ told c (r >>= λ e. Ok (e, reply_of (members_of s.copy.role) s.answer)) → Acknowledges w x d
      by_refresh s step (Err f) done h = absurd (let no = ap (λ (p : Copy × Reply). p.1) h in cc)
      by_refresh s step (Ok e) done h =
          let one = wrote_step c (write_of w) s c.role step in
          let copy : d ≡ e = ap (λ (p : Copy × Reply). p.0) h in
          let reply : wrote x ≡ reply_of (members_of s.copy.role) (answer_to c (write_of w)) = ap (λ (p : Copy × Reply). p.1) h ∙ ap (reply_of (members_of s.copy.role)) one.1 in
          record {
            op = o;
            number = sym (seq_told x _ reply);
            on = on_kind w.id (kind_of w.change w.condition);
            there = subst (λ (y : Copy). HasOp o w.refresh y) (sym copy) (refreshed_as w.refresh e s one.0 done);
          }

      by_step : (r : Step) → copy_step c (input_of w) ≡ r → (d, wrote x) ≡ told c (r >>= λ s. refreshed_after w.refresh s.copy >>= λ e. Ok (e, reply_of (members_of s.copy.role) s.answer)) → Acknowledges w x d
      by_step (Err f) step h = absurd (let no = ap (λ (p : Copy × Reply). p.1) h in cc)
      by_step (Ok s) step h = by_refresh s step (refreshed_after w.refresh s.copy) refl h

-- ---- a write of a bulk that is acknowledged

pub record IsKept (id : Id) (seq : ℕ) (d : Copy) : Type 0 where
  pub op : Op
  pub number : op.seq ≡ seq
  pub on : is_on id op ≡ true
  pub there : HasOp op false d

unseen : (o : Op) (d : Copy) → Has o d.records → HasOp o false d
unseen o d h = (h, λ e. absurd (let no : false ≡ true = e in cc))

-- a write that a copy keeps
pub keeps_one : (c : Copy) (up : IsAscending (operations c.records)) (w : kept_write.Write) (s : Stepped) → write_step c w ≡ Ok s → IsKept w.id (op_of c w).seq s.copy
keeps_one c up w s e =
    let one = wrote_step c w s c.role e in
    record {
      op = op_of c w;
      number = refl;
      on = on_kind w.id w.kind;
      there = unseen (op_of c w) s.copy (rw one.0 (ap (λ os. op_at os (op_of c w).seq) (operations-Op c.records (checkpoint_of c.known) (op_of c w)) ∙ is_added (operations c.records) (op_of c w) (op_at-next_seq (operations c.records) up)));
    }

later_kept : (id : Id) (seq : ℕ) (c d : Copy) → Later d c → IsKept id seq c → IsKept id seq d
later_kept id seq c d later is = record { op = is.op; number = is.number; on = is.on; there = later.keeps is.op false is.there }

-- what became of each of some writes, and that those which were kept are there at the end
pub record AreKept (b : Folded) (ws : List kept_write.Write) : Type 0 where
  pub more : List Item
  pub items : (folded b ws).items ≡ b.items ++ more
  pub each : (place : ℕ) (w : kept_write.Write) (y : Written) → slice_get ws place ≡ Some w → slice_get more place ≡ Some (WroteItem y) → IsKept w.id y.seq (folded b ws).copy

some_item : (i j : Item) → (let o : Option Item = Some i in o) ≡ Some j → i ≡ j
some_item i j e = cc

some_write : (v u : kept_write.Write) → (let o : Option kept_write.Write = Some v in o) ≡ Some u → v ≡ u
some_write v u e = cc

written_same : (x y : Written) → (let i : Item = WroteItem x in i) ≡ WroteItem y → x ≡ y
written_same x y e = cc

-- the first write, and then the others
one_first : (b : Folded) (w : kept_write.Write) (ws : List kept_write.Write) (r : Step) → write_step b.copy w ≡ r → (i : Item) → (with_write b r).items ≡ b.items ++ i ∷ [] → AreKept (with_write b r) ws
    → ((y : Written) → i ≡ WroteItem y → IsKept w.id y.seq (folded (with_write b r) ws).copy) → AreKept b (w ∷ ws)
one_first b w ws r step i items rest own = record {
  more = i ∷ rest.more;
  items = ap (λ (f : Folded). f.items) same ∙ (rest.items ∙ (ap (λ l. l ++ rest.more) items ∙ append_assoc b.items (i ∷ []) rest.more));
  each = at;
}
  where
    same : folded b (w ∷ ws) ≡ folded (with_write b r) ws
    same = ap (λ (s : Step). folded (with_write b s) ws) step

    at : (place : ℕ) (v : kept_write.Write) (y : Written) → slice_get (w ∷ ws) place ≡ Some v → slice_get (i ∷ rest.more) place ≡ Some (WroteItem y) → IsKept v.id y.seq (folded b (w ∷ ws)).copy
    at zero v y is was =
        subst (λ (f : Folded). IsKept v.id y.seq f.copy) (sym same) (subst (λ (u : kept_write.Write). IsKept u.id y.seq (folded (with_write b r) ws).copy) (some_write w v is) (own y (some_item i (WroteItem y) was)))
    at (suc place) v y is was = subst (λ (f : Folded). IsKept v.id y.seq f.copy) (sym same) (rest.each place v y is was)

none_at : (place : ℕ) (w : kept_write.Write) → slice_get [] place ≡ Some w → ⊥
none_at zero w e = absurd cc
none_at (suc place) w e = absurd cc

pub fold_kept : (b : Folded) (up : IsAscending (operations b.copy.records)) (ws : List kept_write.Write) → AreKept b ws
fold_kept b up [] = record { more = []; items = sym (append-nil b.items); each = λ place w y is was. absurd (none_at place w is) }
fold_kept b up (w ∷ ws) = by_step (write_step b.copy w) refl (λ e h. fold_kept e h ws)
  where
    by_step : (r : Step) → write_step b.copy w ≡ r → ((e : Folded) → IsAscending (operations e.copy.records) → AreKept e ws) → AreKept b (w ∷ ws)
    by_step (Err f) step others = one_first b w ws (Err f) step (RefusedItem f) refl (others (with_write b (Err f)) up) (λ y e. absurd cc)
    by_step (Ok s) step others =
        let one = wrote_step b.copy w s b.copy.role step in
        let later : Later s.copy b.copy = subst (λ (r : Step). IfOk r (λ x. Later x.copy b.copy)) step (write_keeps b.copy up w) in
        let e : Folded = with_write b (Ok s) in
        let o = op_of b.copy w in
        let y0 : Written = record { seq = o.seq; term = o.term; version = o.version; outcome = outcome_of (is_some (found_by b.copy w)) w.kind } in
        one_first b w ws (Ok s) step (WroteItem y0) (ap (λ (a : Answer). b.items ++ item_of a) one.1) (others e later.ascending)
        (λ y is. subst (λ n. IsKept w.id n (folded e ws).copy) (ap (λ (z : Written). z.seq) (written_same y0 y is))
        (later_kept w.id o.seq s.copy (folded e ws).copy (fold_keeps s.copy e ws (itself s.copy later.ascending)) (keeps_one b.copy up w s step)))

pub get_map : {X Y : Type 0} (f : X → Y) (xs : List X) (place : ℕ) (x : X) → slice_get xs place ≡ Some x → slice_get (map f xs) place ≡ Some (f x)
get_map f [] zero x e = absurd cc
get_map f [] (suc place) x e = absurd cc
get_map {X} {Y} f (y ∷ ys) zero x e = ap (λ (z : X). let o : Option Y = Some (f z) in o) (let same : y ≡ x = cc in same)
get_map f (y ∷ ys) (suc place) x e = get_map f ys place x e

-- a reply of a write that was kept is that of an item
pub record IsItem (is : List Item) (place : ℕ) (x : Wrote) : Type 0 where
  pub written : Written
  pub there : slice_get is place ≡ Some (WroteItem written)
  pub number : written.seq ≡ x.seq

pub item_at : (members : ℕ) (is : List Item) (place : ℕ) (x : Wrote) → slice_get (map (item_reply_of members) is) place ≡ Some (item.Wrote x) → IsItem is place x
item_at members [] zero x e = absurd cc
item_at members [] (suc place) x e = absurd cc
item_at members (WroteItem y ∷ is) zero x e = record { written = y; there = refl; number = replied (item_reply_of members (WroteItem y)) e }
  where
    seq_of : Option ItemReply → ℕ
    seq_of None = 0
    seq_of (Some (item.Wrote z)) = z.seq
    seq_of (Some (item.Refused f)) = 0

    replied : (r : ItemReply) → (let o : Option ItemReply = Some (item_reply_of members (WroteItem y)) in o) ≡ Some (item.Wrote x) → y.seq ≡ x.seq
    replied r e = ap seq_of e
item_at members (RefusedItem f ∷ is) zero x e = absurd cc
item_at members (i ∷ is) (suc place) x e = let one = item_at members is place x e in record { written = one.written; there = one.there; number = one.number }

module _ (c : Copy) (up : IsAscending (operations c.records)) (ws : List Write) (items : List ItemReply) (d : Copy) (place : ℕ) (w : Write) (x : Wrote) (is : slice_get ws place ≡ Some w) (was : slice_get items place ≡ Some (item.Wrote x)) where
  of_fold : (members : ℕ) → (let p : Copy × Reply = (d, bulked items) in p) ≡ ((folded (unwritten c) (map write_of ws)).copy, bulked (map (item_reply_of members) (folded (unwritten c) (map write_of ws)).items)) → IsKept w.id x.seq d
  of_fold members h =
      let all = fold_kept (unwritten c) up (map write_of ws) in
      let copy : d ≡ (folded (unwritten c) (map write_of ws)).copy = ap (λ (p : Copy × Reply). p.0) h in
      let told_items : items ≡ map (item_reply_of members) all.more = items_same (ap (λ (p : Copy × Reply). p.1) h) ∙ ap (map (item_reply_of members)) all.items in
      let one = item_at members all.more place x (ap (λ l. slice_get l place) (sym told_items) ∙ was) in
      let kept = all.each place (write_of w) one.written (get_map write_of ws place w is) one.there in
      subst (λ (y : Copy). IsKept w.id x.seq y) (sym copy) (subst (λ n. IsKept w.id n (folded (unwritten c) (map write_of ws)).copy) one.number kept)
    where
      items_same : {l : List ItemReply} → (let r : Reply = bulked items in r) ≡ bulked l → items ≡ l
      items_same e = cc

  by_role : (role : Role) → (d, bulked items) ≡ told c (bulk_step c (map write_of ws) role >>= λ s. Ok (s.copy, bulk_reply_of (members_of s.copy.role) s.answer)) → IsKept w.id x.seq d
  by_role Empty h = absurd (let no = ap (λ (p : Copy × Reply). p.1) h in cc)
  by_role Replica h = absurd (let no = ap (λ (p : Copy × Reply). p.1) h in cc)
  by_role (Primary lead) h = of_fold (members_of (folded (unwritten c) (map write_of ws)).copy.role) h

  pub one_of_bulk : (d, bulked items) ≡ told c (bulk_written c ws) → IsKept w.id x.seq d
  one_of_bulk h = (elim (is_bulk (length ws)) as (λ b. (d, bulked items) ≡ told c (if b then (copy_step c (bulk_of ws) >>= λ s. Ok (s.copy, bulk_reply_of (members_of s.copy.role) s.answer)) else Ok (c, refused Mismatch)) → IsKept w.id x.seq d) [
    | true ↦ by_role c.role
    | false ↦ λ e. absurd (let no = ap (λ (p : Copy × Reply). p.1) e in cc)
  ]) h
