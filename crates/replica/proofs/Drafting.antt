-- Writes of a bulk, one after another.
use Rattle.std.proofs.Common.{◌≡◌, ℕ, ◌+◌, suc, ◌<◌, ◌≤◌, ◌^◌, Bool, true, false, List, [], ◌∷◌, ◌++◌, length, Option, Some, if◌then◌else◌, refl, sym, ap, ◌∙◌, subst, append_assoc, arith}
use Rattle.std.specs.Prelude.{IfSome, IfOk, IfErr, Result, Ok, Err, not, max, map, filter}
use Rattle.std.specs.List.{AllByRecursion, filter_map}
use Rattle.std.proofs.lemmas.List.{append-nil, length-append, nil_from_length}
use Rattle.std.proofs.lemmas.List.Elements.{filter-append}
use Rattle.doc.specs.Outcome.{Fails, Gives}
use Rattle.engine.specs.Applied.{RiseFrom}
use Rattle.op.specs.Records.{AreOfOneFrame, IsOfGroup, IsRecord}
use Rattle.op.specs.declared.operation.Op.{Op}
use Rattle.op.specs.declared.record.Record.{Record}
use Rattle.op.specs.declared.record.Record.TheVariants.{Op as Kept, Resync, Recover}
use Rattle.op.specs.Format.{is_too_large}
use Rattle.op.specs.Operations.{IsAscending, op_at, next_seq}
use Rattle.op.proofs.OperationLaws.{IsAscending-placed, next_seq-above}
use Rattle.replica.specs.declared.fault.CopyFault.{CopyFault}
use Rattle.replica.specs.declared.fault.CopyFault.TheVariants.{Exhausted, NoMemory as OutOfMemory}
use Rattle.replica.specs.declared.input.Input.TheVariants.{Write as Client}
use Rattle.replica.specs.declared.input.Write.{Write}
use Rattle.replica.specs.declared.output.Item.TheVariants.{Refused as RefusedItem}
use Rattle.replica.specs.declared.output.Outcome.{Outcome}
use Rattle.replica.specs.declared.planned.PlannedAll.{PlannedAll}
use Rattle.replica.specs.declared.planned.Settled.{Settled}
use Rattle.replica.specs.declared.prepared.Prepared.{Prepared}
use Rattle.replica.specs.Logged.{prepared_step}
use Rattle.replica.specs.declared.role.Lead.{Lead}
use Rattle.replica.specs.declared.role.Role.TheVariants.{Primary}
use Rattle.replica.specs.declared.state.drafting.Draft.{Draft}
use Rattle.replica.specs.Copy.{Copy, operations}
use Rattle.replica.specs.Drafted.{IsDrafted, RiseTo, drafted, folding}
use Rattle.replica.specs.Fault.{fault_of}
use Rattle.replica.specs.Planned.{IsNextOp, IsPlannedAll, stepped_all_by, turned, write_gives}
use Rattle.replica.specs.Standing.{IsStanding, IsSettled, placed_all}
use Rattle.replica.specs.Writes.{AreOfOneBulk}
use Rattle.replica.specs.Step.{Folded, Stepped, members_of, stepped, Step, acknowledged, copy_step, item_of, counted_by, done, folded, is_settled_by, keeping, led, op_messages, op_of, outcome_of, found_by, pending, record_of, with_own_op, with_write, write_faults, first_fault, write_step, wrote}
use Rattle.checkpoint.specs.Numbers.{least}
use Rattle.std.specs.Prelude.{is_some}
use Rattle.replica.proofs.Settling.{large_or, leads, led_stands}
use Rattle.replica.proofs.WriteLaws.{is_free, is_record, next_after, operations_after, own, gives_least, placed_last, write_passed, write_refused}

-- ---- numbers that rise

pub rise_from : (n m : ℕ) (rs : List Record) → RiseTo n rs m → RiseFrom n rs
rise_from n m [] h = tt
rise_from n m (Kept g o ∷ rs) h = (h.0, h.1, rise_from (suc o.seq) m rs h.2)
rise_from n m (Resync term g tail ∷ rs) h = absurd h
rise_from n m (Recover term all ∷ rs) h = absurd h

pub rise_more : (n m : ℕ) (rs : List Record) (r : Record) (k : ℕ) → RiseTo n rs m → RiseTo m (r ∷ []) k → RiseTo n (rs ++ r ∷ []) k
rise_more n m [] (Kept g o) k h one = let le : n ≤ m = h in let up : m ≤ o.seq = one.1 in (one.0, omega (arith, le, up), one.2)
rise_more n m [] (Resync term g tail) k h one = absurd one
rise_more n m [] (Recover term all) k h one = absurd one
rise_more n m (Kept g o ∷ rs) r k h one = (h.0, h.1, rise_more (suc o.seq) m rs r k h.2 one)
rise_more n m (Resync term g tail ∷ rs) r k h one = absurd h
rise_more n m (Recover term all ∷ rs) r k h one = absurd h

-- the numbers of those behind are below the next of all
next_seq-behind : (os ps : List Op) → next_seq ps ≤ next_seq (os ++ ps)
next_seq-behind [] ps = omega arith
next_seq-behind (o ∷ []) [] = omega arith
next_seq-behind (o ∷ []) (p ∷ ps) = omega arith
next_seq-behind (o ∷ q ∷ os) ps = next_seq-behind (q ∷ os) ps

pub ahead_below : (c : Copy) (d : Draft) (o : Op) → IsDrafted c d → IsNextOp (drafted c d) d.lead o → next_seq d.ahead ≤ o.seq
ahead_below c d o h is =
    let le : next_seq d.ahead ≤ next_seq (operations c ++ d.ahead) = next_seq-behind (operations c) d.ahead in
    let same : next_seq (operations (drafted c d)) ≡ next_seq (operations c ++ d.ahead) = ap next_seq h.ahead in
    omega (arith, le, same, is.next)

all_small : (rs : List Record) (r : Record) → AllByRecursion (λ x. is_too_large x ≡ false) rs → is_too_large r ≡ false → AllByRecursion (λ x. is_too_large x ≡ false) (rs ++ r ∷ [])
all_small [] r all one = (one, tt)
all_small (x ∷ rs) r all one = (all.0, all_small rs r all.1 one)

-- ---- what the write of a next operation leaves

-- one pending write more, or none where it is settled
abbrev pub lead_with : Bool → Lead → ℕ → Lead
lead_with true lead n = lead
lead_with false lead n = record lead { pending = lead.pending ++ n ∷ [] }

abbrev pub acknowledged_by : Bool → Op → List Op
acknowledged_by true o = o ∷ []
acknowledged_by false o = []

rest_of : (p : ℕ → Bool) (ns : List ℕ) (n : ℕ) → filter (λ m. not (p m)) ns ≡ ns → filter (λ m. not (p m)) (ns ++ n ∷ []) ≡ (if p n then ns else ns ++ n ∷ [])
rest_of p ns n rest = filter-append (λ m. not (p m)) ns (n ∷ []) ∙ ap (λ (ms : List ℕ). ms ++ filter (λ m. not (p m)) (n ∷ [])) rest ∙ on (p n)
  where
    on : (b : Bool) → ns ++ (if not b then n ∷ [] else []) ≡ (if b then ns else ns ++ n ∷ [])
    on true = append-nil ns
    on false = refl

none_of : (p : ℕ → Bool) (ns : List ℕ) (n : ℕ) → filter p ns ≡ [] → filter p (ns ++ n ∷ []) ≡ (if p n then n ∷ [] else [])
none_of p ns n none = filter-append p ns (n ∷ []) ∙ ap (λ (ms : List ℕ). ms ++ filter p (n ∷ [])) none

found_if : (f : ℕ → Option Op) (b : Bool) (o : Op) → f o.seq ≡ Some o → filter_map f (if b then o.seq ∷ [] else []) ≡ acknowledged_by b o
found_if f true o is = rw is refl
found_if f false o is = refl

lead_if : (b : Bool) (lead : Lead) (n : ℕ) → (let l : Lead = record lead { pending = (if b then lead.pending else lead.pending ++ n ∷ []) } in l) ≡ lead_with b lead n
lead_if true lead n = refl
lead_if false lead n = refl

module _ (c : Copy) (lead : Lead) (o : Op) (is : IsNextOp c lead o) (stands : IsStanding c) where
  abbrev is_all : Bool
  is_all = is_settled_by c.id lead o.seq

  settles : IsSettled c lead
  settles = (leads c lead stands is.primary).settled

  pub gives_lead : led (with_own_op c lead o) (pending lead o) ≡ (let s : Copy = record (keeping c (record_of c o)) { known = max c.known (least (map (counted_by c.id (o.seq + 1) lead) lead.members)); role = Primary (lead_with is_all lead o.seq) } in s)
  gives_lead =
      let rest = rest_of (is_settled_by c.id lead) lead.pending o.seq settles.rest in
      rw (sym (gives_least c lead o is), rest, lead_if is_all lead o.seq) refl

  pub gives_acknowledged : acknowledged (with_own_op c lead o) (pending lead o) ≡ acknowledged_by is_all o
  gives_acknowledged =
      let none = none_of (is_settled_by c.id lead) lead.pending o.seq settles.none in
      rw none (found_if (op_at (operations (with_own_op c lead o))) is_all o (own c lead o is))

  pub stands_after : o.seq < 2 ^ 63 → IsStanding (led (with_own_op c lead o) (pending lead o))
  stands_after small =
      let l = leads c lead stands is.primary in
      let most : next_seq (operations (with_own_op c lead o)) ≤ 2 ^ 63 = omega (arith, next_after c lead o is) in
      led_stands (with_own_op c lead o) (pending lead o) stands.small_term stands.small_known l.first l.member most

-- ---- the draft with it

module _ (c : Copy) (d : Draft) (e : Draft) (o : Op) (h : IsDrafted c d) (is : IsNextOp (drafted c d) d.lead o)
    (kept : e.records.items ≡ d.records.items ++ record_of (drafted c d) o ∷ [])
    (known : e.known ≡ max d.known (least (map (counted_by c.id (o.seq + 1) d.lead) d.lead.members)))
    (next : e.next ≡ o.seq + 1)
    (leads_on : e.lead ≡ lead_with (is_settled_by c.id d.lead o.seq) d.lead o.seq)
    (ahead : e.ahead ≡ d.ahead ++ o ∷ []) where
  pub copy_after : drafted c e ≡ led (with_own_op (drafted c d) d.lead o) (pending d.lead o)
  copy_after = rw (kept, known, leads_on, sym (append_assoc c.records d.records.items (record_of (drafted c d) o ∷ []))) (sym (gives_lead (drafted c d) d.lead o is h.standing))

  abbrev after : Copy
  after = with_own_op (drafted c d) d.lead o

  same_operations : operations (drafted c e) ≡ operations after
  same_operations = ap operations copy_after

  below : AllByRecursion (λ p. p.seq < o.seq) (operations (drafted c d))
  below = rw is.next (next_seq-above (operations (drafted c d)) is.up)

  all_after : operations (drafted c e) ≡ operations (drafted c d) ++ o ∷ []
  all_after = same_operations ∙ operations_after (drafted c d) d.lead o is ∙ placed_last (operations (drafted c d)) o below

  up_after : IsAscending (operations (drafted c e))
  up_after = subst (λ (os : List Op). IsAscending os) (sym (same_operations ∙ operations_after (drafted c d) d.lead o is)) (IsAscending-placed (operations (drafted c d)) o (is_free (drafted c d) d.lead o is) is.up)

  rises : RiseTo d.next (record_of (drafted c d) o ∷ []) e.next
  rises =
      let from : d.next ≤ o.seq = omega (arith, h.next, is.next) in
      let to : suc o.seq ≤ e.next = omega (arith, next) in
      ((is_record (drafted c d) d.lead o is, is.is, is.writes), from, to)

  pub is_drafted : is_too_large (record_of (drafted c d) o) ≡ false → length e.items.items ≡ suc (length d.items.items) → IsDrafted c e
  is_drafted fits one =
      let more : length e.records.items ≡ length d.records.items + 1 = rw kept (length-append d.records.items (record_of (drafted c d) o ∷ [])) in
      record {
        rise = subst (λ (rs : List Record). RiseTo (next_seq (operations c)) rs e.next) (sym kept) (rise_more (next_seq (operations c)) d.next d.records.items (record_of (drafted c d) o) e.next h.rise rises);
        next = next ∙ sym (ap next_seq same_operations ∙ next_after (drafted c d) d.lead o is);
        up = up_after;
        ahead = all_after ∙ ap (λ (os : List Op). os ++ o ∷ []) h.ahead ∙ append_assoc (operations c) d.ahead (o ∷ []) ∙ ap (λ (os : List Op). operations c ++ os) (sym ahead);
        standing = subst (λ (x : Copy). IsStanding x) (sym copy_after) (stands_after (drafted c d) d.lead o is h.standing is.is.small_seq);
        small = rw kept (all_small d.records.items (record_of (drafted c d) o) h.small fits);
        few = omega (arith, h.few, one, more);
      }

  pub gives_one : (outcome : Outcome) → e.items.items ≡ d.items.items ++ item_of (wrote o outcome) → e.sent.items ≡ d.sent.items ++ op_messages (drafted c d) d.lead o
      → e.acknowledged.items ≡ d.acknowledged.items ++ acknowledged_by (is_settled_by c.id d.lead o.seq) o → folding c e ≡ with_write (folding c d) (Ok (write_gives (drafted c d) d.lead o outcome))
  gives_one outcome items sent all = rw (copy_after, items, sent, all, gives_acknowledged (drafted c d) d.lead o is h.standing) refl

-- ---- what a write gives

-- a refusal is told as it is
pub refused_as : (c : Copy) (w : Write) (lead : Lead) (e : CopyFault) → c.role ≡ Primary lead → fault_of e ≡ Some e → Fails fault_of e (first_fault (write_faults c w)) → write_step c w ≡ Err e
refused_as c w lead e is told fails = subst (λ (f : Option CopyFault). IfSome f (λ x. copy_step c (Client w) ≡ Err x)) told (write_refused c lead w e is fails)

pub given_as : (c : Copy) (w : Write) (lead : Lead) → c.role ≡ Primary lead → first_fault (write_faults c w) ≡ Ok tt → is_too_large (record_of c (op_of c w)) ≡ false
    → write_step c w ≡ Ok (write_gives c lead (op_of c w) (outcome_of (is_some (found_by c w)) w.kind))
given_as c w lead is none small =
    let last : Step = done (with_own_op c lead (op_of c w)) (wrote (op_of c w) (outcome_of (is_some (found_by c w)) w.kind)) (op_messages c lead (op_of c w)) in
    write_passed c lead w tt is none ∙ large_or (record_of c (op_of c w)) last false small

pub large_as : (c : Copy) (w : Write) (lead : Lead) → c.role ≡ Primary lead → first_fault (write_faults c w) ≡ Ok tt → is_too_large (record_of c (op_of c w)) ≡ true → write_step c w ≡ Err Exhausted
large_as c w lead is none large =
    let last : Step = done (with_own_op c lead (op_of c w)) (wrote (op_of c w) (outcome_of (is_some (found_by c w)) w.kind)) (op_messages c lead (op_of c w)) in
    write_passed c lead w tt is none ∙ large_or (record_of c (op_of c w)) last true large

-- a copy to which nothing was done yet
pub undrafted : (c : Copy) (d : Draft) → c.role ≡ Primary d.lead → d.records.items ≡ [] → d.known ≡ c.known → drafted c d ≡ c
undrafted c d is none known = rw (none, known, append-nil c.records, sym is) refl

-- ---- a write that is refused

pub both_ok : {A E : Type 0} {P Q R : A → Type 0} (r : Result A E) → IfOk r P → IfOk r Q → ((a : A) → P a → Q a → R a) → IfOk r R
both_ok (Ok a) p q h = h a p q
both_ok (Err e) p q h = tt

module _ (c : Copy) (d : Draft) (f : CopyFault) (e : Draft) (items : e.items.items ≡ d.items.items ++ RefusedItem f ∷ []) (same : (let x : Draft = record e { items = d.items } in x) ≡ d) where
  pub refused_folds : folding c e ≡ with_write (folding c d) (Err f)
  refused_folds = rw (items, ap (λ (x : Draft). x.records.items) same, ap (λ (x : Draft). x.known) same, ap (λ (x : Draft). x.lead) same, ap (λ (x : Draft). x.sent.items) same, ap (λ (x : Draft). x.acknowledged.items) same) refl

  pub refused_one : length e.items.items ≡ suc (length d.items.items)
  refused_one = let more : length e.items.items ≡ length d.items.items + 1 = rw items (length-append d.items.items (RefusedItem f ∷ [])) in omega (arith, more)

  pub refused_drafted : IsDrafted c d → IsDrafted c e
  refused_drafted h =
      let as_it_was : drafted c e ≡ drafted c d = rw (ap (λ (x : Draft). x.records.items) same, ap (λ (x : Draft). x.known) same, ap (λ (x : Draft). x.lead) same) refl in
      let records : e.records.items ≡ d.records.items = ap (λ (x : Draft). x.records.items) same in
      let next : e.next ≡ d.next = ap (λ (x : Draft). x.next) same in
      let length_is : length e.records.items ≡ length d.records.items = ap length records in
      record {
        rise = rw (records, next) h.rise;
        next = next ∙ h.next ∙ sym (ap (λ (x : Copy). next_seq (operations x)) as_it_was);
        up = subst (λ (x : Copy). IsAscending (operations x)) (sym as_it_was) h.up;
        ahead = ap operations as_it_was ∙ h.ahead ∙ ap (λ (x : Draft). operations c ++ x.ahead) (sym same);
        standing = subst (λ (x : Copy). IsStanding x) (sym as_it_was) h.standing;
        small = rw records h.small;
        few = omega (arith, h.few, length_is, refused_one);
      }

-- ---- a bulk underway

-- the draft after some writes of a bulk, and the writes that are left
pub record IsUnderway (c : Copy) (first : Draft) (ws : List Write) (d : Draft) (left : List Write) (n : ℕ) : Type 0 where
  pub many : n ≡ length left
  pub folds : folded (folding c d) left ≡ folded (folding c first) ws
  pub drafted : IsDrafted c d
  pub count : length d.items.items + length left ≡ length ws

pub underway_first : (c : Copy) (d : Draft) (ws left : List Write) (n : ℕ) → n ≡ length left → left ≡ ws → IsDrafted c d → d.items.items ≡ [] → IsUnderway c d ws d left n
underway_first c d ws left n many all h none = record { many = many; folds = ap (folded (folding c d)) all; drafted = h; count = let no : length d.items.items ≡ 0 = ap length none in let same : length left ≡ length ws = ap length all in omega (arith, no, same) }

pub underway_more : (c : Copy) (first : Draft) (ws : List Write) (d e : Draft) (w : Write) (left rest : List Write) (n k : ℕ) → left ≡ w ∷ rest → k + 1 ≡ n → IsUnderway c first ws d left n
    → folding c e ≡ with_write (folding c d) (write_step (drafted c d) w) → IsDrafted c e → length e.items.items ≡ suc (length d.items.items) → IsUnderway c first ws e rest k
underway_more c first ws d e w left rest n k on next h folds up one =
    let count : length left ≡ suc (length rest) = ap length on in
    record {
      many = omega (arith, next, h.many, count);
      folds = ap (λ (b : Folded). folded b rest) folds ∙ sym (ap (folded (folding c d)) on) ∙ h.folds;
      drafted = up;
      count = omega (arith, h.count, one, count);
    }

pub underway_done : (c : Copy) (first : Draft) (ws : List Write) (d : Draft) (left : List Write) (n : ℕ) → n ≡ 0 → IsUnderway c first ws d left n → folding c d ≡ folded (folding c first) ws
underway_done c first ws d left n none h = sym (ap (folded (folding c d)) (nil_from_length left (sym h.many ∙ none))) ∙ h.folds

pub underway_few : (c : Copy) (first : Draft) (ws : List Write) (d : Draft) (left : List Write) (n : ℕ) → AreOfOneBulk ws → IsUnderway c first ws d left n → length d.items.items ≤ 1024
underway_few c first ws d left n few h = let most : length ws ≤ 1024 = few.few in omega (arith, h.count, most)

-- ---- what is ready

pub all_planned : (c : Copy) (d : Draft) (p : PlannedAll) → IsDrafted c d → length d.items.items ≤ 1024 → p.records ≡ d.records → p.known ≡ d.known → p.role ≡ Primary d.lead → p.output.members ≡ length d.lead.members → IsPlannedAll c p
all_planned c d p h most records known role members =
    record {
      rise = rw records (rise_from (next_seq (operations c)) d.next d.records.items h.rise);
      few = rw records (let few = h.few in omega (arith, few, most));
      small = rw records h.small;
      standing = rw (records, known, role) h.standing;
      members = members ∙ sym (ap members_of role);
    }

-- ---- records that are kept together

each_of_group : (n : ℕ) (rs : List Record) → RiseFrom n rs → AllByRecursion IsOfGroup rs
each_of_group n [] h = tt
each_of_group n (Kept g o ∷ rs) h = (h.0, each_of_group (suc o.seq) rs h.2)
each_of_group n (Resync term g tail ∷ rs) h = absurd h
each_of_group n (Recover term all ∷ rs) h = absurd h

pub each_record : (n : ℕ) (rs : List Record) → RiseFrom n rs → AllByRecursion IsRecord rs
each_record n [] h = tt
each_record n (Kept g o ∷ rs) h = (h.0, each_record (suc o.seq) rs h.2)
each_record n (Resync term g tail ∷ rs) h = absurd h
each_record n (Recover term all ∷ rs) h = absurd h

-- they make one frame
pub one_frame : (n : ℕ) (rs : List Record) → RiseFrom n rs → 0 < length rs → length rs ≤ 1024 → AreOfOneFrame rs
one_frame n [] h some few = absurd (omega (arith, some))
one_frame n (r ∷ []) h some few = (each_record n (r ∷ []) h).0
one_frame n (r ∷ s ∷ rs) h some few = record { several = omega arith; few = few; each = each_of_group n (r ∷ s ∷ rs) h }

-- one of them alone isn't too large
pub not_large : (rs : List Record) → AllByRecursion (λ x. is_too_large x ≡ false) rs → (r : Record) × (rs ≡ r ∷ []) × (is_too_large r ≡ true) → ⊥
not_large rs all found =
    let one : is_too_large found.0 ≡ false = (subst (λ (xs : List Record). AllByRecursion (λ x. is_too_large x ≡ false) xs) found.1 all).0 in
    let both : true ≡ false = sym found.2 ∙ one in absurd cc

-- a bulk that keeps none is a step of a primary without a record
pub none_kept : (c : Copy) (p : PlannedAll) (s : Settled) → p.records.items ≡ [] → s.known ≡ p.known → s.role ≡ p.role → s.output ≡ p.output → stepped (turned c s) s.output ≡ stepped_all_by c p
none_kept c p s none known role output = rw (none, known, role, output, append-nil c.records) refl

pub none_stands : (c : Copy) (p : PlannedAll) (s : Settled) → p.records.items ≡ [] → s.known ≡ p.known → s.role ≡ p.role → IsStanding (placed_all c p.records.items p.known p.role) → IsStanding (turned c s)
none_stands c p s none known role stands = rw (known, role) (rw (none, append-nil c.records) at stands)

-- the step of a bulk that is ready
pub all_recorded : (c : Copy) (p : PlannedAll) (r : Result Prepared CopyFault) (step : Step) → step ≡ Ok (stepped_all_by c p) → IfOk r (λ q. prepared_step c q ≡ stepped_all_by c p) → IfErr r (λ e. e ≡ OutOfMemory) → Gives fault_of (prepared_step c) r step
all_recorded c p (Ok q) step is gives memory = is ∙ ap (λ (s : Stepped). let a : Step = Ok s in a) (sym gives)
all_recorded c p (Err e) step is gives memory = subst (λ (x : CopyFault). Fails fault_of x step) (sym memory) tt
