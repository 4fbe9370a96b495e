-- A write that is accepted: what it asks, and what is there after it.
use Rattle.std.proofs.Common.{◌≡◌, ℕ, ◌+◌, zero, suc, ◌<◌, ◌≤◌, ◌^◌, Bool, true, false, List, [], ◌∷◌, ◌++◌, Option, Some, None, option_map, is_some, if◌then◌else◌, negsuc, refl, sym, ap, ◌∙◌, subst, arith}
use Rattle.std.specs.Prelude.{⊤, IfSome, Result, Ok, Err, not, ◌&&◌, ◌==◌, ◌≤ℤ◌, nat_lt, nat_le, map, filter}
use Rattle.std.specs.List.{AllByRecursion, filter_map}
use Rattle.std.proofs.lemmas.Bool.Decides.{nat_tests}
use Rattle.std.proofs.lemmas.Int.{ints}
use Rattle.doc.specs.Id.{Id}
use Rattle.op.specs.declared.operation.Op.{Op}
use Rattle.op.specs.declared.operation.Body.{Body}
use Rattle.op.specs.declared.operation.Body.TheVariants.{Index as Indexed, Delete as Deleted, NoOp}
use Rattle.op.specs.Checkpoint.{checkpoint_of, known}
use Rattle.op.specs.Operations.{IsAscending, op_at, placed, next_seq, last_on, next_version}
use Rattle.op.specs.Documents.{document_of, left_by}
use Rattle.op.proofs.OperationLaws.{add-free, op_at-next_seq, op_at-placed, next_seq-above, next_seq-push}
use Rattle.op.proofs.RecordLaws.{operations-Op}
use Rattle.engine.specs.Last.{last_of}
use Rattle.replica.specs.declared.input.Condition.{Condition}
use Rattle.replica.specs.declared.input.OpType.{OpType}
use Rattle.replica.specs.declared.input.OpType.TheVariants.{Index, Create, Delete}
use Rattle.replica.specs.declared.input.Write.{Write}
use Rattle.replica.specs.declared.role.Lead.{Lead}
use Rattle.replica.specs.declared.role.Role.{Role}
use Rattle.replica.specs.declared.role.Role.TheVariants.{Primary}
use Rattle.replica.specs.Copy.{Copy, operations}
use Rattle.replica.specs.LastView.{version_of, is_live, is_met_by, is_allowed_by}
use Rattle.replica.specs.declared.input.Input.TheVariants.{Write as Client}
use Rattle.replica.specs.declared.output.Outcome.{Outcome}
use Rattle.replica.specs.declared.planned.Planned.{Planned}
use Rattle.op.specs.Format.{is_too_large}
use Rattle.replica.specs.Planned.{IsNextOp, IsPlanned, led_by, op_with, settled_by, spelled, stepped_by, with_record, write_gives}
use Rattle.replica.proofs.Settling.{leads, led_stands, spelled_step}
use Rattle.replica.specs.Fault.{fault_of}
use Rattle.replica.specs.declared.fault.CopyFault.{CopyFault}
use Rattle.replica.specs.declared.fault.CopyFault.TheVariants.{VersionConflict, WindowFull, Exhausted}
use Rattle.doc.specs.Outcome.{Fails, Gives}
use Rattle.op.specs.declared.record.Record.{Record}
use Rattle.replica.specs.Standing as standing
use Rattle.op.specs.Records.{IsVersion, IsWrite}
use Rattle.replica.specs.Step.{Step, Stepped, body_of, copy_step, is_number, unless, first_fault, write_faults, write_faults_by, wrote, outcome_of, found_by, is_met, is_allowed, record_of, with_own_op, pending, done, settled, spellable, led, op_of, op_messages, counted, counted_by, is_settled_by}
use Rattle.checkpoint.specs.Numbers.{least}

-- ---- what a write asks

pub version_of-last : (o : Option Op) → version_of (option_map last_of o) ≡ next_version o
version_of-last None = refl
version_of-last (Some o) = refl

pub is_live-last : (o : Option Op) → is_live (option_map last_of o) ≡ is_some (document_of o)
is_live-last None = refl
is_live-last (Some o) = refl

met_by : (o : Op) (b : Body) (condition : Condition) →
    (is_some (left_by o b) && ((o.seq == condition.seq) && (o.term == condition.term))) ≡ is_met (left_by o b) (Some condition)
met_by o (Indexed id source) condition = refl
met_by o (Deleted id) condition = refl
met_by o NoOp condition = refl

is_met-last : (o : Option Op) (condition : Option Condition) → is_met_by (option_map last_of o) condition ≡ is_met (document_of o) condition
is_met-last None None = refl
is_met-last (Some o) None = refl
is_met-last None (Some condition) = refl
is_met-last (Some o) (Some condition) = met_by o o.body condition

pub is_allowed-last : (o : Option Op) (kind : OpType) → is_allowed_by (option_map last_of o) kind ≡ is_allowed (document_of o) kind
is_allowed-last o (Index source condition) = is_met-last o condition
is_allowed-last o (Create source) = ap not (is_live-last o)
is_allowed-last o (Delete condition) = is_met-last o condition

pub faults-last : (c : Copy) (w : Write) → write_faults_by (is_allowed_by (option_map last_of (last_on (operations c) w.id)) w.kind) c.known (next_seq (operations c)) (version_of (option_map last_of (last_on (operations c) w.id))) ≡ write_faults c w
faults-last c w = rw (is_allowed-last (last_on (operations c) w.id) w.kind, version_of-last (last_on (operations c) w.id)) refl

pub known-checkpoint : (n : ℕ) → known (checkpoint_of n) ≡ n
known-checkpoint zero = refl
known-checkpoint (suc n) = refl

at_least : (n : ℕ) → negsuc 0 ≤ℤ checkpoint_of n
at_least zero = omega (arith, ints)
at_least (suc n) = omega (arith, ints)

-- ---- what is there after it

pub placed_last : (os : List Op) (o : Op) → AllByRecursion (λ p. p.seq < o.seq) os → placed os o ≡ os ++ o ∷ []
placed_last [] o all = refl
placed_last (p ∷ ps) o all = let h : p.seq < o.seq = all.0 in grind (arith, nat_tests, placed_last ps o all.1)

module _ (c : Copy) (lead : Lead) (o : Op) (is : IsNextOp c lead o) where
  pub is_free : op_at (operations c) o.seq ≡ None
  is_free = rw is.next (op_at-next_seq (operations c) is.up)

  pub operations_after : operations (with_own_op c lead o) ≡ placed (operations c) o
  operations_after = operations-Op c.records (checkpoint_of c.known) o ∙ add-free (operations c) o is_free

  pub next_after : next_seq (operations (with_own_op c lead o)) ≡ o.seq + 1
  next_after =
      let below : AllByRecursion (λ p. p.seq < o.seq) (operations c) = rw is.next (next_seq-above (operations c) is.up) in
      rw (operations_after, placed_last (operations c) o below) (next_seq-push (operations c) o ∙ omega arith)

  pub own : op_at (operations (with_own_op c lead o)) o.seq ≡ Some o
  own = rw operations_after (op_at-placed (operations c) o o.seq is_free ∙ grind (arith, nat_tests))

  abbrev after : Copy
  after = with_own_op c lead o

  pub is_record : negsuc 0 ≤ℤ checkpoint_of c.known
  is_record = at_least c.known

  pub gives_least : least (map (counted_by c.id (o.seq + 1) (pending lead o)) lead.members) ≡ least (map (counted after (pending lead o)) lead.members)
  gives_least = ap (λ (n : ℕ). least (map (counted_by c.id n (pending lead o)) lead.members)) (sym next_after)

  -- what the write leaves, as it is found
  abbrev found : Outcome → Planned
  found outcome = with_record (settled_by (led_by c (pending lead o) (o.seq + 1) (Some o)) (wrote o outcome) (op_messages c lead o)) (record_of c o) c.term

  is_next : standing.IsStanding c → (outcome : Outcome) → standing.IsNext c (record_of c o) c.term (found outcome).known (found outcome).role
  is_next stands outcome =
      let small : o.seq < 2 ^ 63 = is.is.small_seq in
      let l = leads c lead stands is.primary in
      let most : next_seq (operations after) ≤ 2 ^ 63 = omega (arith, next_after) in
      rw gives_least (record {
        is = (is_record, is.is, is.writes);
        fresh = is_free;
        standing = led_stands after (pending lead o) stands.small_term stands.small_known l.first l.member most;
      })

  pub write_planned : standing.IsStanding c → (outcome : Outcome) → IsPlanned c (found outcome)
  write_planned stands outcome = record { next = is_next stands outcome; members = refl }

  op_at-after : (n : ℕ) → op_at (operations after) n ≡ op_with (operations c) o n
  op_at-after n = rw operations_after (op_at-placed (operations c) o n is_free)

  -- what the write gives
  pub write_found : (outcome : Outcome) → stepped_by c (found outcome) ≡ write_gives c lead o outcome
  write_found outcome = sym (rw gives_least (ap (λ (f : ℕ → Option Op). let s : Stepped = record {
    copy = led after (pending lead o);
    answer = wrote o outcome;
    sent = op_messages c lead o;
    acknowledged = filter_map f (filter (is_settled_by c.id (pending lead o)) (pending lead o).pending);
  } in s) (λ i n. op_at-after n i)))

-- ---- what a write is refused for

fault_front : (fs : List (Bool × CopyFault)) (x : Bool × CopyFault) (e : CopyFault) → first_fault fs ≡ Err e → first_fault (fs ++ x ∷ []) ≡ Err e
fault_front [] x e h = absurd cc
fault_front (f ∷ fs) x e h =
    elim f.0 as (λ b. (let r : Result ⊤ CopyFault = if b then Err f.1 else first_fault fs in r) ≡ Err e → (let r : Result ⊤ CopyFault = if b then Err f.1 else first_fault (fs ++ x ∷ []) in r) ≡ Err e) [
      | true ↦ λ same. same
      | false ↦ λ rest. fault_front fs x e rest
    ] h

fault_end : (fs : List (Bool × CopyFault)) (x : Bool × CopyFault) (u : ⊤) → first_fault fs ≡ Ok u → first_fault (fs ++ x ∷ []) ≡ first_fault (x ∷ [])
fault_end [] x u h = refl
fault_end (f ∷ fs) x u h =
    elim f.0 as (λ b. (let r : Result ⊤ CopyFault = if b then Err f.1 else first_fault fs in r) ≡ Ok u → (let r : Result ⊤ CopyFault = if b then Err f.1 else first_fault (fs ++ x ∷ []) in r) ≡ first_fault (x ∷ [])) [
      | true ↦ λ same. absurd cc
      | false ↦ λ rest. fault_end fs x u rest
    ] h

-- the fault of the size
abbrev size : Copy → Write → Bool × CopyFault
size c w = (is_too_large (record_of c (op_of c w)), Exhausted)

-- a write that isn't planned is refused for the same
pub write_refused : (c : Copy) (lead : Lead) (w : Write) (e : CopyFault) → c.role ≡ Primary lead → Fails fault_of e (first_fault (write_faults c w)) → Fails fault_of e (copy_step c (Client w))
unfolding unless
write_refused c lead w e is refused =
    elim (fault_of e) as (λ f. IfSome f (λ x. first_fault (write_faults c w) ≡ Err x) → IfSome f (λ x. copy_step c (Client w) ≡ Err x)) [
      | None ↦ λ h. tt
      | Some f ↦ λ h. rw (is, fault_front (write_faults c w) (size c w) f h) refl
    ] refused

-- and where there is no fault, it is refused for its size alone
pub write_passed : (c : Copy) (lead : Lead) (w : Write) (u : ⊤) → c.role ≡ Primary lead → first_fault (write_faults c w) ≡ Ok u →
    copy_step c (Client w) ≡ settled (unless (spellable (record_of c (op_of c w))) (done (with_own_op c lead (op_of c w)) (wrote (op_of c w) (outcome_of (is_some (found_by c w)) w.kind)) (op_messages c lead (op_of c w))))
unfolding unless
write_passed c lead w u is none = rw (is, fault_end (write_faults c w) (size c w) u none) refl

pub write_spelled : (c : Copy) (lead : Lead) (w : Write) (u : ⊤) (p : Planned) (r : Result Planned CopyFault) → c.role ≡ Primary lead → first_fault (write_faults c w) ≡ Ok u → p.next_record ≡ record_of c (op_of c w)
    → stepped_by c p ≡ write_gives c lead (op_of c w) (outcome_of (is_some (found_by c w)) w.kind) → Gives fault_of (λ (x : Planned). x) r (spelled p) → Gives fault_of (stepped_by c) r (copy_step c (Client w))
write_spelled c lead w u p r is none same gives sized =
    let last : Step = done (with_own_op c lead (op_of c w)) (wrote (op_of c w) (outcome_of (is_some (found_by c w)) w.kind)) (op_messages c lead (op_of c w)) in
    subst (λ (step : Step). Gives fault_of (stepped_by c) r step) (ap (λ (x : Record). settled (unless (spellable x) last)) same ∙ sym (write_passed c lead w u is none))
    (spelled_step c p r last sized (ap (λ (s : Stepped). let step : Step = Ok s in step) (sym gives)))

three : (a b p q : Bool) (f g h : CopyFault) (u : ⊤) → (let r : Result ⊤ CopyFault = if a then Err f else (if b then Err g else (if not (p && q) then Err h else Ok tt)) in r) ≡ Ok u → (p ≡ true) × (q ≡ true)
three true b p q f g h u e = absurd cc
three false true p q f g h u e = absurd cc
three false false true true f g h u e = (refl, refl)
three false false true false f g h u e = absurd cc
three false false false q f g h u e = absurd cc

is_version : (id : Id) (kind : OpType) (version : ℕ) → 0 < version → IsVersion (body_of id kind) version
is_version id (Index source condition) version h = h
is_version id (Create source) version h = h
is_version id (Delete condition) version h = h

is_write : (id : Id) (kind : OpType) → IsWrite (body_of id kind)
is_write id (Index source condition) = tt
is_write id (Create source) = tt
is_write id (Delete condition) = tt

version_first : (o : Option Op) → 0 < next_version o
version_first None = omega arith
version_first (Some o) = omega arith

-- the operation of a write that is accepted is a primary's next one
pub next_op : (c : Copy) (lead : Lead) (w : Write) (u : ⊤) → standing.IsStanding c → c.role ≡ Primary lead → IsAscending (operations c) → first_fault (write_faults c w) ≡ Ok u → IsNextOp c lead (op_of c w)
next_op c lead w u stands is up none =
    let small = three (not (is_allowed (found_by c w) w.kind)) (nat_le (c.known + 1024) (op_of c w).seq) (is_number (next_seq (operations c))) (is_number (next_version (last_on (operations c) w.id))) VersionConflict WindowFull Exhausted u none in
    let seq : nat_lt (next_seq (operations c)) (2 ^ 63) ≡ true = small.0 in
    let version : nat_lt (next_version (last_on (operations c) w.id)) (2 ^ 63) ≡ true = small.1 in
    let leads : standing.Leads c lead = subst (λ (r : Role). standing.IsLed c r) is stands.led in
    record {
      primary = is;
      up = up;
      next = refl;
      is = record {
        small_seq = grind (arith, nat_tests);
        first_term = leads.first;
        small_term = stands.small_term;
        first_version = is_version w.id w.kind (next_version (last_on (operations c) w.id)) (version_first (last_on (operations c) w.id));
        small_version = grind (arith, nat_tests);
      };
      writes = is_write w.id w.kind;
    }
