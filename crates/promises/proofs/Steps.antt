-- What a step of the one copy of an index keeps.
use Rattle.std.proofs.Common.{◌≡◌, ◌<◌, ◌≤◌, ℕ, ℤ, Bool, true, false, List, [], ◌∷◌, ◌++◌, length, Some, None, Ok, Err, IfOk, refl, sym, ap, subst, ◌∙◌, arith, length-append}
use Rattle.std.specs.Prelude.{◌==◌, nat_lt, nat_le, take, if◌then◌else◌}
use Rattle.std.specs.Option.{option_or}
use Rattle.std.proofs.lemmas.Bool.Decides.{nat_tests}
use Rattle.doc.specs.Outcome.{◌>>=◌}
use Rattle.op.specs.declared.operation.Op.{Op}
use Rattle.op.specs.declared.record.Record.{Record}
use Rattle.op.specs.declared.record.Record.TheVariants.{Op as Kept}
use Rattle.op.specs.declared.message.Content.{Content}
use Rattle.op.specs.declared.message.Content.TheVariants.{Promoted}
use Rattle.op.specs.Checkpoint.{checkpoint_of}
use Rattle.op.specs.Operations.{IsAscending, below, next_seq, op_at}
use Rattle.op.specs.Records.{operations}
use Rattle.op.proofs.CheckpointLaws.{known-checkpoint_of}
use Rattle.op.proofs.OperationLaws.{IsAscending-add, next_seq-above, op_at-append}
use Rattle.op.proofs.RecordLaws.{IsAscending-below, operations-Op, operations-Resync, shown-all, shown-push}
use Rattle.history.proofs.MapLaws.{op_at-below}
use Rattle.replica.specs.declared.fault.CopyFault.{CopyFault}
use Rattle.replica.specs.declared.input.Write.{Write}
use Rattle.replica.specs.declared.input.Input.{Input}
use Rattle.replica.specs.declared.input.Input.TheVariants.{Write as Client, Bulk, Take, Report as Reporting, Refresh as Refreshing, Get as Getting, Restart as Restarting}
use Rattle.replica.specs.declared.role.Role.{Role}
use Rattle.replica.specs.declared.role.Role.TheVariants.{Empty, Replica, Primary}
use Rattle.replica.specs.Copy.{Copy}
use Rattle.replica.specs.Step.{Folded, Step, bulk, client, copy_step, first_fault, folded, handled, report, resync_of, settled, settled_as, tail_of, take_content, take_promoted, unless, unwritten, with_write, write_step}
use Rattle.replica.proofs.Tails.{RunsFrom-tail, op_at-tail}
use Rattle.engine.specs.SnapshotChange.{StayShown}
use Rattle.engine.proofs.QuietLaws.{stays_added}
use Rattle.promises.proofs.Lists.{at_has}

-- the operation is there, at its number
abbrev pub Has : Op → List Record → Type 0
Has o rs = op_at (operations rs) o.seq ≡ Some o

-- it is there, and where it counts also in what searches show
abbrev pub HasIn : Op → Bool → List Record → ℕ → Type 0
HasIn o seen rs point = Has o rs × (seen ≡ true → Has o (take point rs) × (point ≤ length rs))

abbrev pub HasOp : Op → Bool → Copy → Type 0
HasOp o seen c = HasIn o seen c.records c.point

-- what a copy has, and what its searches show, is so later too
pub record Later (d c : Copy) : Type 0 where
  pub keeps : (o : Op) (seen : Bool) → HasOp o seen c → HasOp o seen d
  pub ascending : IsAscending (operations d.records)

pub later_still : (a b c : Copy) → Later b a → Later c b → Later c a
later_still a b c one two = record { keeps = λ o seen h. two.keeps o seen (one.keeps o seen h); ascending = two.ascending }

-- ---- records

-- all are shown
pub whole : (o : Op) (seen : Bool) (rs : List Record) → Has o rs → HasIn o seen rs (length rs)
whole o seen rs h = (h, λ e. (ap (λ os. op_at os o.seq) (shown-all rs) ∙ h, omega arith))

-- more is shown of which nothing that was shown is gone
pub shown_more : (o : Op) (seen : Bool) (c : Copy) (point : ℕ) → point ≤ length c.records → StayShown c.records c.point point → HasOp o seen c → HasOp o seen (record c { point = point })
shown_more o seen c point within stay h = (h.0, λ e. let shows = h.1 e in (stay o shows.0, within))

-- one record more, which isn't shown yet
one_more : (o : Op) (seen : Bool) (rs : List Record) (point : ℕ) (r : Record) → (Has o rs → Has o (rs ++ r ∷ [])) → HasIn o seen rs point → HasIn o seen (rs ++ r ∷ []) point
one_more o seen rs point r keeps h =
    (keeps h.0, λ e. let shows = h.1 e in (ap (λ os. op_at os o.seq) (shown-push rs r point shows.1) ∙ shows.0, omega (arith, shows.1, length-append rs (r ∷ []))))

has_added : (rs : List Record) (g : ℤ) (o p : Op) → Has p rs → Has p (rs ++ Kept g o ∷ [])
has_added rs g o p h = ap (λ os. op_at os p.seq) (operations-Op rs g o) ∙ stays_added (operations rs) o p h

module _ (c : Copy) (up : IsAscending (operations c.records)) where
  abbrev os : List Op
  os = operations c.records

  -- a resync of what the copy has drops none of it
  tail_has : (term : ℕ) (p : Op) → op_at os p.seq ≡ Some p → (b : Bool) → nat_lt p.seq c.known ≡ b → option_or (if b then op_at os p.seq else None) (op_at (tail_of c term) p.seq) ≡ Some p
  tail_has term p h true is = rw h refl
  tail_has term p h false is =
      let small : p.seq < next_seq os = at_has (λ o. o.seq < next_seq os) os p.seq p h (next_seq-above os up) in
      let from : nat_le c.known p.seq ≡ true = grind (arith, nat_tests) in
      let below_next : nat_lt p.seq (next_seq os) ≡ true = grind (arith, nat_tests) in
      op_at-tail c term p.seq ∙ rw (from, below_next, h) refl

  has_resynced : (term : ℕ) (p : Op) → Has p c.records → Has p (c.records ++ resync_of c term ∷ [])
  has_resynced term p h =
      ap (λ l. op_at l p.seq) (operations-Resync c.records term (checkpoint_of c.known) (tail_of c term) ∙ ap (λ n. below n os ++ tail_of c term) (known-checkpoint_of c.known))
      ∙ (op_at-append (below c.known os) (tail_of c term) p.seq
      ∙ (ap (λ l. option_or l (op_at (tail_of c term) p.seq)) (op_at-below c.known os p.seq) ∙ tail_has term p h (nat_lt p.seq c.known) refl))

  resynced_up : (term : ℕ) → IsAscending (operations (c.records ++ resync_of c term ∷ []))
  resynced_up term =
      let is : operations (c.records ++ resync_of c term ∷ []) ≡ below c.known os ++ tail_of c term = operations-Resync c.records term (checkpoint_of c.known) (tail_of c term) ∙ ap (λ n. below n os ++ tail_of c term) (known-checkpoint_of c.known) in
      subst IsAscending (sym is) (IsAscending-below c.known os (tail_of c term) up (RunsFrom-tail c term))

  -- ---- copies

  abbrev pub Keeps : Step → Type 0
  Keeps r = IfOk r (λ s. Later s.copy c)

  pub same : (d : Copy) → d.records ≡ c.records → d.point ≡ c.point → Later d c
  same d records point = record { keeps = λ o seen h. rw (records, point) h; ascending = rw records up }

  pub all : (d : Copy) → d.records ≡ c.records → d.point ≡ length c.records → Later d c
  all d records point = record { keeps = λ o seen h. rw (records, point) (whole o seen c.records h.0); ascending = rw records up }

  pub wrote : (d : Copy) (g : ℤ) (o : Op) → d.records ≡ c.records ++ Kept g o ∷ [] → d.point ≡ c.point → Later d c
  wrote d g o records point = record {
    keeps = λ p seen h. rw (records, point) (one_more p seen c.records c.point (Kept g o) (has_added c.records g o p) h);
    ascending = rw (records, operations-Op c.records g o) (IsAscending-add os o up);
  }

  led_by : (d : Copy) (term : ℕ) → d.records ≡ c.records ++ resync_of c term ∷ [] → d.point ≡ c.point → Later d c
  led_by d term records point = record {
    keeps = λ p seen h. rw (records, point) (one_more p seen c.records c.point (resync_of c term) (has_resynced term p) h);
    ascending = rw records (resynced_up term);
  }

  pub itself : Later c c
  itself = same c refl refl

  pub on_unless : (fs : List (Bool × CopyFault)) (s : Step) → Keeps s → Keeps (unless fs s)
  unfolding unless
  on_unless fs s h = elim (first_fault fs) as (λ r. Keeps (r >>= λ none. s)) [ Ok u ↦ h | Err e ↦ tt ]

  pub on_client : (w : Write) (role : Role) → Keeps (client c w role)
  on_client w Empty = tt
  on_client w Replica = tt
  on_client w (Primary lead) = on_unless _ _ (wrote _ _ _ refl refl)

  pub on_promoted : (term : ℕ) (set : List ℕ) (again : Bool) → Keeps (take_promoted c term set again)
  on_promoted term set true = same _ refl refl
  on_promoted term set false = on_unless _ _ (led_by _ term refl refl)

  pub on_report : (r : ℕ) (role : Role) → Keeps (report c r role)
  on_report r Empty = tt
  on_report r Replica = tt
  on_report r (Primary lead) = on_unless _ _ (same _ refl refl)

  pub on_settled : (r : Step) → Keeps r → Keeps (settled r)
  on_settled (Ok s) h = as_role s.copy.role
    where
      as_role : (role : Role) → Keeps (Ok (settled_as s role))
      as_role Empty = h
      as_role Replica = h
      as_role (Primary lead) = record { keeps = h.keeps; ascending = h.ascending }
  on_settled (Err e) h = tt

-- ---- bulks

pub write_keeps : (c : Copy) (up : IsAscending (operations c.records)) (w : Write) → Keeps c up (write_step c w)
write_keeps c up w = on_settled c up (client c w c.role) (on_client c up w c.role)

with_keeps : (c : Copy) (b : Folded) (r : Step) → Later b.copy c → IfOk r (λ s. Later s.copy b.copy) → Later (with_write b r).copy c
with_keeps c b (Ok s) h one = later_still c b.copy s.copy h one
with_keeps c b (Err e) h one = h

pub fold_keeps : (c : Copy) (b : Folded) (ws : List Write) → Later b.copy c → Later (folded b ws).copy c
fold_keeps c b [] h = h
fold_keeps c b (w ∷ ws) h = fold_keeps c (with_write b (write_step b.copy w)) ws (with_keeps c b (write_step b.copy w) h (write_keeps b.copy h.ascending w))

pub bulk_keeps : (c : Copy) (up : IsAscending (operations c.records)) (ws : List Write) (role : Role) → Keeps c up (bulk c ws role)
bulk_keeps c up ws Empty = tt
bulk_keeps c up ws Replica = tt
bulk_keeps c up ws (Primary lead) = fold_keeps c (unwritten c) ws (itself c up)

-- ---- all inputs

-- of messages a lone copy is sent promotions alone
abbrev pub MayCome : Input → Type 0
MayCome (Client w) = Unit {0}
MayCome (Bulk ws) = Unit {0}
MayCome (Take m) = (set : List ℕ) × (m.content ≡ Promoted set)
MayCome (Reporting r) = Unit {0}
MayCome Refreshing = Unit {0}
MayCome (Getting id) = Unit {0}
MayCome Restarting = Unit {0}

pub step_keeps : (c : Copy) (up : IsAscending (operations c.records)) (input : Input) → MayCome input → IfOk (copy_step c input) (λ s. Later s.copy c)
step_keeps c up (Client w) may = write_keeps c up w
step_keeps c up (Bulk ws) may = bulk_keeps c up ws c.role
step_keeps c up (Take m) may =
    on_settled c up (handled c (Take m)) (on_unless c up _ _ (subst (λ (k : Content). IfOk (take_content c m.from m.term k) (λ s. Later s.copy c)) (sym may.1) (on_promoted c up m.term may.0 (m.term == c.term))))
step_keeps c up (Reporting r) may = on_settled c up (handled c (Reporting r)) (on_report c up r c.role)
step_keeps c up Refreshing may = on_settled c up (handled c Refreshing) (all c up _ refl refl)
step_keeps c up (Getting id) may = on_settled c up (handled c (Getting id)) (same c up _ refl refl)
step_keeps c up Restarting may = on_settled c up (handled c Restarting) (all c up _ refl refl)
