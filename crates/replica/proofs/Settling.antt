-- What a primary does after a step leaves a copy as it should be.
use Rattle.std.proofs.Common.{◌≡◌, ℕ, ◌<◌, ◌≤◌, ◌^◌, Bool, true, false, List, [], ◌∷◌, Some, None, if◌then◌else◌, refl, sym, ap, ◌∙◌, subst, arith}
use Rattle.doc.specs.Outcome.{Fails, Gives}
use Rattle.op.specs.declared.record.Record.{Record}
use Rattle.op.specs.Format.{is_too_large}
use Rattle.replica.specs.declared.planned.Planned.{Planned}
use Rattle.replica.specs.declared.fault.CopyFault.TheVariants.{Exhausted}
use Rattle.replica.specs.Fault.{fault_of}
use Rattle.std.specs.Prelude.{⊤, IfSome, Result, Ok, Err, not, ◌||◌, ◌==◌, map, filter, length}
use Rattle.std.proofs.lemmas.Bool.Decides.{nat_tests}
use Rattle.op.specs.declared.message.Msg.{Msg}
use Rattle.op.specs.Ids.{has, with, without}
use Rattle.op.specs.Operations.{next_seq}
use Rattle.op.proofs.IdLaws.{has-with, has-without}
use Rattle.replica.specs.declared.fault.CopyFault.{CopyFault}
use Rattle.replica.specs.declared.output.Answer.TheVariants.{Taken}
use Rattle.replica.specs.declared.role.Lead.{Lead}
use Rattle.replica.specs.declared.role.Role.{Role}
use Rattle.replica.specs.declared.role.Role.TheVariants.{Primary}
use Rattle.replica.specs.Copy.{Copy, operations}
use Rattle.checkpoint.specs.Numbers.{least}
use Rattle.replica.specs.Standing.{IsStanding, IsLed, Leads}
use Rattle.replica.specs.Planned.{IsTurn, led_by, settled_by, spelled, stepped_by, turned, turned_step}
use Rattle.replica.specs.Step.{Step, settled, unless, first_fault, led, spellable, stepped, counted, is_settled}

-- ---- faults

-- a step is refused for its first fault
pub settled_refused : (fs : List (Bool × CopyFault)) (s : Step) (e : CopyFault) → first_fault fs ≡ Err e → settled (unless fs s) ≡ Err e
unfolding unless
settled_refused fs s e h = rw h refl

-- and goes on where there is none
pub settled_passed : (fs : List (Bool × CopyFault)) (s : Step) (u : ⊤) → first_fault fs ≡ Ok u → settled (unless fs s) ≡ settled s
unfolding unless
settled_passed fs s u h = rw h refl

-- what is refused for a fault of a test is refused for it
pub fails_on : (e : CopyFault) (test : Result ⊤ CopyFault) (step : Step) → ((f : CopyFault) → test ≡ Err f → step ≡ Err f) → Fails fault_of e test → Fails fault_of e step
fails_on e test step h fails = elim (fault_of e) as (λ o. IfSome o (λ f. test ≡ Err f) → IfSome o (λ f. step ≡ Err f)) [ None ↦ λ x. tt | Some f ↦ λ x. h f x ] fails

-- ---- records that are too large

pub large_or : (r : Record) (s : Step) (b : Bool) → is_too_large r ≡ b → settled (unless (spellable r) s) ≡ (if b then Err Exhausted else settled s)
unfolding unless
large_or r s true is = rw is refl
large_or r s false is = rw is refl

-- a step that is refused for the size of its record alone
pub spelled_step : (c : Copy) (p : Planned) (r : Result Planned CopyFault) (s : Step) → Gives fault_of (λ (x : Planned). x) r (spelled p) → settled s ≡ Ok (stepped_by c p) → Gives fault_of (stepped_by c) r (settled (unless (spellable p.next_record) s))
spelled_step c p r s gives is = subst (λ (step : Step). Gives fault_of (stepped_by c) r step) (sym (large_or p.next_record s (is_too_large p.next_record) refl)) (on (is_too_large p.next_record) r gives)
  where
    on : (b : Bool) (r : Result Planned CopyFault) → Gives fault_of (λ (x : Planned). x) r (if b then Err Exhausted else Ok p) → Gives fault_of (stepped_by c) r (if b then Err Exhausted else settled s)
    on true (Ok q) h = absurd cc
    on true (Err e) h = elim (fault_of e) as (λ o. IfSome o (λ f. (let a : Result Planned CopyFault = Err Exhausted in a) ≡ Err f) → IfSome o (λ f. (let a : Step = Err Exhausted in a) ≡ Err f)) [ None ↦ λ x. tt | Some f ↦ λ x. let same : Exhausted ≡ f = cc in ap (λ (g : CopyFault). let a : Step = Err g in a) same ] h
    on false (Ok q) h = let same : p ≡ q = cc in is ∙ ap (λ (x : Planned). let a : Step = Ok (stepped_by c x) in a) same
    on false (Err e) h = elim (fault_of e) as (λ o. IfSome o (λ f. (let a : Result Planned CopyFault = Ok p in a) ≡ Err f) → IfSome o (λ f. settled s ≡ Err f)) [ None ↦ λ x. tt | Some f ↦ λ x. absurd cc ] h

-- ---- what is settled

filter_none : (p : ℕ → Bool) (ns : List ℕ) → filter p (filter (λ n. not (p n)) ns) ≡ []
filter_none p [] = refl
filter_none p (n ∷ ns) = (elim (p n) as (λ b. p n ≡ b → filter p (if not b then n ∷ filter (λ m. not (p m)) ns else filter (λ m. not (p m)) ns) ≡ []) [ true ↦ λ is. filter_none p ns | false ↦ λ is. rw is (filter_none p ns) ]) refl

filter_again : (p : ℕ → Bool) (ns : List ℕ) → filter p (filter p ns) ≡ filter p ns
filter_again p [] = refl
filter_again p (n ∷ ns) = (elim (p n) as (λ b. p n ≡ b → filter p (if b then n ∷ filter p ns else filter p ns) ≡ (if b then n ∷ filter p ns else filter p ns)) [ true ↦ λ is. rw (is, filter_again p ns) refl | false ↦ λ is. filter_again p ns ]) refl

least_le : (n : ℕ) (ns : List ℕ) → (least (n ∷ ns) ≤ n) × (0 < length ns → least (n ∷ ns) ≤ least ns)
least_le n [] = (omega arith, λ lt. absurd (omega arith))
least_le n (m ∷ ms) = (omega arith, λ lt. omega arith)

-- the least is at most what a member has
least_at : (f : ℕ → ℕ) (ids : List ℕ) (r : ℕ) → has ids r ≡ true → least (map f ids) ≤ f r
least_at f [] r e = absurd cc
least_at f (k ∷ ks) r e = (elim (k == r) as (λ b. (k == r) ≡ b → (b || has ks r) ≡ true → least (map f (k ∷ ks)) ≤ f r) [
  | true ↦ λ is h. let same : k ≡ r = grind (arith, nat_tests) in subst (λ (n : ℕ). least (map f (k ∷ ks)) ≤ f n) same (least_le (f k) (map f ks)).0
  | false ↦ λ is h. let rest = least_at f ks r h in let le = (least_le (f k) (map f ks)).1 (some ks h) in omega (arith, rest, le)
]) refl e
  where
    some : (xs : List ℕ) → has xs r ≡ true → 0 < length (map f xs)
    some [] h = absurd cc
    some (x ∷ xs) h = omega arith

-- all members have at most what the primary has
own_least : (c : Copy) (lead : Lead) → has lead.members c.id ≡ true → least (map (counted c lead) lead.members) ≤ next_seq (operations c)
own_least c lead member =
    let h = least_at (counted c lead) lead.members c.id member in
    let same : (c.id == c.id) ≡ true = grind (arith, nat_tests) in
    let own : counted c lead c.id ≡ next_seq (operations c) = rw same refl in
    omega (arith, h, own)

-- a primary that has settled is as it should be
pub led_stands : (c : Copy) (lead : Lead) → c.term < 2 ^ 63 → c.known ≤ 2 ^ 63 → 0 < c.term → has lead.members c.id ≡ true → next_seq (operations c) ≤ 2 ^ 63 → IsStanding (led c lead)
led_stands c lead small_term small_known first member small =
    let own = own_least c lead member in
    record {
      small_term = small_term;
      small_known = omega (arith, own);
      led = record {
        first = first;
        member = member;
        settled = record {
          counted = omega arith;
          none = filter_none (is_settled c lead) lead.pending;
          rest = filter_again (λ n. not (is_settled c lead n)) lead.pending;
        };
      };
    }

-- ---- a step of a primary that keeps no record

-- what it gives
pub turned_gives : (c : Copy) (lead : Lead) (sent : List Msg) →
    (let s = settled_by (led_by c lead (next_seq (operations c)) None) Taken sent in stepped (turned c s) s.output) ≡ turned_step c lead sent
turned_gives c lead sent = refl

pub turned_stands : (c : Copy) (lead : Lead) (sent : List Msg) → IsStanding c → IsTurn c lead → next_seq (operations c) ≤ 2 ^ 63 → IsStanding (turned c (settled_by (led_by c lead (next_seq (operations c)) None) Taken sent))
turned_stands c lead sent stands turn small = led_stands (record c { role = Primary lead }) lead stands.small_term stands.small_known turn.first turn.member small

-- a primary as it should be has a term and waits for itself
pub leads : (c : Copy) (lead : Lead) → IsStanding c → c.role ≡ Primary lead → Leads c lead
leads c lead stands is = subst (λ (r : Role). IsLed c r) is stands.led

-- ---- the primary with other members

or_true : (b : Bool) → (b || true) ≡ true
or_true true = refl
or_true false = refl

pub turn_joined : (c : Copy) (lead : Lead) (r : ℕ) → Leads c lead → IsTurn c (record lead { members = with lead.members r })
turn_joined c lead r l = record { first = l.first; member = rw (has-with lead.members r c.id, l.member) (or_true (r == c.id)) }

pub turn_left : (c : Copy) (lead : Lead) (r : ℕ) → Leads c lead → (r == c.id) ≡ false → IsTurn c (record lead { members = without lead.members r; out = with lead.out r })
turn_left c lead r l other = record { first = l.first; member = rw (has-without lead.members r c.id, l.member) (let apart : (c.id == r) ≡ false = grind (arith, nat_tests) in rw apart refl) }
