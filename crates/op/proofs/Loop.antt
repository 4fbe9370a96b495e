-- Reading operations, or records of a group, one after the other, as a loop does.
use Rattle.std.proofs.Common.{◌≡◌, ℕ, suc, ◌-◌, ◌+◌, ◌≤◌, ◌<◌, List, [], ◌∷◌, ◌++◌, Result, Ok, Err, refl, sym, ap, ◌∙◌, append_assoc, arith}
use Rattle.std.specs.Prelude.{Option, Some, None, IfSome}
use Rattle.std.proofs.lemmas.List.{append-nil}
use Rattle.doc.specs.Outcome.{◌>>=◌, Fails}
use Rattle.op.specs.FormatFault.{Fault}
use Rattle.op.specs.Reading.{operation_at, so_many_at, kept_at, so_many_kept_at}

-- many reads what one reads, so many times
pub record Repeats {X : Type 0} (one : List ℕ → Result (X × List ℕ) Fault) (many : ℕ → List ℕ → Result (List X × List ℕ) Fault) : Type 0 where
  pub none : (bytes : List ℕ) → many 0 bytes ≡ Ok ([], bytes)
  pub more : (n : ℕ) (bytes : List ℕ) → many (suc n) bytes ≡ (one bytes >>= λ first. many n first.1 >>= λ others. Ok (first.0 ∷ others.0, others.1))

pub operations_repeat : Repeats operation_at so_many_at
unfolding so_many_at
operations_repeat = record { none = λ bytes. refl; more = λ n bytes. refl }

pub records_repeat : Repeats kept_at so_many_kept_at
unfolding so_many_kept_at
records_repeat = record { none = λ bytes. refl; more = λ n bytes. refl }

-- what was read before, and what is still read
abbrev pub with_front : {X : Type 0} → List X → Result (List X × List ℕ) Fault → Result (List X × List ℕ) Fault
with_front front read = read >>= λ x. Ok (front ++ x.0, x.1)

regroup : {X : Type 0} (front : List X) (x : X) (read : Result (List X × List ℕ) Fault) → with_front front (read >>= λ y. Ok (x ∷ y.0, y.1)) ≡ with_front (front ++ x ∷ []) read
regroup {X} front x (Ok y) = ap (λ (xs : List X). Ok (xs, y.1)) (simp append_assoc)
regroup front x (Err f) = refl

pub goes_on : {X : Type 0} (one : List ℕ → Result (X × List ℕ) Fault) (many : ℕ → List ℕ → Result (List X × List ℕ) Fault) → Repeats one many
    → (front : List X) (count i : ℕ) (bytes : List ℕ) (x : X) (after : List ℕ) (total : Result (List X × List ℕ) Fault) → i < count → one bytes ≡ Ok (x, after)
    → with_front front (many (count - i) bytes) ≡ total → with_front (front ++ x ∷ []) (many (count - (i + 1)) after) ≡ total
goes_on one many rule front count i bytes x after total lt h so_far =
    let k : count - i ≡ suc (count - (i + 1)) = omega arith in
    let step : with_front front (many (count - i) bytes) ≡ with_front (front ++ x ∷ []) (many (count - (i + 1)) after) = rw (k, rule.more (count - (i + 1)) bytes, h) (regroup front x (many (count - (i + 1)) after)) in
    sym step ∙ so_far

fault_ends : {Y Z : Type 0} (o : Option Fault) (read : Result Y Fault) (total : Result Z Fault) → ((d : Fault) → read ≡ Err d → total ≡ Err d) → IfSome o (λ f. read ≡ Err f) → IfSome o (λ f. total ≡ Err f)
fault_ends None read total h fails = tt
fault_ends (Some d) read total h fails = h d fails

pub ends : {X E : Type 0} (one : List ℕ → Result (X × List ℕ) Fault) (many : ℕ → List ℕ → Result (List X × List ℕ) Fault) → Repeats one many
    → (fault : E → Option Fault) (e : E) (front : List X) (count i : ℕ) (bytes : List ℕ) (total : Result (List X × List ℕ) Fault) → i < count → Fails fault e (one bytes)
    → with_front front (many (count - i) bytes) ≡ total → Fails fault e total
ends one many rule fault e front count i bytes total lt fails so_far =
    let k : count - i ≡ suc (count - (i + 1)) = omega arith in
    fault_ends (fault e) (one bytes) total (λ d h. sym so_far ∙ rw (k, rule.more (count - (i + 1)) bytes, h) refl) fails

pub is_done : {X : Type 0} (one : List ℕ → Result (X × List ℕ) Fault) (many : ℕ → List ℕ → Result (List X × List ℕ) Fault) → Repeats one many
    → (front : List X) (count i : ℕ) (bytes : List ℕ) (total : Result (List X × List ℕ) Fault) → count ≤ i → with_front front (many (count - i) bytes) ≡ total → total ≡ Ok (front, bytes)
is_done {X} one many rule front count i bytes total le so_far =
    let k : count - i ≡ 0 = omega arith in
    let whole : with_front front (many (count - i) bytes) ≡ Ok (front, bytes) = rw (k, rule.none bytes) (ap (λ (xs : List X). Ok (xs, bytes)) (append-nil front)) in
    sym so_far ∙ whole
