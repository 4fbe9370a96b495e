-- A loop that reads one after another and hands a number on.
use Rattle.std.proofs.Common.{◌≡◌, ℕ, List, [], ◌∷◌, ◌++◌, Option, Result, Ok, Err, refl, sym, ap, ◌∙◌}
use Rattle.doc.specs.Outcome.{◌>>=◌, Fails}
use Rattle.doc.proofs.Fronts.{fault_ends}
use Rattle.query.specs.Reading.{thread}

abbrev pub thread_front : {A F : Type 0} → List A → Result (List A × ℕ) F → Result (List A × ℕ) F
thread_front [] read = read
thread_front (x ∷ front) read = thread_front front read >>= λ ys. Ok (x ∷ ys.0, ys.1)

regroup : {A F : Type 0} (front : List A) (x : A) (read : Result (List A × ℕ) F) → thread_front front (read >>= λ ys. Ok (x ∷ ys.0, ys.1)) ≡ thread_front (front ++ x ∷ []) read
regroup [] x read = refl
regroup (y ∷ front) x read = ap (λ r. r >>= λ ys. Ok (y ∷ ys.0, ys.1)) (regroup front x read)

fails_with : {A F : Type 0} (front : List A) (d : F) → thread_front front (Err d) ≡ Err d
fails_with [] d = refl
fails_with (y ∷ front) d = ap (λ r. r >>= λ ys. Ok (y ∷ ys.0, ys.1)) (fails_with front d)

whole : {A F : Type 0} (front : List A) (left : ℕ) → thread_front {F = F} front (Ok ([], left)) ≡ Ok (front, left)
whole [] left = refl
whole (y ∷ front) left = ap (λ r. r >>= λ ys. Ok (y ∷ ys.0, ys.1)) (whole front left)

pub thread_on : {A B F : Type 0} (f : ℕ → A → Result (B × ℕ) F) (front : List B) (left : ℕ) (x : A) (y : B) (after : ℕ) (xs : List A) (total : Result (List B × ℕ) F) → f left x ≡ Ok (y, after)
    → thread_front front (thread f left (x ∷ xs)) ≡ total → thread_front (front ++ y ∷ []) (thread f after xs) ≡ total
thread_on f front left x y after xs total h so_far =
    let one : thread_front front (thread f left (x ∷ xs)) ≡ thread_front (front ++ y ∷ []) (thread f after xs) = rw h (regroup front y (thread f after xs)) in
    sym one ∙ so_far

pub thread_ends : {A B E F : Type 0} (fault : E → Option F) (e : E) (f : ℕ → A → Result (B × ℕ) F) (front : List B) (left : ℕ) (x : A) (xs : List A) (total : Result (List B × ℕ) F) → Fails fault e (f left x)
    → thread_front front (thread f left (x ∷ xs)) ≡ total → Fails fault e total
thread_ends fault e f front left x xs total fails so_far = fault_ends (fault e) (f left x) total (λ d h. sym so_far ∙ rw h (fails_with front d)) fails

pub thread_done : {A B F : Type 0} (f : ℕ → A → Result (B × ℕ) F) (front : List B) (left : ℕ) (total : Result (List B × ℕ) F) → thread_front front (thread f left []) ≡ total → total ≡ Ok (front, left)
thread_done f front left total so_far = sym so_far ∙ whole front left
