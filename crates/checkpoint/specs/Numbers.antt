-- Sets of sequence numbers, as ascending lists.
use Rattle.std.specs.Prelude.{ℕ, zero, suc, min, List, [], ◌∷◌, ◌++◌, ◌==◌, nat_le, filter, fold, Option, Some, None, if◌then◌else◌}
use Rattle.op.specs.Ids.{with}

-- 0 up to n, without n
abbrev pub up_to : ℕ → List ℕ
up_to zero = []
up_to (suc n) = up_to n ++ n ∷ []

-- the set with all numbers below n
abbrev pub with_below : List ℕ → ℕ → List ℕ
with_below ns n = up_to n ++ filter (λ m. nat_le n m) ns

-- the set with an acknowledged number (none is 0, others count one more) and all below another
abbrev pub marked : List ℕ → ℕ → ℕ → List ℕ
marked ns zero below = with_below ns below
marked ns (suc n) below = with (with_below ns below) n

-- where the numbers from n up break off
abbrev pub run_from : ℕ → List ℕ → ℕ
run_from n [] = n
run_from n (m ∷ ms) = if m == n then run_from (suc n) ms else n

-- how many numbers from 0 up are there without a gap
abbrev pub run : List ℕ → ℕ
run ns = run_from 0 ns

-- the least of some numbers
abbrev pub least : List ℕ → ℕ
least [] = 0
least (n ∷ []) = n
least (n ∷ m ∷ ms) = min n (least (m ∷ ms))

-- the least of those so far and some more
abbrev pub least_with : Option ℕ → List ℕ → ℕ
least_with None ns = least ns
least_with (Some n) ns = fold min n ns
