-- What the calls of a device do to its bytes, and how it counts its failures.
use Rattle.std.specs.Prelude.{◌≡◌, ℕ, ◌+◌, ◌-◌, ◌^◌, min, Bool, true, false, List, ◌++◌, take}

-- a front of the piece was added, all of it or nothing included
abbrev pub AddsFront : List ℕ → List ℕ → List ℕ → Type 0
AddsFront old piece new = (k : ℕ) × (new ≡ old ++ take k piece)

-- the count of failures after a call that failed, or didn't; at its greatest value it stays
abbrev pub count_after : Bool → ℕ → ℕ
count_after true count = min (count + 1) (2 ^ 64 - 1)
count_after false count = count
