-- Of pairs the last at each key.
-- For proofs alone: no public contract rests on it.
use Rattle.std.specs.Prelude.{◌≡◌, List, [], ◌∷◌, Bool, None, if◌then◌else◌}
use Rattle.std.specs.List.Sorted.{IsStrictlySortedBy}
use Rattle.std.specs.Map.{keys_of, values_of, lookup, update_all}
use Rattle.std.specs.Ordering.{is_eq, eq_by_cmp}
use Rattle.std.specs.declared.cmp.Ordering.{Ordering}

-- a pair and those after it, without each that a pair of an equal key directly follows
abbrev pub last_from : {K V : Type 0} → (K → K → Bool) → K × V → List (K × V) → List (K × V)
last_from eq p [] = p ∷ []
last_from eq p (q ∷ ps) = if eq q.0 p.0 then last_from eq q ps else p ∷ last_from eq q ps

-- pairs, without each that a pair of an equal key directly follows
abbrev pub last_of_runs : {K V : Type 0} → (K → K → Bool) → List (K × V) → List (K × V)
last_of_runs eq [] = []
last_of_runs eq (p ∷ ps) = last_from eq p ps

-- put in turn into a map they leave the same at each key
abbrev pub ChangeAlike : {K V : Type 0} → (K → K → Ordering) → List (K × V) → List (K × V) → Type 0
ChangeAlike {K} cmp ps rs = (q : K) → update_all (eq_by_cmp cmp) (λ _. None) rs q ≡ update_all (eq_by_cmp cmp) (λ _. None) ps q

-- the last value at each key, in order of the keys
pub record IsLastOfEach {K V : Type 0} (cmp : K → K → Ordering) (ps : List (K × V)) (vs : List V) : Type 0 where
  pub entries : List (K × V)
  pub are : vs ≡ values_of entries
  pub ordered : IsStrictlySortedBy cmp (keys_of entries)
  pub last : (q : K) → lookup (λ k. is_eq (cmp q k)) entries ≡ update_all (eq_by_cmp cmp) (λ _. None) ps q
