-- The place of a copy.
use Rattle.std.proofs.Common.{◌≡◌, ℕ, zero, suc, ◌+◌, ◌<◌, Bool, true, false, ◌==◌, List, [], ◌∷◌, ◌++◌, length, get_or, set, Option, Some, None, refl, ap, ◌∙◌, arith, if◌then◌else◌}
use Rattle.std.specs.Prelude.{is_some, option_map}
use Rattle.replica.specs.Copy.{Copy}
use Rattle.replica.specs.Logged.{Logged}
use Rattle.world.specs.Nodes.{copies_of, AreOpen}
use Rattle.world.specs.World.{place_in, copy_in, with_copy}

-- the first copy with the id is at the place
abbrev pub IsFirst : List Logged → ℕ → ℕ → Type 0
IsFirst [] id i = ⊥
IsFirst (l ∷ ls) id zero = (l.copy.id == id) ≡ true
IsFirst (l ∷ ls) id (suc i) = ((l.copy.id == id) ≡ false) × IsFirst ls id i

pub is_first : (ls : List Logged) (id i : ℕ) → place_in (copies_of ls) id ≡ Some i → IsFirst ls id i
is_first [] id i e = absurd cc
is_first (l ∷ ls) id i e = by_test (λ j h. is_first ls id j h) (l.copy.id == id) (place_in (copies_of ls) id) i refl refl e
  where
    later : ((j : ℕ) → place_in (copies_of ls) id ≡ Some j → IsFirst ls id j) → (o : Option ℕ) (i : ℕ) → place_in (copies_of ls) id ≡ o → (l.copy.id == id) ≡ false → option_map suc o ≡ Some i → IsFirst (l ∷ ls) id i
    later on None i rest other e = absurd cc
    later on (Some j) zero rest other e = absurd (let n : suc j ≡ zero = cc in omega (arith, n))
    later on (Some j) (suc i) rest other e = (other, let same : suc j ≡ suc i = cc in on i (rest ∙ ap (λ (n : ℕ). Some n) (omega (arith, same))))

    by_test : ((j : ℕ) → place_in (copies_of ls) id ≡ Some j → IsFirst ls id j) → (b : Bool) (o : Option ℕ) (i : ℕ) → (l.copy.id == id) ≡ b → place_in (copies_of ls) id ≡ o → (if b then Some 0 else option_map suc o) ≡ Some i → IsFirst (l ∷ ls) id i
    by_test on true o zero is rest e = is
    by_test on true o (suc i) is rest e = absurd (let n : 0 ≡ suc i = cc in omega (arith, n))
    by_test on false o i is rest e = later on o i rest is e

pub first_within : (ls : List Logged) (id i : ℕ) → IsFirst ls id i → i < length ls
first_within [] id i h = absurd h
first_within (l ∷ ls) id zero h = omega arith
first_within (l ∷ ls) id (suc i) h = let rest = first_within ls id i h.1 in omega (arith, rest)

pub first_found : (ls : List Logged) (id i : ℕ) (d : Logged) → IsFirst ls id i → copy_in (copies_of ls) id ≡ Some (get_or ls i d).copy
first_found [] id i d h = absurd h
first_found (l ∷ ls) id zero d h = rw h refl
first_found (l ∷ ls) id (suc i) d h = rw h.0 (first_found ls id i d h.1)

-- the copy at the place has the id
pub first_is : (ls : List Logged) (id i : ℕ) (d : Logged) → IsFirst ls id i → ((get_or ls i d).copy.id == id) ≡ true
first_is [] id i d h = absurd h
first_is (l ∷ ls) id zero d h = h
first_is (l ∷ ls) id (suc i) d h = first_is ls id i d h.1

pub first_put : (ls : List Logged) (id i : ℕ) (new : Logged) → IsFirst ls id i → new.copy.id ≡ id → copies_of (set ls i new) ≡ with_copy (copies_of ls) new.copy
first_put [] id i new h same = absurd h
first_put (l ∷ ls) id zero new h same = rw (same, h) refl
first_put (l ∷ ls) id (suc i) new h same =
    let other : (l.copy.id == new.copy.id) ≡ false = rw same h.0 in
    rw other (ap (λ (cs : List Copy). l.copy ∷ cs) (first_put ls id i new h.1 same))

-- no copy has the id
pub none_found : (ls : List Logged) (id : ℕ) → place_in (copies_of ls) id ≡ None → copy_in (copies_of ls) id ≡ None
none_found [] id e = refl
none_found (l ∷ ls) id e = by_test (λ h. none_found ls id h) (l.copy.id == id) (place_in (copies_of ls) id) refl refl e
  where
    rest_none : (o : Option ℕ) → option_map suc o ≡ None → o ≡ None
    rest_none None e = refl
    rest_none (Some n) e = absurd cc

    by_test : (place_in (copies_of ls) id ≡ None → copy_in (copies_of ls) id ≡ None) → (b : Bool) (o : Option ℕ) → (l.copy.id == id) ≡ b → place_in (copies_of ls) id ≡ o → (if b then Some 0 else option_map suc o) ≡ None → (if l.copy.id == id then Some l.copy else copy_in (copies_of ls) id) ≡ None
    by_test on true o is rest e = absurd cc
    by_test on false o is rest e = rw is (on (rest ∙ rest_none o e))

-- ---- logs that haven't failed

pub open_at : (ls : List Logged) (i : ℕ) (d : Logged) → AreOpen ls → i < length ls → (get_or ls i d).closed ≡ false
open_at [] i d h within = absurd (omega arith)
open_at (l ∷ ls) zero d h within = h.0
open_at (l ∷ ls) (suc i) d h within = open_at ls i d h.1 (omega arith)

pub open_put : (ls : List Logged) (i : ℕ) (new : Logged) → AreOpen ls → new.closed ≡ false → AreOpen (set ls i new)
open_put [] i new h one = tt
open_put (l ∷ ls) zero new h one = (one, h.1)
open_put (l ∷ ls) (suc i) new h one = (h.0, open_put ls i new h.1 one)

pub open_more : (ls : List Logged) (new : Logged) → AreOpen ls → new.closed ≡ false → AreOpen (ls ++ new ∷ [])
open_more [] new h one = (one, tt)
open_more (l ∷ ls) new h one = (h.0, open_more ls new h.1 one)

-- ---- looking for it

-- a place in what is left
abbrev pub onward : ℕ → Option ℕ → Option ℕ
onward n o = option_map (λ j. n + j) o

pub passed : (b : Bool) (n : ℕ) (o : Option ℕ) → b ≡ false → onward n (if b then Some 0 else option_map suc o) ≡ onward (n + 1) o
passed true n o other = absurd cc
passed false n None other = refl
passed false n (Some j) other = ap (λ (m : ℕ). Some m) (omega arith)

found_or : (b : Bool) (c : Copy) (o : Option ℕ) (r : Option Copy) (i : ℕ) → ((j : ℕ) → o ≡ Some j → is_some r ≡ true) → (if b then Some 0 else option_map suc o) ≡ Some i → is_some (if b then Some c else r) ≡ true
found_or true c o r i h e = refl
found_or false c None r i h e = absurd (cc e)
found_or false c (Some j) r i h e = h j refl

-- where an id has a place, its copy is there
pub place_found : (cs : List Copy) (id i : ℕ) → place_in cs id ≡ Some i → is_some (copy_in cs id) ≡ true
place_found [] id i e = absurd (cc e)
place_found (c ∷ cs) id i e = found_or (c.id == id) c (place_in cs id) (copy_in cs id) i (place_found cs id) e
