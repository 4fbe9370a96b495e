-- An index of operations with one more.
use Rattle.std.proofs.Common.{◌≡◌, ℕ, zero, suc, ◌≤◌, ◌++◌, length, get_or, take, slice_get, is_some, Bool, true, false, ◌&&◌, List, [], ◌∷◌, ◌<◌, if◌then◌else◌, Option, Some, None, refl, sym, ap, ◌∙◌, arith}
use Rattle.std.specs.Prelude.{nat_lt, ◌==◌, IfSome, not, option_map}
use Rattle.std.specs.List.{AllByRecursion}
use Rattle.std.specs.Option.{option_or}
use Rattle.std.proofs.lemmas.Bool.Decides.{nat_tests}
use Rattle.op.specs.declared.operation.Op.{Op}
use Rattle.op.specs.Operations.{IsAscending, op_at, placed, add, is_on, is_newer, last_on, local_count}
use Rattle.op.proofs.OperationLaws.{IsAscending-placed, last_on-placed, last_on-push, last_has}
use Rattle.doc.specs.Id.{Id}
use Rattle.engine.specs.OperationIndex.{IsIndexed, raised}

pub IsIndexed-nil : (latest : Id → Option ℕ) → ((id : Id) → latest id ≡ None) → IsIndexed [] latest 0
IsIndexed-nil latest none = record { ascending = tt; last = none; reached = refl }

-- the number at an id is raised where the operation is on it
raised_if : (b : Bool) (o : Op) (l : Option Op) → (if b then raised o.seq (option_map (λ p. p.seq) l) else option_map (λ p. p.seq) l) ≡ option_map (λ p. p.seq) (if b && not (is_newer l o.seq) then Some o else l)
raised_if true o None = refl
raised_if true o (Some q) = grind (arith, nat_tests)
raised_if false o l = refl

pub IsIndexed-placed : (os : List Op) (latest new : Id → Option ℕ) (local count : ℕ) (o : Op) → IsIndexed os latest local → op_at os o.seq ≡ None
    → ((id : Id) → new id ≡ (if is_on id o then raised o.seq (latest id) else latest id)) → count ≡ local_count (placed os o) → IsIndexed (placed os o) new count
IsIndexed-placed os latest new local count o is free noted counted = record {
  ascending = IsAscending-placed os o free is.ascending;
  last = λ id.
      noted id
      ∙ ap (λ n. if is_on id o then raised o.seq n else n) (is.last id)
      ∙ raised_if (is_on id o) o (last_on os id)
      ∙ sym (ap (option_map (λ p. p.seq)) (last_on-placed os o id free is.ascending));
  reached = counted;
}

-- ---- what the number at an id finds

-- the last on an id is one of the operations

at_first : (o : Op) (on : Bool) (m : ℕ) (rest : Option Op) → Some m ≡ option_map (λ (p : Op). p.seq) (if on then Some o else None) → (if o.seq == m then Some o else rest) ≡ (if on then Some o else None)
at_first o true m rest is = let same : m ≡ o.seq = cc in grind (arith, nat_tests)
at_first o false m rest is = cc

at_later : (o : Op) (on : Bool) (l : Option Op) (m : ℕ) (rest : Option Op) → IfSome l (λ q. o.seq < q.seq) → Some m ≡ option_map (λ (p : Op). p.seq) (option_or l (if on then Some o else None)) → (Some m ≡ option_map (λ (p : Op). p.seq) l → rest ≡ l)
    → (if o.seq == m then Some o else rest) ≡ option_or l (if on then Some o else None)
at_later o on None m rest above is found = at_first o on m rest is
at_later o on (Some q) m rest above is found =
    let same : m ≡ q.seq = cc in
    let apart : o.seq < q.seq = above in
    let left : (if o.seq == m then Some o else rest) ≡ rest = grind (arith, nat_tests) in
    left ∙ found is

-- the operation with the number of the last on an id is the last on it
pub found_at : (os : List Op) (id : Id) (m : ℕ) → IsAscending os → Some m ≡ option_map (λ o. o.seq) (last_on os id) → op_at os m ≡ last_on os id
found_at [] id m up is = cc
found_at (o ∷ os) id m up is = at_later o (is_on id o) (last_on os id) m (op_at os m) (last_has (λ q. o.seq < q.seq) os id up.0) is (found_at os id m up.1)

pub newer : (l : Option Op) (n m : ℕ) → Some m ≡ option_map (λ o. o.seq) l → nat_lt n m ≡ is_newer l n
newer None n m is = cc
newer (Some q) n m is = let same : m ≡ q.seq = cc in ap (nat_lt n) same

pub none_newer : (l : Option Op) (n : ℕ) → None ≡ option_map (λ (o : Op). o.seq) l → false ≡ is_newer l n
none_newer None n is = refl
none_newer (Some q) n is = cc

pub none_last : (l : Option Op) → None ≡ option_map (λ (o : Op). o.seq) l → None ≡ l
none_last None is = refl
none_last (Some q) is = cc

-- ---- one more operation behind all
all_at : (P : Op → Type 0) (os : List Op) (i : ℕ) (d : Op) → AllByRecursion P os → i < length os → P (get_or os i d)
all_at P [] i d all lt = absurd (omega arith)
all_at P (o ∷ os) zero d all lt = all.0
all_at P (o ∷ os) (suc i) d all lt = all_at P os i d all.1 (omega arith)

-- those before an operation have smaller numbers
pub below_at : (os : List Op) (i : ℕ) (d : Op) → IsAscending os → i < length os → AllByRecursion (λ p. p.seq < (get_or os i d).seq) (take i os)
below_at [] i d up lt = absurd (omega arith)
below_at (o ∷ os) zero d up lt = tt
below_at (o ∷ os) (suc i) d up lt = (all_at (λ p. o.seq < p.seq) os i d up.0 (omega arith), below_at os i d up.1 (omega arith))

behind : (b : Bool) (o : Op) (l : Option Op) → IfSome l (λ q. q.seq < o.seq) → (if b then raised o.seq (option_map (λ p. p.seq) l) else option_map (λ p. p.seq) l) ≡ option_map (λ p. p.seq) (if b then Some o else l)
behind true o None lt = refl
behind true o (Some q) lt = ap Some (omega (arith, lt))
behind false o l lt = refl

pub latest-push : (os : List Op) (o : Op) (id : Id) (n : Option ℕ) → AllByRecursion (λ p. p.seq < o.seq) os → n ≡ option_map (λ p. p.seq) (last_on os id)
    → (if is_on id o then raised o.seq n else n) ≡ option_map (λ p. p.seq) (last_on (os ++ o ∷ []) id)
latest-push os o id n below is =
    ap (λ m. if is_on id o then raised o.seq m else m) is
    ∙ behind (is_on id o) o (last_on os id) (last_has (λ p. p.seq < o.seq) os id below)
    ∙ sym (ap (option_map (λ p. p.seq)) (last_on-push os o id))

-- an operation whose number is there is not added
pub there : (os : List Op) (o : Op) (at : ℕ) → suc at ≤ length os → slice_get os at ≡ op_at os o.seq → os ≡ add os o
there os o at lt found = let some : is_some (op_at os o.seq) ≡ true = ap is_some (sym found) ∙ some_at os at lt in rw some refl
  where
    some_at : (os : List Op) (at : ℕ) → suc at ≤ length os → is_some (slice_get os at) ≡ true
    some_at [] at lt = absurd (omega arith)
    some_at (p ∷ ps) zero lt = refl
    some_at (p ∷ ps) (suc at) lt = some_at ps at (omega arith)
