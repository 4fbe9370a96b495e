-- Lengths of spellings.
use Rattle.std.proofs.Common.{◌≡◌, ◌^◌, ℤ, ℕ, zero, suc, ◌+◌, ◌≤◌, ◌<◌, List, [], ◌∷◌, ◌++◌, length, get_or, take, Ok, refl, sym, ap, ◌∙◌, append_assoc, length-append, add-one, arith}
use Rattle.std.proofs.lemmas.List.{append-nil}
use Rattle.std.specs.List.{flat_map, sum_by}
use Rattle.std.proofs.lemmas.Bool.Decides.{nat_tests}
use Rattle.std.proofs.lemmas.List.Sums.{sum_by-cons}
use Rattle.doc.specs.Outcome.{Fails}
use Rattle.op.specs.declared.operation.Op.{Op}
use Rattle.op.specs.declared.operation.Body.{Body}
use Rattle.op.specs.declared.operation.Body.TheVariants.{Index, Delete, NoOp}
use Rattle.op.specs.declared.record.Record.{Record}
use Rattle.op.specs.declared.record.Record.TheVariants.{Op as Kept, Resync, Recover}
use Rattle.op.specs.declared.fault.OpFault.{OpFault}
use Rattle.op.specs.declared.fault.OpFault.TheVariants.{Malformed, NoMemory, TooLarge}
use Rattle.op.specs.FormatFault.{fault_of}
use Rattle.op.specs.Format.{source_bytes, body_bytes, operation_bytes, spelling, length_or, body_length, operation_length, record_length}

-- what is too large stays too large
pub still_too_large : (e : OpFault) (a b : ℕ) → a ≤ b → Fails fault_of e (length_or a) → Fails fault_of e (length_or b)
still_too_large NoMemory a b le h = tt
still_too_large TooLarge a b le h = grind (arith, nat_tests)
still_too_large Malformed a b le h = grind (arith, nat_tests)

-- each operation has bytes of its own
pub operations_count : (os : List Op) → length os ≤ length (flat_map operation_bytes os)
operations_count [] = omega arith
operations_count (o ∷ os) = let rest = operations_count os in let joined = length-append (operation_bytes o) (flat_map operation_bytes os) in omega arith

pub flat_map-take_more : {X Y : Type 0} (f : X → List Y) (xs : List X) (i : ℕ) (d : X) → i < length xs → flat_map f (take (i + 1) xs) ≡ flat_map f (take i xs) ++ f (get_or xs i d)
flat_map-take_more f [] i d lt = absurd (omega arith)
flat_map-take_more f (x ∷ xs) zero d lt = append-nil (f x)
flat_map-take_more f (x ∷ xs) (suc i) d lt = rw add-one (ap (λ ys. f x ++ ys) (rw add-one at (flat_map-take_more f xs i d (omega arith))) ∙ sym (append_assoc (f x) (flat_map f (take i xs)) (f (get_or xs i d))))

-- a list that grows by what one element more gives
pub one_more : {X : Type 0} (f : X → List ℕ) (before head : List ℕ) (xs : List X) (i : ℕ) (x : X) (old new : List ℕ) → i < length xs → x ≡ get_or xs i x
    → old ≡ before ++ (head ++ flat_map f (take i xs)) → new ≡ old ++ f x → new ≡ before ++ (head ++ flat_map f (take (i + 1) xs))
one_more f before head xs i x old new lt is was now =
    let more : flat_map f (take (i + 1) xs) ≡ flat_map f (take i xs) ++ f x = flat_map-take_more f xs i x lt ∙ ap (λ y. flat_map f (take i xs) ++ f y) (sym is) in
    now ∙ ap (λ l. l ++ f x) was ∙ append_assoc before (head ++ flat_map f (take i xs)) (f x) ∙ ap (λ l. before ++ l) (append_assoc head (flat_map f (take i xs)) (f x) ∙ ap (λ l. head ++ l) (sym more))

pub resync_count : (r : Record) (term : ℕ) (g : ℤ) (os : List Op) → r ≡ Resync term g os → length (spelling r) ≤ 4294967295 → length os ≤ 4294967295
resync_count r term g os is le = let same : length (spelling r) ≡ length (spelling (Resync term g os)) = ap (λ x. length (spelling x)) is in let count = operations_count os in omega arith

pub recover_count : (r : Record) (term : ℕ) (os : List Op) → r ≡ Recover term os → length (spelling r) ≤ 4294967295 → length os ≤ 4294967295
recover_count r term os is le = let same : length (spelling r) ≡ length (spelling (Recover term os)) = ap (λ x. length (spelling x)) is in let count = operations_count os in omega arith

pub length_fits : (n m : ℕ) → length_or n ≡ Ok m → n < 2 ^ 32
length_fits n m e = grind (arith, nat_tests)

-- ---- the length of each record

body_has : (b : Body) → length (body_bytes b) ≡ body_length b
body_has NoOp = refl
body_has (Index id source) = let joined = length-append id (source_bytes source) in omega arith
body_has (Delete id) = omega arith

operation_has : (o : Op) → length (operation_bytes o) ≡ operation_length o
operation_has o = let one = body_has o.body in omega arith

both : {a b c d : ℕ} → a ≡ b → c ≡ d → a + c ≡ b + d
both p q = cc

operations_have : (os : List Op) → length (flat_map operation_bytes os) ≡ sum_by operation_length os
operations_have [] = refl
operations_have (o ∷ os) = let joined = length-append (operation_bytes o) (flat_map operation_bytes os) in let rest = operations_have os in let one = operation_has o in joined ∙ both one rest ∙ sym (sum_by-cons operation_length o os)

pub record_has : (r : Record) → length (spelling r) ≡ record_length r
record_has (Kept g o) = let one = operation_has o in omega arith
record_has (Resync term g os) = let all = operations_have os in omega arith
record_has (Recover term os) = let all = operations_have os in omega arith
