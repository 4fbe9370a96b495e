-- The tests of the rules answer what the rules say.
use Rattle.std.proofs.Common.{◌≡◌, ℕ, ℤ, negsuc, suc, ◌^◌, ◌<◌, ◌≤◌, Bool, true, false, List, [], ◌∷◌, refl, arith}
use Rattle.std.specs.Prelude.{◌&&◌, ◌==◌, nat_lt, nat_le, ◌≤ℤ◌}
use Rattle.std.proofs.lemmas.Bool.Decides.{nat_tests}
use Rattle.std.proofs.lemmas.Int.{ints}
use Rattle.op.specs.declared.operation.Op.{Op}
use Rattle.op.specs.declared.operation.Body.{Body}
use Rattle.op.specs.declared.operation.Body.TheVariants.{Index, Delete, NoOp}
use Rattle.op.specs.declared.record.Record.{Record}
use Rattle.op.specs.declared.record.Record.TheVariants.{Op as Kept, Resync, Recover}
use Rattle.op.specs.Checkpoint.{known}
use Rattle.op.specs.Records.{IsVersion, IsOperation, IsWrite, IsTerm, IsHistory, IsRecord}
use Rattle.op.specs.Rules.{is_small, is_term, is_checkpoint, is_version, is_write, is_operation, is_next, is_history, is_record}

both : (a b : Bool) → (a && b) ≡ true → (a ≡ true) × (b ≡ true)
both true b e = (refl, e)
both false b e = absurd cc

joined : (a b : Bool) → a ≡ true → b ≡ true → (a && b) ≡ true
joined a b p q = rw (p, q) refl

checkpoint_is : (g : ℤ) → is_checkpoint g ≡ true → negsuc 0 ≤ℤ g
checkpoint_is g e = grind (arith, ints)

checkpoint_test : (g : ℤ) → negsuc 0 ≤ℤ g → is_checkpoint g ≡ true
checkpoint_test g le = grind (arith, ints)

version_is : (b : Body) (version : ℕ) → is_version b version ≡ true → IsVersion b version
version_is (Index id source) version e = grind (arith, nat_tests)
version_is (Delete id) version e = grind (arith, nat_tests)
version_is NoOp version e = grind (arith, nat_tests)

version_test : (b : Body) (version : ℕ) → IsVersion b version → is_version b version ≡ true
version_test (Index id source) version h = grind (arith, nat_tests)
version_test (Delete id) version h = grind (arith, nat_tests)
version_test NoOp version h = grind (arith, nat_tests)

write_is : (b : Body) → is_write b ≡ true → IsWrite b
write_is (Index id source) e = tt
write_is (Delete id) e = tt
write_is NoOp e = absurd cc

write_test : (b : Body) → IsWrite b → is_write b ≡ true
write_test (Index id source) h = refl
write_test (Delete id) h = refl
write_test NoOp h = absurd h

small_is : (n : ℕ) → is_small n ≡ true → n < 2 ^ 63
small_is n e = grind (arith, nat_tests)

small_test : (n : ℕ) → n < 2 ^ 63 → is_small n ≡ true
small_test n h = grind (arith, nat_tests)

first_is : (n : ℕ) → nat_lt 0 n ≡ true → 0 < n
first_is n e = grind (arith, nat_tests)

first_test : (n : ℕ) → 0 < n → nat_lt 0 n ≡ true
first_test n h = grind (arith, nat_tests)

term_is : (n : ℕ) → is_term n ≡ true → IsTerm n
term_is n e = let p = both (nat_lt 0 n) (is_small n) e in record { first = first_is n p.0; small = small_is n p.1 }

term_test : (n : ℕ) → IsTerm n → is_term n ≡ true
term_test n h = joined (nat_lt 0 n) (is_small n) (first_test n h.first) (small_test n h.small)

operation_is : (o : Op) → is_operation o ≡ true → IsOperation o
operation_is o e =
    let p = both (is_small o.seq) (is_term o.term && (is_version o.body o.version && is_small o.version)) e in
    let q = both (is_term o.term) (is_version o.body o.version && is_small o.version) p.1 in
    let r = both (is_version o.body o.version) (is_small o.version) q.1 in
    let t = term_is o.term q.0 in
    record { small_seq = small_is o.seq p.0; first_term = t.first; small_term = t.small; first_version = version_is o.body o.version r.0; small_version = small_is o.version r.1 }

operation_test : (o : Op) → IsOperation o → is_operation o ≡ true
operation_test o h =
    let term : IsTerm o.term = record { first = h.first_term; small = h.small_term } in
    joined (is_small o.seq) (is_term o.term && (is_version o.body o.version && is_small o.version)) (small_test o.seq h.small_seq)
    (joined (is_term o.term) (is_version o.body o.version && is_small o.version) (term_test o.term term)
    (joined (is_version o.body o.version) (is_small o.version) (version_test o.body o.version h.first_version) (small_test o.version h.small_version)))

up_to_is : (a b : ℕ) → nat_le a b ≡ true → a ≤ b
up_to_is a b e = grind (arith, nat_tests)

up_to_test : (a b : ℕ) → a ≤ b → nat_le a b ≡ true
up_to_test a b h = grind (arith, nat_tests)

same_is : (a b : ℕ) → (a == b) ≡ true → a ≡ b
same_is a b e = grind (arith, nat_tests)

same_test : (a b : ℕ) → a ≡ b → (a == b) ≡ true
same_test a b h = grind (arith, nat_tests)

history_is : (term n : ℕ) (os : List Op) → is_history term n os ≡ true → IsHistory term n os
history_is term n [] e = record { runs = tt; each = tt }
history_is term n (o ∷ os) e =
    let p = both (is_next term n o) (is_history term (suc n) os) e in
    let q = both (o.seq == n) (is_operation o && nat_le o.term term) p.0 in
    let r = both (is_operation o) (nat_le o.term term) q.1 in
    let rest = history_is term (suc n) os p.1 in
    record { runs = (same_is o.seq n q.0, rest.runs); each = ((operation_is o r.0, up_to_is o.term term r.1), rest.each) }

history_test : (term n : ℕ) (os : List Op) → IsHistory term n os → is_history term n os ≡ true
history_test term n [] h = refl
history_test term n (o ∷ os) h =
    let rest : IsHistory term (suc n) os = record { runs = h.runs.1; each = h.each.1 } in
    joined (is_next term n o) (is_history term (suc n) os)
    (joined (o.seq == n) (is_operation o && nat_le o.term term) (same_test o.seq n h.runs.0)
    (joined (is_operation o) (nat_le o.term term) (operation_test o h.each.0.0) (up_to_test o.term term h.each.0.1)))
    (history_test term (suc n) os rest)

pub record_is : (r : Record) → is_record r ≡ true → IsRecord r
record_is (Kept g o) e =
    let p = both (is_checkpoint g) (is_operation o && is_write o.body) e in
    let q = both (is_operation o) (is_write o.body) p.1 in
    (checkpoint_is g p.0, operation_is o q.0, write_is o.body q.1)
record_is (Resync term g os) e =
    let p = both (is_checkpoint g) (is_term term && is_history term (known g) os) e in
    let q = both (is_term term) (is_history term (known g) os) p.1 in
    (checkpoint_is g p.0, term_is term q.0, history_is term (known g) os q.1)
record_is (Recover term os) e =
    let p = both (is_term term) (is_history term 0 os) e in
    (term_is term p.0, history_is term 0 os p.1)

pub record_test : (r : Record) → IsRecord r → is_record r ≡ true
record_test (Kept g o) h = joined (is_checkpoint g) (is_operation o && is_write o.body) (checkpoint_test g h.0) (joined (is_operation o) (is_write o.body) (operation_test o h.1) (write_test o.body h.2))
record_test (Resync term g os) h = joined (is_checkpoint g) (is_term term && is_history term (known g) os) (checkpoint_test g h.0) (joined (is_term term) (is_history term (known g) os) (term_test term h.1) (history_test term (known g) os h.2))
record_test (Recover term os) h = joined (is_term term) (is_history term 0 os) (term_test term h.0) (history_test term 0 os h.1)
