-- The laws of the format: what is read is spelt so, and what is spelt so is read.
use Rattle.std.proofs.Common.{◌≤◌, ◌≡◌, ℕ, zero, suc, ◌^◌, ◌<◌, Bool, true, false, cond, eqb, List, [], ◌∷◌, ◌++◌, length, Ok, Err, refl, sym, ap, subst, ◌∙◌, append_assoc, arith, ltb}
use Rattle.std.specs.List.{flat_map, AllByRecursion}
use Rattle.std.specs.Int.{w32, w64, to_le_bytes}
use Rattle.std.proofs.lemmas.Bool.{eqb-true, ltb-false, le-ltb}
use Rattle.std.proofs.lemmas.List.{append-nil, nil_from_length}
use Rattle.doc.specs.Outcome.{◌>>=◌}
use Rattle.op.specs.declared.operation.Op.{Op}
use Rattle.op.specs.declared.operation.Body.{Body}
use Rattle.op.specs.declared.operation.Body.TheVariants.{Index, Delete, NoOp}
use Rattle.op.specs.declared.record.Record.{Record}
use Rattle.op.specs.declared.record.Record.TheVariants.{Op as Kept, Resync, Recover}
use Rattle.op.specs.FormatFault.{malformed}
use Rattle.op.specs.Rules.{is_record}
use Rattle.op.specs.Format.{AreBytes, number, signed, id_bytes, source_bytes, body_bytes, operation_bytes, operations_bytes, kept_fields, spelling, HasTexts, IsTyped}
use Rattle.op.specs.Reading.{number_at, signed_at, id_at, source_at, body_at, operation_at, so_many_at, operations_at, kept_at, resync_at, recover_at, record_at, content_of, record_of}
use Rattle.op.specs.Records.{IsOperation, IsUpTo, IsRecord}
use Rattle.op.proofs.Lengths.{operations_count}
use Rattle.op.proofs.RulesLaws.{record_is, record_test}
use Rattle.op.specs.declared.fault.OpFault.{OpFault}
use Rattle.op.specs.FormatFault.{fault_of}
use Rattle.std.specs.Prelude.{IfOk, Result}
use Rattle.doc.specs.Outcome.{Gives}
use Rattle.op.proofs.Fields.{AreBytes-rest, bind_ok, ok_is, Takes, Takes-then, wide32, wide64, number_takes, number_again, signed_takes, signed_again, id_takes, id_again, source_takes, source_again}

-- ---- bodies

pub body_takes : (bytes : List ℕ) (x : Body × List ℕ) → AreBytes bytes → body_at bytes ≡ Ok x → Takes bytes (body_bytes x.0) x.1 × HasTexts x.0
unfolding body_at
body_takes [] x fits e = absurd cc
body_takes (zero ∷ bytes) x fits e =
    subst (λ (y : Body × List ℕ). Takes (0 ∷ bytes) (body_bytes y.0) y.1 × HasTexts y.0) (ok_is (NoOp, bytes) x e) (record { parts = refl; rest_fits = AreBytes-rest 0 bytes fits }, tt)
body_takes (suc zero ∷ bytes) x fits e =
    let a = bind_ok (id_at bytes) (λ id. source_at id.1 >>= λ source. Ok (Index id.0 source.0, source.1)) x e in
    let b = bind_ok (source_at a.0.1) (λ source. Ok (Index a.0.0 source.0, source.1)) x a.2 in
    let s = id_takes bytes a.0.0 a.0.1 (AreBytes-rest 1 bytes fits) a.1 in
    let t = source_takes a.0.1 b.0.0 b.0.1 s.0.rest_fits b.1 in
    let both = Takes-then bytes (id_bytes a.0.0) a.0.1 (source_bytes b.0.0) b.0.1 s.0 t.0 in
    subst (λ (y : Body × List ℕ). Takes (1 ∷ bytes) (body_bytes y.0) y.1 × HasTexts y.0) (ok_is (Index a.0.0 b.0.0, b.0.1) x b.2) (record { parts = ap (λ (l : List ℕ). 1 ∷ l) both.parts; rest_fits = both.rest_fits }, (s.1, t.1))
body_takes (suc (suc zero) ∷ bytes) x fits e =
    let a = bind_ok (id_at bytes) (λ id. Ok (Delete id.0, id.1)) x e in
    let s = id_takes bytes a.0.0 a.0.1 (AreBytes-rest 2 bytes fits) a.1 in
    subst (λ (y : Body × List ℕ). Takes (2 ∷ bytes) (body_bytes y.0) y.1 × HasTexts y.0) (ok_is (Delete a.0.0, a.0.1) x a.2) (record { parts = ap (λ (l : List ℕ). 2 ∷ l) s.0.parts; rest_fits = s.0.rest_fits }, s.1)
body_takes (suc (suc (suc n)) ∷ bytes) x fits e = absurd cc

pub body_again : (b : Body) (rest : List ℕ) → HasTexts b → body_at (body_bytes b ++ rest) ≡ Ok (b, rest)
unfolding body_at
body_again NoOp rest texts = refl
body_again (Index id source) rest texts =
    ap (λ (l : List ℕ). body_at (1 ∷ l)) (append_assoc (id_bytes id) (source_bytes source) rest) ∙ rw (id_again id (source_bytes source ++ rest) texts.0, source_again source rest texts.1) refl
body_again (Delete id) rest texts = rw (id_again id rest texts) refl

-- ---- operations

pub operation_takes : (bytes : List ℕ) (x : Op × List ℕ) → AreBytes bytes → operation_at bytes ≡ Ok x → Takes bytes (operation_bytes x.0) x.1 × HasTexts x.0.body
unfolding operation_at
operation_takes bytes x fits e =
    let a = bind_ok (number_at w64 bytes) (λ seq. number_at w64 seq.1 >>= λ term. number_at w64 term.1 >>= λ version. body_at version.1 >>= λ body. Ok (record { seq = seq.0; term = term.0; version = version.0; body = body.0 }, body.1)) x e in
    let b = bind_ok (number_at w64 a.0.1) (λ term. number_at w64 term.1 >>= λ version. body_at version.1 >>= λ body. Ok (record { seq = a.0.0; term = term.0; version = version.0; body = body.0 }, body.1)) x a.2 in
    let d = bind_ok (number_at w64 b.0.1) (λ version. body_at version.1 >>= λ body. Ok (record { seq = a.0.0; term = b.0.0; version = version.0; body = body.0 }, body.1)) x b.2 in
    let f = bind_ok (body_at d.0.1) (λ body. Ok (record { seq = a.0.0; term = b.0.0; version = d.0.0; body = body.0 }, body.1)) x d.2 in
    let t0 = number_takes w64 (2 ^ 64) wide64 bytes a.0.0 a.0.1 fits a.1 in
    let t1 = number_takes w64 (2 ^ 64) wide64 a.0.1 b.0.0 b.0.1 t0.0.rest_fits b.1 in
    let t2 = number_takes w64 (2 ^ 64) wide64 b.0.1 d.0.0 d.0.1 t1.0.rest_fits d.1 in
    let t3 = body_takes d.0.1 f.0 t2.0.rest_fits f.1 in
    let e23 = Takes-then b.0.1 (number d.0.0) d.0.1 (body_bytes f.0.0) f.0.1 t2.0 t3.0 in
    let e13 = Takes-then a.0.1 (number b.0.0) b.0.1 (number d.0.0 ++ body_bytes f.0.0) f.0.1 t1.0 e23 in
    let e03 = Takes-then bytes (number a.0.0) a.0.1 (number b.0.0 ++ (number d.0.0 ++ body_bytes f.0.0)) f.0.1 t0.0 e13 in
    let made : Op × List ℕ = (record { seq = a.0.0; term = b.0.0; version = d.0.0; body = f.0.0 }, f.0.1) in
    subst (λ (y : Op × List ℕ). Takes bytes (operation_bytes y.0) y.1 × HasTexts y.0.body) (ok_is made x f.2) (e03, t3.1)

-- what the numbers of an operation have room for
pub record HasWords (o : Op) : Type 0 where
  pub seq : o.seq < 2 ^ 64
  pub term : o.term < 2 ^ 64
  pub version : o.version < 2 ^ 64
  pub texts : HasTexts o.body

pub operation_again : (o : Op) (rest : List ℕ) → HasWords o → operation_at (operation_bytes o ++ rest) ≡ Ok (o, rest)
unfolding operation_at
operation_again o rest fits =
    let regrouped : operation_bytes o ++ rest ≡ number o.seq ++ (number o.term ++ (number o.version ++ (body_bytes o.body ++ rest))) = refl in
    ap operation_at regrouped ∙ rw (number_again w64 (2 ^ 64) wide64 o.seq (number o.term ++ (number o.version ++ (body_bytes o.body ++ rest))) fits.seq, number_again w64 (2 ^ 64) wide64 o.term (number o.version ++ (body_bytes o.body ++ rest)) fits.term, number_again w64 (2 ^ 64) wide64 o.version (body_bytes o.body ++ rest) fits.version, body_again o.body rest fits.texts) refl

pub so_many_take : (n : ℕ) (bytes : List ℕ) (x : List Op × List ℕ) → AreBytes bytes → so_many_at n bytes ≡ Ok x
    → Takes bytes (flat_map operation_bytes x.0) x.1 × (length x.0 ≡ n) × AllByRecursion (λ o. HasTexts o.body) x.0
unfolding so_many_at
so_many_take zero bytes x fits e =
    subst (λ (y : List Op × List ℕ). Takes bytes (flat_map operation_bytes y.0) y.1 × (length y.0 ≡ 0) × AllByRecursion (λ o. HasTexts o.body) y.0) (ok_is ([], bytes) x e) (record { parts = refl; rest_fits = fits }, refl, tt)
so_many_take (suc n) bytes x fits e =
    let a = bind_ok (operation_at bytes) (λ first. so_many_at n first.1 >>= λ others. Ok (first.0 ∷ others.0, others.1)) x e in
    let b = bind_ok (so_many_at n a.0.1) (λ others. Ok (a.0.0 ∷ others.0, others.1)) x a.2 in
    let first = operation_takes bytes a.0 fits a.1 in
    let second = so_many_take n a.0.1 b.0 first.0.rest_fits b.1 in
    let both = Takes-then bytes (operation_bytes a.0.0) a.0.1 (flat_map operation_bytes b.0.0) b.0.1 first.0 second.0 in
    let made : List Op × List ℕ = (a.0.0 ∷ b.0.0, b.0.1) in
    subst (λ (y : List Op × List ℕ). Takes bytes (flat_map operation_bytes y.0) y.1 × (length y.0 ≡ suc n) × AllByRecursion (λ o. HasTexts o.body) y.0) (ok_is made x b.2) (both, ap suc second.1, (first.1, second.2))

pub so_many_again : (os : List Op) (rest : List ℕ) → AllByRecursion HasWords os → so_many_at (length os) (flat_map operation_bytes os ++ rest) ≡ Ok (os, rest)
unfolding so_many_at
so_many_again [] rest fits = refl
so_many_again (o ∷ os) rest fits =
    ap (so_many_at (suc (length os))) (append_assoc (operation_bytes o) (flat_map operation_bytes os) rest) ∙ rw (operation_again o (flat_map operation_bytes os ++ rest) fits.0, so_many_again os rest fits.1) refl

pub operations_take : (bytes : List ℕ) (x : List Op × List ℕ) → AreBytes bytes → operations_at bytes ≡ Ok x → Takes bytes (operations_bytes x.0) x.1 × AllByRecursion (λ o. HasTexts o.body) x.0
unfolding operations_at
operations_take bytes x fits e =
    let a = bind_ok (number_at w32 bytes) (λ count. so_many_at count.0 count.1) x e in
    let first = number_takes w32 (2 ^ 32) wide32 bytes a.0.0 a.0.1 fits a.1 in
    let second = so_many_take a.0.0 a.0.1 x first.0.rest_fits a.2 in
    let both = Takes-then bytes (to_le_bytes w32 a.0.0) a.0.1 (flat_map operation_bytes x.0) x.1 first.0 second.0 in
    (subst (λ (k : ℕ). Takes bytes (to_le_bytes w32 k ++ flat_map operation_bytes x.0) x.1) (sym second.1) both, second.2)

pub operations_again : (os : List Op) (rest : List ℕ) → length os < 2 ^ 32 → AllByRecursion HasWords os → operations_at (operations_bytes os ++ rest) ≡ Ok (os, rest)
unfolding operations_at
operations_again os rest few fits =
    let again : number_at w32 (operations_bytes os ++ rest) ≡ Ok (length os, flat_map operation_bytes os ++ rest) = number_again w32 (2 ^ 32) wide32 (length os) (flat_map operation_bytes os ++ rest) few in
    rw (again, so_many_again os rest fits) refl

-- ---- records

pub fields_take : (bytes : List ℕ) (x : Record × List ℕ) → AreBytes bytes → kept_at bytes ≡ Ok x → Takes bytes (kept_fields x.0) x.1 × IsTyped x.0 × (spelling x.0 ≡ 1 ∷ kept_fields x.0)
unfolding kept_at
fields_take bytes x fits e =
    let a = bind_ok (signed_at bytes) (λ g. operation_at g.1 >>= λ o. Ok (Kept g.0 o.0, o.1)) x e in
    let b = bind_ok (operation_at a.0.1) (λ o. Ok (Kept a.0.0 o.0, o.1)) x a.2 in
    let t0 = signed_takes bytes a.0.0 a.0.1 fits a.1 in
    let t1 = operation_takes a.0.1 b.0 t0.0.rest_fits b.1 in
    let both = Takes-then bytes (signed a.0.0) a.0.1 (operation_bytes b.0.0) b.0.1 t0.0 t1.0 in
    let made : Record × List ℕ = (Kept a.0.0 b.0.0, b.0.1) in
    subst (λ (y : Record × List ℕ). Takes bytes (kept_fields y.0) y.1 × IsTyped y.0 × (spelling y.0 ≡ 1 ∷ kept_fields y.0)) (ok_is made x b.2) (both, (t0.1, t1.1), refl)

kept_takes : (bytes : List ℕ) (x : Record × List ℕ) → AreBytes bytes → kept_at bytes ≡ Ok x → Takes (1 ∷ bytes) (spelling x.0) x.1 × IsTyped x.0
kept_takes bytes x fits e =
    let t = fields_take bytes x fits e in
    (record { parts = ap (λ (l : List ℕ). 1 ∷ l) t.0.parts ∙ ap (λ (l : List ℕ). l ++ x.1) (sym t.2); rest_fits = t.0.rest_fits }, t.1)

resync_takes : (bytes : List ℕ) (x : Record × List ℕ) → AreBytes bytes → resync_at bytes ≡ Ok x → Takes (2 ∷ bytes) (spelling x.0) x.1 × IsTyped x.0
unfolding resync_at
resync_takes bytes x fits e =
    let a = bind_ok (number_at w64 bytes) (λ term. signed_at term.1 >>= λ g. operations_at g.1 >>= λ os. Ok (Resync term.0 g.0 os.0, os.1)) x e in
    let b = bind_ok (signed_at a.0.1) (λ g. operations_at g.1 >>= λ os. Ok (Resync a.0.0 g.0 os.0, os.1)) x a.2 in
    let d = bind_ok (operations_at b.0.1) (λ os. Ok (Resync a.0.0 b.0.0 os.0, os.1)) x b.2 in
    let t0 = number_takes w64 (2 ^ 64) wide64 bytes a.0.0 a.0.1 fits a.1 in
    let t1 = signed_takes a.0.1 b.0.0 b.0.1 t0.0.rest_fits b.1 in
    let t2 = operations_take b.0.1 d.0 t1.0.rest_fits d.1 in
    let e12 = Takes-then a.0.1 (signed b.0.0) b.0.1 (operations_bytes d.0.0) d.0.1 t1.0 t2.0 in
    let e02 = Takes-then bytes (number a.0.0) a.0.1 (signed b.0.0 ++ operations_bytes d.0.0) d.0.1 t0.0 e12 in
    let made : Record × List ℕ = (Resync a.0.0 b.0.0 d.0.0, d.0.1) in
    subst (λ (y : Record × List ℕ). Takes (2 ∷ bytes) (spelling y.0) y.1 × IsTyped y.0) (ok_is made x d.2) (record { parts = ap (λ (l : List ℕ). 2 ∷ l) e02.parts; rest_fits = e02.rest_fits }, (t1.1, t2.1))

recover_takes : (bytes : List ℕ) (x : Record × List ℕ) → AreBytes bytes → recover_at bytes ≡ Ok x → Takes (3 ∷ bytes) (spelling x.0) x.1 × IsTyped x.0
unfolding recover_at
recover_takes bytes x fits e =
    let a = bind_ok (number_at w64 bytes) (λ term. operations_at term.1 >>= λ os. Ok (Recover term.0 os.0, os.1)) x e in
    let b = bind_ok (operations_at a.0.1) (λ os. Ok (Recover a.0.0 os.0, os.1)) x a.2 in
    let t0 = number_takes w64 (2 ^ 64) wide64 bytes a.0.0 a.0.1 fits a.1 in
    let t1 = operations_take a.0.1 b.0 t0.0.rest_fits b.1 in
    let both = Takes-then bytes (number a.0.0) a.0.1 (operations_bytes b.0.0) b.0.1 t0.0 t1.0 in
    let made : Record × List ℕ = (Recover a.0.0 b.0.0, b.0.1) in
    subst (λ (y : Record × List ℕ). Takes (3 ∷ bytes) (spelling y.0) y.1 × IsTyped y.0) (ok_is made x b.2) (record { parts = ap (λ (l : List ℕ). 3 ∷ l) both.parts; rest_fits = both.rest_fits }, t1.1)

record_takes : (bytes : List ℕ) (x : Record × List ℕ) → AreBytes bytes → record_at bytes ≡ Ok x → Takes bytes (spelling x.0) x.1 × IsTyped x.0
unfolding record_at
record_takes [] x fits e = absurd cc
record_takes (zero ∷ bytes) x fits e = absurd cc
record_takes (suc zero ∷ bytes) x fits e = kept_takes bytes x (AreBytes-rest 1 bytes fits) e
record_takes (suc (suc zero) ∷ bytes) x fits e = resync_takes bytes x (AreBytes-rest 2 bytes fits) e
record_takes (suc (suc (suc zero)) ∷ bytes) x fits e = recover_takes bytes x (AreBytes-rest 3 bytes fits) e
record_takes (suc (suc (suc (suc n))) ∷ bytes) x fits e = absurd cc

guard_ended : (b c : Bool) (x y : Record) → cond b (cond c (Ok x) (Err malformed)) (Err malformed) ≡ Ok y → (b ≡ true) × (c ≡ true) × (x ≡ y)
guard_ended true true x y e = (refl, refl, ok_is x y e)
guard_ended true false x y e = absurd cc
guard_ended false c x y e = absurd cc

-- a content that fits a frame
pub fits_frame : (b : Bool) (x y : List ℕ) → cond b (Err malformed) (Ok x) ≡ Ok y → (b ≡ false) × (x ≡ y)
fits_frame true x y e = absurd cc
fits_frame false x y e = (refl, cc)

-- what is read is spelt so, and keeps the rules
pub record_spelt : (bytes : List ℕ) (r : Record) → AreBytes bytes → record_of bytes ≡ Ok r → (spelling r ≡ bytes) × (is_record r ≡ true) × IsTyped r × (length bytes < 2 ^ 32)
unfolding record_of
record_spelt bytes r fits e =
    let w = bind_ok (content_of bytes) (λ content. record_at content >>= λ x. cond (eqb (length x.1) 0) (cond (is_record x.0) (Ok x.0) (Err malformed)) (Err malformed)) r e in
    let f = fits_frame (ltb 4294967295 (length bytes)) bytes w.0 w.1 in
    let few : length bytes ≤ 4294967295 = ltb-false _ _ f.0 in
    let a = bind_ok (record_at w.0) (λ x. cond (eqb (length x.1) 0) (cond (is_record x.0) (Ok x.0) (Err malformed)) (Err malformed)) r w.2 in
    let g = guard_ended (eqb (length a.0.1) 0) (is_record a.0.0) a.0.0 r a.2 in
    let t = record_takes bytes a.0 fits (ap record_at f.1 ∙ a.1) in
    let nothing : a.0.1 ≡ [] = nil_from_length a.0.1 (eqb-true _ _ g.0) in
    let whole : spelling a.0.0 ≡ bytes = sym (t.0.parts ∙ ap (λ (l : List ℕ). spelling a.0.0 ++ l) nothing ∙ append-nil (spelling a.0.0)) in
    subst (λ (y : Record). (spelling y ≡ bytes) × (is_record y ≡ true) × IsTyped y × (length bytes < 2 ^ 32)) g.2 (whole, g.1, t.1, omega arith)

pub words_of : (o : Op) → IsOperation o → HasTexts o.body → HasWords o
words_of o h texts = record { seq = omega arith; term = omega arith; version = omega arith; texts = texts }

all_words : (term : ℕ) (os : List Op) → AllByRecursion (IsUpTo term) os → AllByRecursion (λ o. HasTexts o.body) os → AllByRecursion HasWords os
all_words term [] h texts = tt
all_words term (o ∷ os) h texts = (words_of o h.0.0 texts.0, all_words term os h.1 texts.1)

record_again : (r : Record) (rest : List ℕ) → IsRecord r → IsTyped r → length (spelling r) < 2 ^ 32 → record_at (spelling r ++ rest) ≡ Ok (r, rest)
unfolding record_at kept_at resync_at recover_at
record_again (Kept g o) rest h typed few =
    rw (signed_again g (operation_bytes o ++ rest) typed.0, operation_again o rest (words_of o h.1 typed.1)) refl
record_again (Resync term g os) rest h typed few =
    let count : length os < 2 ^ 32 = omega (arith, operations_count os) in
    rw (number_again w64 (2 ^ 64) wide64 term (signed g ++ (operations_bytes os ++ rest)) (omega (arith, h.1.small)), signed_again g (operations_bytes os ++ rest) typed.0, operations_again os rest count (all_words term os h.2.each typed.1)) refl
record_again (Recover term os) rest h typed few =
    let count : length os < 2 ^ 32 = omega (arith, operations_count os) in
    rw (number_again w64 (2 ^ 64) wide64 term (operations_bytes os ++ rest) (omega (arith, h.0.small)), operations_again os rest count (all_words term os h.1.each typed)) refl

-- what is spelt so is read
pub spelling_read : (r : Record) → IsRecord r → IsTyped r → length (spelling r) < 2 ^ 32 → record_of (spelling r) ≡ Ok r
unfolding record_of
spelling_read r h typed few =
    let again : record_at (spelling r) ≡ Ok (r, []) = ap record_at (sym (append-nil (spelling r))) ∙ record_again r [] h typed few in
    let short : ltb 4294967295 (length (spelling r)) ≡ false = le-ltb _ _ (omega arith) in
    rw (short, again, record_test r h) refl

pub decoded : (bytes : List ℕ) (r : Result Record OpFault) → AreBytes bytes → Gives fault_of (λ x. x) r (record_of bytes) → IfOk r (λ x. (spelling x ≡ bytes) × IsRecord x)
decoded bytes (Ok x) fits given = let s = record_spelt bytes x fits given in (s.0, record_is x s.1)
decoded bytes (Err e) fits given = tt
