-- The laws of a frame's records: what is read is spelt so, what is spelt so is read, and a group is never too large.
use Rattle.std.proofs.Common.{◌≤◌, ◌≡◌, ℕ, zero, suc, ◌+◌, ◌*◌, ◌^◌, ◌<◌, Bool, true, false, cond, eqb, List, [], ◌∷◌, ◌++◌, length, drop, Result, Ok, Err, refl, sym, ap, subst, ◌∙◌, append_assoc, length-append, arith, ◌≢◌, get_or, ltb, if◌then◌else◌}
use Rattle.std.specs.Prelude.{nat_le, ◌&&◌, IfOk}
use Rattle.std.specs.List.{flat_map, list_all, AllByRecursion}
use Rattle.std.specs.Int.{w32, w64, to_le_bytes}
use Rattle.std.proofs.lemmas.Bool.{eqb-true}
use Rattle.std.proofs.lemmas.Bool.Decides.{nat_tests}
use Rattle.std.proofs.lemmas.List.{append-nil, nil_from_length}
use Rattle.doc.specs.Outcome.{◌>>=◌, Gives}
use Rattle.op.specs.declared.operation.Body.{Body}
use Rattle.op.specs.declared.operation.Body.TheVariants.{Index, Delete, NoOp}
use Rattle.op.specs.declared.record.Record.{Record}
use Rattle.op.specs.declared.record.Record.TheVariants.{Op as Kept, Resync, Recover}
use Rattle.op.specs.declared.fault.OpFault.{OpFault}
use Rattle.op.specs.FormatFault.{Fault, fault_of, malformed, too_large}
use Rattle.op.specs.Rules.{is_record, is_of_group, is_group_count, is_group}
use Rattle.op.specs.Format.{AreBytes, signed, operation_bytes, spelling, kept_fields, group_spelling, frame_spelling, frame_encoded, is_too_large, HasTexts, IsTyped, body_bytes}
use Rattle.op.specs.Reading.{number_at, kept_at, content_of, record_at, record_of, so_many_kept_at, group_at, group_of, has_tag, alone_of, records_of}
use Rattle.op.specs.Records.{IsRecord, IsOfGroup, IsGroup, AreOfOneFrame}
use Rattle.op.proofs.Fields.{AreBytes-rest, bind_ok, ok_is, Takes, Takes-then, wide32, number_takes, number_again, signed_again, id_at_most, source_at_most}
use Rattle.op.proofs.RulesLaws.{record_is, record_test}
use Rattle.op.proofs.Spellings.{fields_take, fits_frame, record_spelt, spelling_read, words_of, operation_again}

-- ---- the rules of a group

of_group_is : (r : Record) → is_of_group r ≡ true → IsOfGroup r
of_group_is (Kept g o) e = record_is (Kept g o) e
of_group_is (Resync term g os) e = absurd cc
of_group_is (Recover term os) e = absurd cc

of_group_test : (r : Record) → IsOfGroup r → is_of_group r ≡ true
of_group_test (Kept g o) h = record_test (Kept g o) h
of_group_test (Resync term g os) h = absurd h
of_group_test (Recover term os) h = absurd h

all_of_group : (rs : List Record) → list_all is_of_group rs ≡ true → AllByRecursion IsOfGroup rs
all_of_group [] e = tt
all_of_group (r ∷ rs) e = let p = both (is_of_group r) (list_all is_of_group rs) e in (of_group_is r p.0, all_of_group rs p.1)
  where
    both : (a b : Bool) → (a && b) ≡ true → (a ≡ true) × (b ≡ true)
    both true b e = (refl, e)
    both false b e = absurd cc

pub all_test : (rs : List Record) → AllByRecursion IsOfGroup rs → list_all is_of_group rs ≡ true
all_test [] h = refl
all_test (r ∷ rs) h = rw (of_group_test r h.0) (all_test rs h.1)

several : (n : ℕ) → is_group_count n ≡ true → 2 ≤ n
several n e = grind (arith, nat_tests)

few : (n : ℕ) → is_group_count n ≡ true → n ≤ 1024
few n e = grind (arith, nat_tests)

count_test : (n : ℕ) → 2 ≤ n → n ≤ 1024 → is_group_count n ≡ true
count_test n l m = grind (arith, nat_tests)

-- ---- what is read is spelt so

so_many_take : (n : ℕ) (bytes : List ℕ) (x : List Record × List ℕ) → AreBytes bytes → so_many_kept_at n bytes ≡ Ok x
    → Takes bytes (flat_map kept_fields x.0) x.1 × (length x.0 ≡ n) × AllByRecursion IsTyped x.0
unfolding so_many_kept_at
so_many_take zero bytes x fits e =
    subst (λ (y : List Record × List ℕ). Takes bytes (flat_map kept_fields y.0) y.1 × (length y.0 ≡ 0) × AllByRecursion IsTyped y.0) (ok_is ([], bytes) x e) (record { parts = refl; rest_fits = fits }, refl, tt)
so_many_take (suc n) bytes x fits e =
    let a = bind_ok (kept_at bytes) (λ first. so_many_kept_at n first.1 >>= λ others. Ok (first.0 ∷ others.0, others.1)) x e in
    let b = bind_ok (so_many_kept_at n a.0.1) (λ others. Ok (a.0.0 ∷ others.0, others.1)) x a.2 in
    let first = fields_take bytes a.0 fits a.1 in
    let second = so_many_take n a.0.1 b.0 first.0.rest_fits b.1 in
    let both = Takes-then bytes (kept_fields a.0.0) a.0.1 (flat_map kept_fields b.0.0) b.0.1 first.0 second.0 in
    let made : List Record × List ℕ = (a.0.0 ∷ b.0.0, b.0.1) in
    subst (λ (y : List Record × List ℕ). Takes bytes (flat_map kept_fields y.0) y.1 × (length y.0 ≡ suc n) × AllByRecursion IsTyped y.0) (ok_is made x b.2) (both, ap suc second.1, (first.1, second.2))

-- a test that had to hold
guarded : {A : Type 0} (b : Bool) (read : Result A Fault) (x : A) → cond b read (Err malformed) ≡ Ok x → (b ≡ true) × (read ≡ Ok x)
guarded true read x e = (refl, e)
guarded false read x e = absurd cc

group_takes : (bytes : List ℕ) (x : List Record × List ℕ) → AreBytes bytes → group_at bytes ≡ Ok x
    → Takes bytes (to_le_bytes w32 (length x.0) ++ flat_map kept_fields x.0) x.1 × (is_group_count (length x.0) ≡ true) × AllByRecursion IsTyped x.0
unfolding group_at
group_takes bytes x fits e =
    let a = bind_ok (number_at w32 bytes) (λ count. cond (is_group_count count.0) (so_many_kept_at count.0 count.1) (Err malformed)) x e in
    let g = guarded (is_group_count a.0.0) (so_many_kept_at a.0.0 a.0.1) x a.2 in
    let first = number_takes w32 (2 ^ 32) wide32 bytes a.0.0 a.0.1 fits a.1 in
    let second = so_many_take a.0.0 a.0.1 x first.0.rest_fits g.1 in
    let both = Takes-then bytes (to_le_bytes w32 a.0.0) a.0.1 (flat_map kept_fields x.0) x.1 first.0 second.0 in
    subst (λ (k : ℕ). Takes bytes (to_le_bytes w32 k ++ flat_map kept_fields x.0) x.1 × (is_group_count k ≡ true) × AllByRecursion IsTyped x.0) (sym second.1) (both, g.0, second.2)

group_spelt : (bytes : List ℕ) (rs : List Record) → AreBytes bytes → group_of bytes ≡ Ok rs → (group_spelling rs ≡ 4 ∷ bytes) × IsGroup rs × AllByRecursion IsTyped rs
unfolding group_of
group_spelt bytes rs fits e =
    let a = bind_ok (group_at bytes) (λ x. cond (eqb (length x.1) 0) (cond (list_all is_of_group x.0) (Ok x.0) (Err malformed)) (Err malformed)) rs e in
    let g = guarded (eqb (length a.0.1) 0) (cond (list_all is_of_group a.0.0) (Ok a.0.0) (Err malformed)) rs a.2 in
    let h = guarded (list_all is_of_group a.0.0) (Ok a.0.0) rs g.1 in
    let t = group_takes bytes a.0 fits a.1 in
    let nothing : a.0.1 ≡ [] = nil_from_length a.0.1 (eqb-true _ _ g.0) in
    let fields = to_le_bytes w32 (length a.0.0) ++ flat_map kept_fields a.0.0 in
    let whole : fields ≡ bytes = sym (t.0.parts ∙ ap (λ (l : List ℕ). fields ++ l) nothing ∙ append-nil fields) in
    let group : IsGroup a.0.0 = record { several = several (length a.0.0) t.1; few = few (length a.0.0) t.1; each = all_of_group a.0.0 h.0 } in
    subst (λ (y : List Record). (group_spelling y ≡ 4 ∷ bytes) × IsGroup y × AllByRecursion IsTyped y) (ok_is a.0.0 rs h.1) (ap (λ (l : List ℕ). 4 ∷ l) whole, group, t.2)

-- ---- lengths

body_at_most : (b : Body) → HasTexts b → length (body_bytes b) ≤ 66055
body_at_most NoOp texts = omega arith
body_at_most (Index id source) texts = let joined = length-append id (to_le_bytes w32 (length source) ++ source) in omega (arith, id_at_most id texts.0.1, source_at_most source texts.1.1)
body_at_most (Delete id) texts = omega (arith, id_at_most id texts.1)

fields_at_most : (r : Record) → IsTyped r → length (kept_fields r) ≤ 66087
fields_at_most (Kept g o) typed = let one = body_at_most o.body typed.1 in omega arith
fields_at_most (Resync term g os) typed = omega arith
fields_at_most (Recover term os) typed = omega arith

all_at_most : (rs : List Record) → AllByRecursion IsTyped rs → length (flat_map kept_fields rs) ≤ length rs * 66087
all_at_most [] typed = omega arith
all_at_most (r ∷ rs) typed = let joined = length-append (kept_fields r) (flat_map kept_fields rs) in let one = fields_at_most r typed.0 in let rest = all_at_most rs typed.1 in omega arith

pub small_group : (rs : List Record) → IsGroup rs → AllByRecursion IsTyped rs → length (group_spelling rs) < 2 ^ 32
small_group rs group typed = let all = all_at_most rs typed in let most = group.few in omega arith

-- ---- the records of a frame

group_frame : (rs : List Record) → IsGroup rs → (frame_spelling rs ≡ group_spelling rs) × AreOfOneFrame rs
group_frame [] group = absurd (omega (arith, group.several))
group_frame (r ∷ []) group = absurd (omega (arith, group.several))
group_frame (r ∷ s ∷ rs) group = (refl, group)

alone_spelt : (bytes : List ℕ) (rs : List Record) → AreBytes bytes → alone_of bytes ≡ Ok rs → (frame_spelling rs ≡ bytes) × AreOfOneFrame rs × AllByRecursion IsTyped rs × (length bytes < 2 ^ 32)
unfolding alone_of
alone_spelt bytes rs fits e =
    let a = bind_ok (record_of bytes) (λ r. Ok (r ∷ [])) rs e in
    let s = record_spelt bytes a.0 fits a.1 in
    subst (λ (y : List Record). (frame_spelling y ≡ bytes) × AreOfOneFrame y × AllByRecursion IsTyped y × (length bytes < 2 ^ 32)) (ok_is (a.0 ∷ []) rs a.2) (s.0, record_is a.0 s.1, (s.2, tt), s.3)

grouped_spelt : (bytes : List ℕ) (rs : List Record) → AreBytes bytes → has_tag 4 bytes ≡ true → group_of (drop 1 bytes) ≡ Ok rs → (frame_spelling rs ≡ bytes) × AreOfOneFrame rs × AllByRecursion IsTyped rs × (length bytes < 2 ^ 32)
grouped_spelt [] rs fits tag e = absurd cc
grouped_spelt (b ∷ bytes) rs fits tag e =
    let s = group_spelt bytes rs (AreBytes-rest b bytes fits) e in
    let f = group_frame rs s.1 in
    let four : 4 ≡ b = sym (eqb-true b 4 tag) in
    (f.0 ∙ s.0 ∙ ap (λ (k : ℕ). k ∷ bytes) four, f.1, s.2, subst (λ (l : List ℕ). length l < 2 ^ 32) s.0 (small_group rs s.1 s.2))

by_tag : (b : Bool) (bytes : List ℕ) (rs : List Record) → AreBytes bytes → has_tag 4 bytes ≡ b → cond b (group_of (drop 1 bytes)) (alone_of bytes) ≡ Ok rs → (frame_spelling rs ≡ bytes) × AreOfOneFrame rs × AllByRecursion IsTyped rs × (length bytes < 2 ^ 32)
by_tag true bytes rs fits tag e = grouped_spelt bytes rs fits tag e
by_tag false bytes rs fits tag e = alone_spelt bytes rs fits e

pub frame_spelt : (bytes : List ℕ) (rs : List Record) → AreBytes bytes → records_of bytes ≡ Ok rs → (frame_spelling rs ≡ bytes) × AreOfOneFrame rs × AllByRecursion IsTyped rs × (length bytes < 2 ^ 32)
unfolding records_of
frame_spelt bytes rs fits e = by_tag (has_tag 4 bytes) bytes rs fits refl e

-- ---- what is spelt so is read

so_many_again : (rs : List Record) (rest : List ℕ) → AllByRecursion IsOfGroup rs → AllByRecursion IsTyped rs → so_many_kept_at (length rs) (flat_map kept_fields rs ++ rest) ≡ Ok (rs, rest)
unfolding so_many_kept_at kept_at
so_many_again [] rest each typed = refl
so_many_again (Kept g o ∷ rs) rest each typed =
    let others = flat_map kept_fields rs ++ rest in
    let regrouped : flat_map kept_fields (Kept g o ∷ rs) ++ rest ≡ signed g ++ (operation_bytes o ++ others) = append_assoc (signed g ++ operation_bytes o) (flat_map kept_fields rs) rest ∙ append_assoc (signed g) (operation_bytes o) others in
    ap (so_many_kept_at (suc (length rs))) regrouped ∙ rw (signed_again g (operation_bytes o ++ others) typed.0.0, operation_again o others (words_of o each.0.1 typed.0.1), so_many_again rs rest each.1 typed.1) refl
so_many_again (Resync term g os ∷ rs) rest each typed = absurd each.0
so_many_again (Recover term os ∷ rs) rest each typed = absurd each.0

group_again : (rs : List Record) → IsGroup rs → AllByRecursion IsTyped rs → group_of (to_le_bytes w32 (length rs) ++ flat_map kept_fields rs) ≡ Ok rs
unfolding group_of group_at
group_again rs group typed =
    let most = group.few in
    let count : number_at w32 (to_le_bytes w32 (length rs) ++ flat_map kept_fields rs) ≡ Ok (length rs, flat_map kept_fields rs) = number_again w32 (2 ^ 32) wide32 (length rs) (flat_map kept_fields rs) (omega arith) in
    let all : so_many_kept_at (length rs) (flat_map kept_fields rs) ≡ Ok (rs, []) = ap (so_many_kept_at (length rs)) (sym (append-nil (flat_map kept_fields rs))) ∙ so_many_again rs [] group.each typed in
    rw (count, count_test (length rs) group.several group.few, all, all_test rs group.each) refl

alone_again : (r : Record) → IsRecord r → IsTyped r → length (spelling r) < 2 ^ 32 → records_of (spelling r) ≡ Ok (r ∷ [])
unfolding records_of alone_of
alone_again (Kept g o) h typed short = rw (spelling_read (Kept g o) h typed short) refl
alone_again (Resync term g os) h typed short = rw (spelling_read (Resync term g os) h typed short) refl
alone_again (Recover term os) h typed short = rw (spelling_read (Recover term os) h typed short) refl

pub frame_again : (rs : List Record) → AreOfOneFrame rs → AllByRecursion IsTyped rs → length (frame_spelling rs) < 2 ^ 32 → records_of (frame_spelling rs) ≡ Ok rs
unfolding records_of
frame_again [] h typed short = absurd h
frame_again (r ∷ []) h typed short = alone_again r h typed.0 short
frame_again (r ∷ s ∷ rs) h typed short = group_again (r ∷ s ∷ rs) h typed

-- ---- spelling the records of a frame

pub several_encoded : (rs : List Record) → length rs ≢ 1 → frame_encoded rs ≡ (if is_group rs then Ok (group_spelling rs) else Err malformed)
several_encoded [] n = refl
several_encoded (r ∷ []) n = absurd (n refl)
several_encoded (r ∷ s ∷ rs) n = refl

pub several_read : (rs : List Record) (content : List ℕ) → is_group_count (length rs) ≡ true → list_all is_of_group rs ≡ true → AllByRecursion IsTyped rs → content ≡ group_spelling rs → records_of content ≡ Ok rs
unfolding records_of
several_read rs content count each typed is =
    ap records_of is ∙ group_again rs (record { several = several (length rs) count; few = few (length rs) count; each = all_of_group rs each }) typed

group_test : (rs : List Record) → IsGroup rs → is_group rs ≡ true
group_test rs group = rw (count_test (length rs) group.several group.few) (all_test rs group.each)

small_or : {A : Type 0} (b : Bool) (d : Fault) (x y : A) → cond b (Err d) (Ok x) ≡ Ok y → y ≡ x
small_or true d x y e = absurd cc
small_or false d x y e = sym (ok_is x y e)

large_or : {A : Type 0} (b : Bool) (d f : Fault) (x : A) → cond b (Err d) (Ok x) ≡ Err f → b ≡ true
large_or true d f x e = refl
large_or false d f x e = absurd cc

-- records of one frame are spelt as they are, where they are spelt
pub encoded_ok : (rs : List Record) (content : List ℕ) → AreOfOneFrame rs → frame_encoded rs ≡ Ok content → content ≡ frame_spelling rs
encoded_ok [] content h e = absurd h
encoded_ok (r ∷ []) content h e = small_or (is_too_large r) too_large (spelling r) content (rw (record_test r h) at e)
encoded_ok (r ∷ s ∷ rs) content h e = sym (ok_is (group_spelling (r ∷ s ∷ rs)) content (rw (group_test (r ∷ s ∷ rs) h) at e))

-- and else they are too large
pub encoded_large : (rs : List Record) (d : Fault) → AreOfOneFrame rs → frame_encoded rs ≡ Err d → ltb 4294967295 (length (frame_spelling rs)) ≡ true
encoded_large [] d h e = absurd h
encoded_large (r ∷ []) d h e = large_or (is_too_large r) too_large d (spelling r) (rw (record_test r h) at e)
encoded_large (r ∷ s ∷ rs) d h e = absurd (err_ok (group_spelling (r ∷ s ∷ rs)) d (rw (group_test (r ∷ s ∷ rs) h) at e))
  where
    err_ok : (x : List ℕ) (d : Fault) → (let y : Result (List ℕ) Fault = Ok x in y) ≡ Err d → ⊥
    err_ok x d e = absurd cc

pub only_one : (rs : List Record) (r : Record) → length rs ≡ 1 → r ≡ get_or rs 0 r → rs ≡ r ∷ []
only_one [] r n is = absurd (omega (arith, n))
only_one (s ∷ []) r n is = ap (λ (x : Record). x ∷ []) (sym is)
only_one (s ∷ t ∷ rs) r n is = absurd (omega (arith, n))

no_group : (bytes : List ℕ) (x : Record × List ℕ) → record_at bytes ≡ Ok x → has_tag 4 bytes ≡ false
unfolding record_at
no_group [] x e = refl
no_group (zero ∷ bytes) x e = refl
no_group (suc zero ∷ bytes) x e = refl
no_group (suc (suc zero) ∷ bytes) x e = refl
no_group (suc (suc (suc zero)) ∷ bytes) x e = refl
no_group (suc (suc (suc (suc n))) ∷ bytes) x e = absurd cc

-- what is read as one record is the only one of its frame
pub alone_read : (bytes : List ℕ) (r : Record) → record_of bytes ≡ Ok r → records_of bytes ≡ Ok (r ∷ [])
unfolding records_of alone_of record_of
alone_read bytes r e =
    let w = bind_ok (content_of bytes) (λ content. record_at content >>= λ x. cond (eqb (length x.1) 0) (cond (is_record x.0) (Ok x.0) (Err malformed)) (Err malformed)) r e in
    let f = fits_frame (ltb 4294967295 (length bytes)) bytes w.0 w.1 in
    let a = bind_ok (record_at w.0) (λ x. cond (eqb (length x.1) 0) (cond (is_record x.0) (Ok x.0) (Err malformed)) (Err malformed)) r w.2 in
    rw (no_group bytes a.0 (ap record_at f.1 ∙ a.1), e) refl

-- ---- the records of a frame as the code has them

pub frame_decoded : {X : Type 0} (items : X → List Record) (bytes : List ℕ) (r : Result X OpFault) → AreBytes bytes → Gives fault_of items r (records_of bytes) → IfOk r (λ x. (frame_spelling (items x) ≡ bytes) × AreOfOneFrame (items x))
frame_decoded items bytes (Ok x) fits given = let s = frame_spelt bytes (items x) fits given in (s.0, s.1)
frame_decoded items bytes (Err e) fits given = tt
