-- A field that is read is the field that was written, and what was written is read again.
use Rattle.std.proofs.Common.{◌≡◌, ℕ, suc, ◌+◌, ◌^◌, ◌<◌, ◌≤◌, Bool, true, false, cond, ltb, List, ◌∷◌, ◌++◌, length, take, drop, Result, Ok, Err, refl, sym, ap, subst, ◌∙◌, append_assoc, arith, inl, inr, ℤ}
use Rattle.std.specs.Prelude.{FitsSigned, ◌==◌}
use mir.Val.{Fits}
use Rattle.std.specs.Int.{Width, w16, w32, w64, byte_len, from_le_bytes, to_le_bytes, cast_signed, cast_unsigned}
use Rattle.std.specs.Str.{is_utf8}
use Rattle.std.proofs.lemmas.Bool.{cases_lt, ltb-false, le-ltb}
use Rattle.std.proofs.lemmas.List.{take_at, drop_at, take-append-drop, length-append, length-take, get_or-drop, get_or-take, get_or_past}
use Rattle.std.proofs.lemmas.Nat.{le_bytes_2, le_bytes_4, le_bytes_8, from_le_bytes-to_le_bytes_2, from_le_bytes-to_le_bytes_4, from_le_bytes-to_le_bytes_8}
use Rattle.std.proofs.lemmas.Int.{to_z-of_z, of_z-to_z}
use Rattle.std.proofs.lemmas.Str.{IsUtf8-from_is_utf8, is_utf8-from_IsUtf8}
use Rattle.std.proofs.Math.Facts as facts
use Rattle.doc.specs.Outcome.{◌>>=◌}
use Rattle.doc.specs.Fault as doc
use Rattle.doc.specs.Id.{id_of}
use Rattle.doc.specs.Source.{source_of}
use Rattle.op.specs.FormatFault.{Fault, malformed}
use Rattle.op.specs.Format.{AreBytes, signed, id_bytes, source_bytes, IsIdText, IsSourceText}
use Rattle.op.specs.Reading.{number_at, signed_at, text_at, text_or, id_at, source_at}

AreBytes-drop : (n : ℕ) (bytes : List ℕ) → AreBytes bytes → AreBytes (drop n bytes)
AreBytes-drop n bytes h i = rw get_or-drop (h (n + i))

AreBytes-take : (n : ℕ) (bytes : List ℕ) → AreBytes bytes → AreBytes (take n bytes)
AreBytes-take n bytes h i =
    elim (cases_lt i n) [
      | inl lt ↦ rw (get_or-take n bytes i 0 lt) (h i)
      | inr le ↦ rw (get_or_past (take n bytes) i 0 (omega (arith, length-take n bytes))) (omega arith)
    ]

pub AreBytes-rest : (b : ℕ) (bytes : List ℕ) → AreBytes (b ∷ bytes) → AreBytes bytes
AreBytes-rest b bytes h i = h (suc i)

-- the value of a step that did not fail
pub bind_ok : {A B : Type 0} (r : Result A Fault) (f : A → Result B Fault) (y : B) → (r >>= f) ≡ Ok y → (x : A) × (r ≡ Ok x) × (f x ≡ Ok y)
bind_ok (Ok x) f y e = (x, refl, e)
bind_ok (Err d) f y e = absurd cc

-- a test that did not fail
pub guard_ok : {A : Type 0} (b : Bool) (d : Fault) (x y : A) → cond b (Err d) (Ok x) ≡ Ok y → (b ≡ false) × (x ≡ y)
guard_ok true d x y e = absurd cc
guard_ok false d x y e = (refl, cc)

abbrev done : {A : Type 0} → A → Result A Fault
done x = Ok x

pub ok_is : {A : Type 0} (x y : A) → done x ≡ done y → x ≡ y
ok_is x y e = cc

-- what a reader took from the front
pub record Takes (bytes text rest : List ℕ) : Type 0 where
  pub parts : bytes ≡ text ++ rest
  pub rest_fits : AreBytes rest

pub Takes-then : (a x b y c : List ℕ) → Takes a x b → Takes b y c → Takes a (x ++ y) c
Takes-then a x b y c p q = record { parts = p.parts ∙ ap (λ (t : List ℕ). x ++ t) q.parts ∙ sym (append_assoc x y c); rest_fits = q.rest_fits }

-- ---- numbers

pub record IsWide (w : Width) (limit : ℕ) : Type 0 where
  pub len : (n : ℕ) → length (to_le_bytes w n) ≡ byte_len w
  pub back : (bytes : List ℕ) → length bytes ≡ byte_len w → AreBytes bytes → to_le_bytes w (from_le_bytes w bytes) ≡ bytes
  pub again : (n : ℕ) → n < limit → from_le_bytes w (to_le_bytes w n) ≡ n
  pub below : (bytes : List ℕ) → AreBytes bytes → from_le_bytes w bytes < limit

pub wide16 : IsWide w16 (2 ^ 16)
wide16 = record {
  len = λ n. refl;
  back = λ bytes len fits. le_bytes_2 bytes _ len fits refl;
  again = λ n lt. from_le_bytes-to_le_bytes_2 n lt;
  below = λ bytes fits. omega (arith, fits 0, fits 1);
}

pub wide32 : IsWide w32 (2 ^ 32)
wide32 = record {
  len = λ n. refl;
  back = λ bytes len fits. le_bytes_4 bytes _ len fits refl;
  again = λ n lt. from_le_bytes-to_le_bytes_4 n lt;
  below = λ bytes fits. omega (arith, fits 0, fits 1, fits 2, fits 3);
}

pub wide64 : IsWide w64 (2 ^ 64)
wide64 = record {
  len = λ n. refl;
  back = λ bytes len fits. le_bytes_8 bytes _ len fits refl;
  again = λ n lt. from_le_bytes-to_le_bytes_8 n lt;
  below = λ bytes fits. omega (arith, fits 0, fits 1, fits 2, fits 3, fits 4, fits 5, fits 6, fits 7);
}

pub number_takes : (w : Width) (limit : ℕ) (wide : IsWide w limit) (bytes : List ℕ) (n : ℕ) (rest : List ℕ) → AreBytes bytes → number_at w bytes ≡ Ok (n, rest) → Takes bytes (to_le_bytes w n) rest × (n < limit)
number_takes w limit wide bytes n rest fits e =
    let g = guard_ok (ltb (length bytes) (byte_len w)) malformed (from_le_bytes w (take (byte_len w) bytes), drop (byte_len w) bytes) (n, rest) e in
    let long : byte_len w ≤ length bytes = ltb-false _ _ g.0 in
    let n-is : from_le_bytes w (take (byte_len w) bytes) ≡ n = ap (λ (p : ℕ × List ℕ). p.0) g.1 in
    let rest-is : drop (byte_len w) bytes ≡ rest = ap (λ (p : ℕ × List ℕ). p.1) g.1 in
    let front : to_le_bytes w n ≡ take (byte_len w) bytes = rw (← n-is) (wide.back (take (byte_len w) bytes) (omega (arith, length-take (byte_len w) bytes)) (AreBytes-take (byte_len w) bytes fits)) in
    (record { parts = rw (front, ← rest-is) (sym (take-append-drop (byte_len w) bytes)); rest_fits = rw (← rest-is) (AreBytes-drop (byte_len w) bytes fits) }, rw (← n-is) (wide.below (take (byte_len w) bytes) (AreBytes-take (byte_len w) bytes fits)))

pub number_again : (w : Width) (limit : ℕ) (wide : IsWide w limit) (n : ℕ) (rest : List ℕ) → n < limit → number_at w (to_le_bytes w n ++ rest) ≡ Ok (n, rest)
number_again w limit wide n rest lt =
    let len = wide.len n in
    let long : ltb (length (to_le_bytes w n ++ rest)) (byte_len w) ≡ false = le-ltb _ _ (omega (arith, length-append (to_le_bytes w n) rest)) in
    rw (long, take_at (to_le_bytes w n) rest (byte_len w) len, drop_at (to_le_bytes w n) rest (byte_len w) len, wide.again n lt) refl

facts_fit : (n : ℕ) → n < 2 ^ 64 → Fits w64 n
facts_fit n lt = omega arith

pub signed_takes : (bytes : List ℕ) (z : ℤ) (rest : List ℕ) → AreBytes bytes → signed_at bytes ≡ Ok (z, rest) → Takes bytes (signed z) rest × FitsSigned w64 z
unfolding signed_at
signed_takes bytes z rest fits e =
    let b = bind_ok (number_at w64 bytes) (λ n. Ok (cast_signed w64 n.0, n.1)) (z, rest) e in
    let n = b.0 in
    let t = number_takes w64 (2 ^ 64) wide64 bytes n.0 n.1 fits b.1 in
    let same : cast_unsigned w64 (cast_signed w64 n.0) ≡ n.0 = of_z-to_z w64 n.0 t.1 in
    let whole : Takes bytes (signed (cast_signed w64 n.0)) n.1 = subst (λ (k : ℕ). Takes bytes (to_le_bytes w64 k) n.1) (sym same) t.0 in
    subst (λ (p : ℤ × List ℕ). Takes bytes (signed p.0) p.1 × FitsSigned w64 p.0) (ok_is (cast_signed w64 n.0, n.1) (z, rest) b.2) (whole, facts.sfits_to_z (facts_fit n.0 t.1))

pub signed_again : (z : ℤ) (rest : List ℕ) → FitsSigned w64 z → signed_at (signed z ++ rest) ≡ Ok (z, rest)
unfolding signed_at
signed_again z rest fits =
    let small : cast_unsigned w64 z < 2 ^ 64 = omega (arith, facts.Fits-of_z fits) in
    let again = number_again w64 (2 ^ 64) wide64 (cast_unsigned w64 z) rest small in
    rw (again, to_z-of_z w64 z fits) refl

-- ---- texts

pub text_takes : (w : Width) (limit : ℕ) (wide : IsWide w limit) (bytes text rest : List ℕ) → AreBytes bytes → text_at w bytes ≡ Ok (text, rest) → Takes bytes (to_le_bytes w (length text) ++ text) rest
unfolding text_at
text_takes w limit wide bytes text rest fits e =
    let b = bind_ok (number_at w bytes) (λ n. cond (ltb (length n.1) n.0) (Err malformed) (Ok (take n.0 n.1, drop n.0 n.1))) (text, rest) e in
    let n = b.0 in
    let t = number_takes w limit wide bytes n.0 n.1 fits b.1 in
    let g = guard_ok (ltb (length n.1) n.0) malformed (take n.0 n.1, drop n.0 n.1) (text, rest) b.2 in
    let long : n.0 ≤ length n.1 = ltb-false _ _ g.0 in
    let len : length (take n.0 n.1) ≡ n.0 = omega (arith, length-take n.0 n.1) in
    let second : Takes n.1 (take n.0 n.1) (drop n.0 n.1) = record { parts = sym (take-append-drop n.0 n.1); rest_fits = AreBytes-drop n.0 n.1 t.0.rest_fits } in
    let both = Takes-then bytes (to_le_bytes w n.0) n.1 (take n.0 n.1) (drop n.0 n.1) t.0 second in
    let whole : Takes bytes (to_le_bytes w (length (take n.0 n.1)) ++ take n.0 n.1) (drop n.0 n.1) = subst (λ (k : ℕ). Takes bytes (to_le_bytes w k ++ take n.0 n.1) (drop n.0 n.1)) (sym len) both in
    subst (λ (p : List ℕ × List ℕ). Takes bytes (to_le_bytes w (length p.0) ++ p.0) p.1) g.1 whole

pub text_again : (w : Width) (limit : ℕ) (wide : IsWide w limit) (text rest : List ℕ) → length text < limit → text_at w ((to_le_bytes w (length text) ++ text) ++ rest) ≡ Ok (text, rest)
unfolding text_at
text_again w limit wide text rest lt =
    let long : ltb (length (text ++ rest)) (length text) ≡ false = le-ltb _ _ (omega (arith, length-append text rest)) in
    ap (text_at w) (append_assoc (to_le_bytes w (length text)) text rest) ∙ rw (number_again w limit wide (length text) (text ++ rest) lt, long, take_at text rest (length text) refl, drop_at text rest (length text) refl) refl

text_is : (b : Bool) (r : Result (List ℕ) doc.Fault) (x : List ℕ) → text_or b r ≡ Ok x → (b ≡ true) × (r ≡ Ok x)
text_is true (Ok y) x e = (refl, ap (λ (t : List ℕ). Ok t) (ok_is y x e))
text_is true (Err d) x e = absurd cc
text_is false r x e = absurd cc

one_test : (b : Bool) (d : doc.Fault) (x y : List ℕ) → cond b (Err d) (Ok x) ≡ Ok y → (b ≡ false) × (x ≡ y)
one_test true d x y e = absurd cc
one_test false d x y e = (refl, cc)

two_tests : (a b : Bool) (d f : doc.Fault) (x y : List ℕ) → cond a (Err d) (cond b (Err f) (Ok x)) ≡ Ok y → (b ≡ false) × (x ≡ y)
two_tests true b d f x y e = absurd cc
two_tests false b d f x y e = one_test b f x y e

first_test : (a b : Bool) (d f : doc.Fault) (x y : List ℕ) → cond a (Err d) (cond b (Err f) (Ok x)) ≡ Ok y → a ≡ false
first_test true b d f x y e = absurd cc
first_test false b d f x y e = refl

id_is : (text id : List ℕ) → id_of text ≡ Ok id → text ≡ id
id_is text id e = (two_tests (length text == 0) (ltb 512 (length text)) doc.id_empty doc.id_too_long text id e).1

source_is : (text source : List ℕ) → source_of text ≡ Ok source → text ≡ source
source_is text source e = (two_tests (ltb 65536 (length text)) (ltb (length text) 2) doc.too_large doc.not_object text source e).1

pub id_at_most : (id : List ℕ) → id_of id ≡ Ok id → length id ≤ 512
id_at_most id e = ltb-false _ _ (two_tests (length id == 0) (ltb 512 (length id)) doc.id_empty doc.id_too_long id id e).0

id_short : (id : List ℕ) → id_of id ≡ Ok id → length id < 2 ^ 16
id_short id e = let le = id_at_most id e in omega arith

pub source_at_most : (source : List ℕ) → source_of source ≡ Ok source → length source ≤ 65536
source_at_most source e = ltb-false _ _ (first_test (ltb 65536 (length source)) (ltb (length source) 2) doc.too_large doc.not_object source source e)

source_short : (source : List ℕ) → source_of source ≡ Ok source → length source < 2 ^ 32
source_short source e = let le = source_at_most source e in omega arith

pub id_takes : (bytes id rest : List ℕ) → AreBytes bytes → id_at bytes ≡ Ok (id, rest) → Takes bytes (id_bytes id) rest × IsIdText id
unfolding id_at
id_takes bytes id rest fits e =
    let a = bind_ok (text_at w16 bytes) (λ text. text_or (is_utf8 text.0) (id_of text.0) >>= λ x. Ok (x, text.1)) (id, rest) e in
    let b = bind_ok (text_or (is_utf8 a.0.0) (id_of a.0.0)) (λ x. Ok (x, a.0.1)) (id, rest) a.2 in
    let good = text_is (is_utf8 a.0.0) (id_of a.0.0) b.0 b.1 in
    let same = id_is a.0.0 b.0 good.1 in
    let t = text_takes w16 (2 ^ 16) wide16 bytes a.0.0 a.0.1 fits a.1 in
    let text : IsIdText a.0.0 = (IsUtf8-from_is_utf8 a.0.0 good.0, good.1 ∙ ap (λ (x : List ℕ). Ok x) (sym same)) in
    subst (λ (p : List ℕ × List ℕ). Takes bytes (id_bytes p.0) p.1 × IsIdText p.0) (ap (λ (x : List ℕ). (x, a.0.1)) same ∙ ok_is (b.0, a.0.1) (id, rest) b.2) (t, text)

pub id_again : (id rest : List ℕ) → IsIdText id → id_at (id_bytes id ++ rest) ≡ Ok (id, rest)
unfolding id_at
id_again id rest text = rw (text_again w16 (2 ^ 16) wide16 id rest (id_short id text.1), is_utf8-from_IsUtf8 id text.0, text.1) refl

pub source_takes : (bytes source rest : List ℕ) → AreBytes bytes → source_at bytes ≡ Ok (source, rest) → Takes bytes (source_bytes source) rest × IsSourceText source
unfolding source_at
source_takes bytes source rest fits e =
    let a = bind_ok (text_at w32 bytes) (λ text. text_or (is_utf8 text.0) (source_of text.0) >>= λ x. Ok (x, text.1)) (source, rest) e in
    let b = bind_ok (text_or (is_utf8 a.0.0) (source_of a.0.0)) (λ x. Ok (x, a.0.1)) (source, rest) a.2 in
    let good = text_is (is_utf8 a.0.0) (source_of a.0.0) b.0 b.1 in
    let same = source_is a.0.0 b.0 good.1 in
    let t = text_takes w32 (2 ^ 32) wide32 bytes a.0.0 a.0.1 fits a.1 in
    let text : IsSourceText a.0.0 = (IsUtf8-from_is_utf8 a.0.0 good.0, good.1 ∙ ap (λ (x : List ℕ). Ok x) (sym same)) in
    subst (λ (p : List ℕ × List ℕ). Takes bytes (source_bytes p.0) p.1 × IsSourceText p.0) (ap (λ (x : List ℕ). (x, a.0.1)) same ∙ ok_is (b.0, a.0.1) (source, rest) b.2) (t, text)

pub source_again : (source rest : List ℕ) → IsSourceText source → source_at (source_bytes source ++ rest) ≡ Ok (source, rest)
unfolding source_at
source_again source rest text = rw (text_again w32 (2 ^ 32) wide32 source rest (source_short source text.1), is_utf8-from_IsUtf8 source text.0, text.1) refl
