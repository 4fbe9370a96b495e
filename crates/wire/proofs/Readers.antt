-- Readers read httparse's pieces: what they give is a piece, and each piece is given.
use Rattle.std.proofs.Common.{◌≡◌, ℕ, zero, suc, ◌+◌, ◌<◌, ◌≤◌, ◌==◌, ◌||◌, eqb, eqb-true, eq-eqb, Bool, true, false, List, [], ◌∷◌, ◌++◌, length, Option, Some, None, option_map, if◌then◌else◌, ◌⊎◌, inl, inr, codes, IsTrue, refl, sym, ap, ◌∙◌, arith, append_assoc}
use Rattle.std.specs.List.{flat_map}
use Rattle.std.specs.Str.{is_utf8}
use Rattle.std.proofs.lemmas.Str.{IsUtf8-from_is_utf8, is_utf8-from_IsUtf8}
use Rattle.std.proofs.lemmas.List.Elements.{All-nil, All-cons, All-head, All-tail}
use Rattle.httparse.specs.Grammar.{LineEnd, crlf, lf, print_end, print_blank, Field, print_field, IsField, is_token_byte, is_uri_byte, is_value_byte, AllPass}
use Rattle.httparse.specs.Pieces.{Piece, Then, Newline, Blank, Stops, is_newline, Word, Method, Target, Version, Text, FieldLine, SectionOfAtMost, RequestStart}
use Rattle.httparse.proofs.PieceLemmas.{space_ends_token, colon_ends_token, FieldLine_parts, print_field-append, Stops-FieldLine}
use Rattle.wire.specs.HeadReading.{Reader, with_some, both, such_that, push, is_some_list, line_feed_of, newline, blank, run, word, strip, digit, version, value_line, field, start_line, section_or, section}
use Rattle.wire.proofs.Cuts.{if_false, if_true}

pub record Reads {A : Type 0} (G : Piece A) (f : Reader A) : Type 0 where
  pub sound : (bs : List ℕ) (a : A) (rest : List ℕ) → f bs ≡ Some (a, rest) → G a bs rest
  pub complete : (bs : List ℕ) (a : A) (rest : List ℕ) → G a bs rest → f bs ≡ Some (a, rest)

-- where something is given, both parts were
taken : {A B : Type 0} (o : Option A) (f : A → Option B) (b : B) → with_some o f ≡ Some b → (a : A) × (o ≡ Some a) × (f a ≡ Some b)
taken None f b e = absurd (cc e)
taken (Some a) f b e = (a, refl, e)

moved : {A : Type 0} (G : Piece A) (a b : A) (bs r q : List ℕ) → a ≡ b → r ≡ q → G a bs r → G b bs q
moved G a b bs r q e k h = rw (← e, ← k) h

pair_of : {X Y : Type 0} (p q : X × Y) → Some p ≡ Some q → (p.0 ≡ q.0) × (p.1 ≡ q.1)
pair_of p q e = let s : p ≡ q = cc in (ap (λ r. r.0) s, ap (λ r. r.1) s)

then_sound : {A B : Type 0} (G : Piece A) (H : Piece B) (f : Reader A) (g : Reader B) → Reads G f → Reads H g
    → (bs : List ℕ) (ab : A × B) (rest : List ℕ) → both f g bs ≡ Some (ab, rest) → Then G H ab bs rest
then_sound {A} {B} G H f g x y bs ab rest e =
    let one = taken (f bs) (λ u. with_some (g u.1) (λ v. Some ((u.0, v.0), v.1))) (ab, rest) e in
    let two = taken (g one.0.1) (λ v. Some ((one.0.0, v.0), v.1)) (ab, rest) one.2 in
    let same = pair_of ((one.0.0, two.0.0), two.0.1) (ab, rest) two.2 in (
      one.0.1,
      moved G one.0.0 ab.0 bs one.0.1 one.0.1 (ap (λ (p : A × B). p.0) same.0) refl (x.sound bs one.0.0 one.0.1 one.1),
      moved H two.0.0 ab.1 one.0.1 two.0.1 rest (ap (λ (p : A × B). p.1) same.0) same.1 (y.sound one.0.1 two.0.0 two.0.1 two.1),
    )

pub both_reads : {A B : Type 0} (G : Piece A) (H : Piece B) (f : Reader A) (g : Reader B) → Reads G f → Reads H g → Reads (Then G H) (both f g)
both_reads {A} {B} G H f g x y = record {
  sound = then_sound G H f g x y;
  complete = λ bs ab rest h.
      ap (λ o. with_some o (λ u. with_some (g u.1) (λ v. Some ((u.0, v.0), v.1)))) (x.complete bs ab.0 h.0 h.1)
      ∙ ap (λ o. with_some o (λ v. Some ((ab.0, v.0), v.1))) (y.complete h.0 ab.1 rest h.2);
}

-- ---- line ends

choice : {A : Type 0} (b : Bool) (x y : Option A) (v : A) → (if b then x else y) ≡ Some v → ((b ≡ true) × (x ≡ Some v)) ⊎ ((b ≡ false) × (y ≡ Some v))
choice true x y v e = inl (refl, e)
choice false x y v e = inr (refl, e)

line_feed_sound : (end : LineEnd) (bs : List ℕ) (a : LineEnd) (rest : List ℕ) → line_feed_of end bs ≡ Some (a, rest) → (end ≡ a) × (bs ≡ 10 ∷ rest)
line_feed_sound end [] a rest e = absurd (cc e)
line_feed_sound end (b ∷ bs) a rest e =
    elim (choice (eqb b 10) (Some (end, bs)) None (a, rest) e) [
      | inl h ↦ let same = pair_of (end, bs) (a, rest) h.1 in let ten = eqb-true b 10 h.0 in (same.0, cc)
      | inr h ↦ absurd (cc (h.1))
    ]

newline_sound : (bs : List ℕ) (a : LineEnd) (rest : List ℕ) → newline bs ≡ Some (a, rest) → Newline a bs rest
newline_sound [] a rest e = absurd (cc e)
newline_sound (b ∷ bs) a rest e =
    elim (choice (eqb b 13) (line_feed_of crlf bs) (line_feed_of lf (b ∷ bs)) (a, rest) e) [
      | inl h ↦
          let cr = eqb-true b 13 h.0 in
          let line = line_feed_sound crlf bs a rest h.1 in
          moved Newline crlf a (b ∷ bs) rest rest line.0 refl (cc (cr, line.1))
      | inr h ↦
          let line = line_feed_sound lf (b ∷ bs) a rest h.1 in
          moved Newline lf a (b ∷ bs) rest rest line.0 refl line.1
    ]

newline_complete : (bs : List ℕ) (a : LineEnd) (rest : List ℕ) → Newline a bs rest → newline bs ≡ Some (a, rest)
newline_complete bs crlf rest e = rw e refl
newline_complete bs lf rest e = rw e refl

pub newline_reads : Reads Newline newline
newline_reads = record { sound = newline_sound; complete = newline_complete }

-- ---- empty lines

pushed : {A B : Type 0} (a : A) (o : Option (List A × B)) (w : List A) (r : B) → push a o ≡ Some (w, r) → (v : List A) × (o ≡ Some (v, r)) × (w ≡ a ∷ v)
pushed a None w r e = absurd (cc e)
pushed a (Some x) w r e = let same = pair_of (a ∷ x.0, x.1) (w, r) e in (x.0, ap (λ q. Some (x.0, q)) same.1, sym same.0)

abbrev BlankAt : Bool → List LineEnd → List ℕ → List ℕ → Type 0
BlankAt false a bs rest = Blank a bs rest
BlankAt true a bs rest = Blank a (13 ∷ bs) rest

blank_sound : (cr : Bool) (bs : List ℕ) (a : List LineEnd) (rest : List ℕ) → blank cr bs ≡ Some (a, rest) → BlankAt cr a bs rest
blank_sound false [] a rest e = absurd (cc e)
blank_sound true [] a rest e = absurd (cc e)
blank_sound false (b ∷ bs) a rest e =
    elim (choice (eqb b 10) (push lf (blank false bs)) (if b == 13 then blank true bs else Some ([], b ∷ bs)) (a, rest) e) [
      | inl h ↦
          let ten = eqb-true b 10 h.0 in
          let p = pushed lf (blank false bs) a rest h.1 in
          let more = blank_sound false bs p.0 rest p.1 in
          moved Blank (lf ∷ p.0) a (b ∷ bs) rest rest (sym p.2) refl (cc (ten, more.0), more.1)
      | inr h ↦ elim (choice (eqb b 13) (blank true bs) (Some ([], b ∷ bs)) (a, rest) h.1) [
        | inl k ↦
            let cr = eqb-true b 13 k.0 in
            let more = blank_sound true bs a rest k.1 in
            (cc (cr, more.0), more.1)
        | inr k ↦
            let same = pair_of ([], b ∷ bs) (a, rest) k.1 in
            moved Blank [] a (b ∷ bs) (b ∷ bs) rest same.0 same.1 (refl, or_false (eqb b 13) (eqb b 10) k.0 h.0)
      ]
    ]
  where
    or_false : (x y : Bool) → x ≡ false → y ≡ false → (x || y) ≡ false
    or_false x y e k = rw (e, k) refl
blank_sound true (b ∷ bs) a rest e =
    elim (choice (eqb b 10) (push crlf (blank false bs)) None (a, rest) e) [
      | inl h ↦
          let ten = eqb-true b 10 h.0 in
          let p = pushed crlf (blank false bs) a rest h.1 in
          let more = blank_sound false bs p.0 rest p.1 in
          moved Blank (crlf ∷ p.0) a (13 ∷ b ∷ bs) rest rest (sym p.2) refl (cc (ten, more.0), more.1)
      | inr h ↦ absurd (cc (h.1))
    ]

or_parts : (x y : Bool) → (x || y) ≡ false → (x ≡ false) × (y ≡ false)
or_parts true y e = absurd (cc e)
or_parts false y e = (refl, e)

blank_none : (rest : List ℕ) → Stops is_newline rest → blank false rest ≡ Some ([], rest)
blank_none [] h = absurd h
blank_none (b ∷ bs) h =
    let parts = or_parts (eqb b 13) (eqb b 10) h in
    if_false (eqb b 10) (push lf (blank false bs)) (if b == 13 then blank true bs else Some ([], b ∷ bs)) parts.1
    ∙ if_false (eqb b 13) (blank true bs) (Some ([], b ∷ bs)) parts.0

blank_complete : (a : List LineEnd) (bs rest : List ℕ) → Blank a bs rest → blank false bs ≡ Some (a, rest)
blank_complete [] bs rest h = ap (blank false) h.0 ∙ blank_none rest h.1
blank_complete (lf ∷ a) bs rest h = ap (blank false) h.0 ∙ ap (push lf) (blank_complete a (print_blank a ++ rest) rest (refl, h.1))
blank_complete (crlf ∷ a) bs rest h = ap (blank false) h.0 ∙ ap (push crlf) (blank_complete a (print_blank a ++ rest) rest (refl, h.1))

pub blank_reads : Reads Blank (blank false)
blank_reads = record { sound = blank_sound false; complete = λ bs a rest. blank_complete a bs rest }

-- ---- words

run_sound : (test : ℕ → Bool) (stop : ℕ) (bs w rest : List ℕ) → run test stop bs ≡ Some (w, rest) → AllPass test w × (bs ≡ w ++ stop ∷ rest)
run_sound test stop [] w rest e = absurd (cc e)
run_sound test stop (b ∷ bs) w rest e =
    elim (choice (test b) (push b (run test stop bs)) (if b == stop then Some ([], bs) else None) (w, rest) e) [
      | inl h ↦
          let p = pushed b (run test stop bs) w rest h.1 in
          let more = run_sound test stop bs p.0 rest p.1 in
          rw p.2 (All-cons (λ x. IsTrue (test x)) b p.0 h.0 more.0, ap (λ l. b ∷ l) more.1)
      | inr h ↦ elim (choice (eqb b stop) (Some ([], bs)) None (w, rest) h.1) [
        | inl k ↦
            let same = pair_of ([], bs) (w, rest) k.1 in
            let at = eqb-true b stop k.0 in
            rw (← same.0) (All-nil (λ x. IsTrue (test x)), cc (at, same.1))
        | inr k ↦ absurd (cc (k.1))
      ]
    ]

run_complete : (test : ℕ → Bool) (stop : ℕ) → test stop ≡ false → (w rest : List ℕ) → AllPass test w → run test stop (w ++ stop ∷ rest) ≡ Some (w, rest)
run_complete test stop fails [] rest all =
    if_false (test stop) (push stop (run test stop rest)) (if stop == stop then Some ([], rest) else None) fails
    ∙ if_true (eqb stop stop) (Some ([], rest)) None (eq-eqb stop stop refl)
run_complete test stop fails (b ∷ w) rest all =
    if_true (test b) (push b (run test stop (w ++ stop ∷ rest))) (if b == stop then Some ([], w ++ stop ∷ rest) else None) (All-head (λ x. IsTrue (test x)) b w all)
    ∙ ap (push b) (run_complete test stop fails w rest (All-tail (λ x. IsTrue (test x)) b w all))

abbrev pub RunOf : (ℕ → Bool) → ℕ → Piece (List ℕ)
RunOf test stop w text rest = AllPass test w × (text ≡ w ++ stop ∷ rest)

run_reads : (test : ℕ → Bool) (stop : ℕ) → test stop ≡ false → Reads (RunOf test stop) (run test stop)
run_reads test stop fails = record {
  sound = run_sound test stop;
  complete = λ bs w rest h. ap (run test stop) h.1 ∙ run_complete test stop fails w rest h.0;
}

such_sound : {A : Type 0} (G : Piece A) (f : Reader A) (test : A → Bool) → Reads G f → (bs : List ℕ) (a : A) (rest : List ℕ) → such_that test f bs ≡ Some (a, rest)
    → G a bs rest × (test a ≡ true)
such_sound {A} G f test x bs a rest e =
    let one = taken (f bs) (λ u. if test u.0 then Some u else None) (a, rest) e in
    elim (choice (test one.0.0) (Some one.0) None (a, rest) one.2) [
      | inl h ↦
          let same = pair_of one.0 (a, rest) h.1 in
          (moved G one.0.0 a bs one.0.1 rest same.0 same.1 (x.sound bs one.0.0 one.0.1 one.1), sym (ap test same.0) ∙ h.0)
      | inr h ↦ absurd (cc (h.1))
    ]

such_complete : {A : Type 0} (G : Piece A) (f : Reader A) (test : A → Bool) → Reads G f → (bs : List ℕ) (a : A) (rest : List ℕ) → G a bs rest → test a ≡ true
    → such_that test f bs ≡ Some (a, rest)
such_complete {A} G f test x bs a rest h t =
    ap (λ o. with_some o (λ u. if test u.0 then Some u else None)) (x.complete bs a rest h) ∙ if_true (test a) (Some (a, rest)) None t

some_list : (w : List ℕ) → is_some_list w ≡ true → 0 < length w
some_list [] e = absurd (cc e)
some_list (b ∷ w) e = omega arith

is_list : (w : List ℕ) → 0 < length w → is_some_list w ≡ true
is_list [] e = absurd (omega arith)
is_list (b ∷ w) e = refl

pub word_reads : (test : ℕ → Bool) (stop : ℕ) → test stop ≡ false → Reads (Word test stop) (word test stop)
word_reads test stop fails = record {
  sound = λ bs w rest e. let h = such_sound (RunOf test stop) (run test stop) is_some_list (run_reads test stop fails) bs w rest e in (some_list w h.1, h.0.0, h.0.1);
  complete = λ bs w rest h. such_complete (RunOf test stop) (run test stop) is_some_list (run_reads test stop fails) bs w rest (h.1, h.2) (is_list w h.0);
}

pub target_reads : Reads Target (such_that is_utf8 (word is_uri_byte 32))
target_reads = record {
  sound = λ bs w rest e. let h = such_sound (Word is_uri_byte 32) (word is_uri_byte 32) is_utf8 (word_reads is_uri_byte 32 refl) bs w rest e in (h.0, IsUtf8-from_is_utf8 w h.1);
  complete = λ bs w rest h. such_complete (Word is_uri_byte 32) (word is_uri_byte 32) is_utf8 (word_reads is_uri_byte 32 refl) bs w rest h.0 (is_utf8-from_IsUtf8 w h.1);
}

-- ---- the version

strip_sound : (xs bs r : List ℕ) → strip xs bs ≡ Some r → bs ≡ xs ++ r
strip_sound [] bs r e = cc
strip_sound (x ∷ xs) [] r e = absurd (cc e)
strip_sound (x ∷ xs) (b ∷ bs) r e =
    elim (choice (eqb b x) (strip xs bs) None r e) [
      | inl h ↦ let at = eqb-true b x h.0 in let more = strip_sound xs bs r h.1 in cc
      | inr h ↦ absurd (cc (h.1))
    ]

strip_complete : (xs r : List ℕ) → strip xs (xs ++ r) ≡ Some r
strip_complete [] r = refl
strip_complete (x ∷ xs) r = if_true (eqb x x) (strip xs (xs ++ r)) None (eq-eqb x x refl) ∙ strip_complete xs r

digit_sound : (bs : List ℕ) (m : ℕ) (rest : List ℕ) → digit bs ≡ Some (m, rest) → (m ≤ 1) × (bs ≡ (48 + m) ∷ rest)
digit_sound [] m rest e = absurd (cc e)
digit_sound (b ∷ bs) m rest e =
    elim (choice (eqb b 48) (Some (0, bs)) (if b == 49 then Some (1, bs) else None) (m, rest) e) [
      | inl h ↦ digit_is 0 b bs m rest (eqb-true b 48 h.0) (omega arith) (pair_of (0, bs) (m, rest) h.1)
      | inr h ↦ elim (choice (eqb b 49) (Some (1, bs)) None (m, rest) h.1) [
        | inl k ↦ digit_is 1 b bs m rest (eqb-true b 49 k.0) (omega arith) (pair_of (1, bs) (m, rest) k.1)
        | inr k ↦ absurd (cc (k.1))
      ]
    ]
  where
    digit_is : (d b : ℕ) (bs : List ℕ) (m : ℕ) (rest : List ℕ) → b ≡ 48 + d → d ≤ 1 → (d ≡ m) × (bs ≡ rest) → (m ≤ 1) × (b ∷ bs ≡ (48 + m) ∷ rest)
    digit_is d b bs m rest e small same = (omega (arith, same.0), cc (e, same.0, same.1))

digit_complete : (m : ℕ) (rest : List ℕ) → m ≤ 1 → digit ((48 + m) ∷ rest) ≡ Some (m, rest)
digit_complete zero rest small = refl
digit_complete (suc zero) rest small = refl
digit_complete (suc (suc m)) rest small = absurd (omega arith)

pub version_reads : Reads Version version
version_reads = record {
  sound = λ bs m rest e.
      let one = taken (strip (codes "HTTP/1.") bs) digit (m, rest) e in
      let d = digit_sound one.0 m rest one.2 in
      (d.0, strip_sound (codes "HTTP/1.") bs one.0 one.1 ∙ ap (λ r. codes "HTTP/1." ++ r) d.1);
  complete = λ bs m rest h.
      ap version h.1 ∙ ap (λ o. with_some o digit) (strip_complete (codes "HTTP/1.") ((48 + m) ∷ rest)) ∙ digit_complete m rest h.0;
}

-- ---- fields

mapped : {A B : Type 0} (f : A → B) (o : Option A) (b : B) → option_map f o ≡ Some b → (a : A) × (o ≡ Some a) × (f a ≡ b)
mapped f None b e = absurd (cc e)
mapped f (Some a) b e = (a, refl, cc)

value_sound : (bs : List ℕ) (t : List ℕ × LineEnd) (rest : List ℕ) → value_line bs ≡ Some (t, rest) → Text t bs rest
value_sound [] t rest e = absurd (cc e)
value_sound (b ∷ bs) t rest e =
    elim (choice (is_value_byte b) (option_map (λ x. ((b ∷ x.0.0, x.0.1), x.1)) (value_line bs)) (option_map (λ x. (([], x.0), x.1)) (newline (b ∷ bs))) (t, rest) e) [
      | inl h ↦
          let one = mapped (λ x. ((b ∷ x.0.0, x.0.1), x.1)) (value_line bs) (t, rest) h.1 in
          let more = value_sound bs one.0.0 one.0.1 one.1 in
          moved Text (b ∷ one.0.0.0, one.0.0.1) t (b ∷ bs) one.0.1 rest (ap (λ (p : (List ℕ × LineEnd) × List ℕ). p.0) one.2) (ap (λ (p : (List ℕ × LineEnd) × List ℕ). p.1) one.2)
          (All-cons (λ x. IsTrue (is_value_byte x)) b one.0.0.0 h.0 more.0, ap (λ l. b ∷ l) more.1)
      | inr h ↦
          let one = mapped (λ x. (([], x.0), x.1)) (newline (b ∷ bs)) (t, rest) h.1 in
          moved Text ([], one.0.0) t (b ∷ bs) one.0.1 rest (ap (λ (p : (List ℕ × LineEnd) × List ℕ). p.0) one.2) (ap (λ (p : (List ℕ × LineEnd) × List ℕ). p.1) one.2)
          (All-nil (λ x. IsTrue (is_value_byte x)), newline_sound (b ∷ bs) one.0.0 one.0.1 one.1)
    ]

value_complete : (raw : List ℕ) (end : LineEnd) (rest : List ℕ) → AllPass is_value_byte raw → value_line (raw ++ (print_end end ++ rest)) ≡ Some ((raw, end), rest)
value_complete [] crlf rest all = refl
value_complete [] lf rest all = refl
value_complete (b ∷ raw) end rest all =
    if_true (is_value_byte b) _ _ (All-head (λ x. IsTrue (is_value_byte x)) b raw all)
    ∙ ap (option_map (λ x. ((b ∷ x.0.0, x.0.1), x.1))) (value_complete raw end rest (All-tail (λ x. IsTrue (is_value_byte x)) b raw all))

pub value_reads : Reads Text value_line
value_reads = record { sound = value_sound; complete = λ bs t rest h. ap value_line h.1 ∙ value_complete t.0 t.1 rest h.0 }

parts_read : Reads (Then (Word is_token_byte 58) Text) (both (word is_token_byte 58) value_line)
parts_read = both_reads (Word is_token_byte 58) Text (word is_token_byte 58) value_line (word_reads is_token_byte 58 colon_ends_token) value_reads

abbrev field_of : (List ℕ × (List ℕ × LineEnd)) × List ℕ → Field × List ℕ
field_of x = (record { name = x.0.0; raw = x.0.1.0; end = x.0.1.1 }, x.1)

from_parts : (p : List ℕ × (List ℕ × LineEnd)) (bs rest : List ℕ) → Then (Word is_token_byte 58) Text p bs rest → FieldLine (field_of (p, rest)).0 bs rest
from_parts p bs rest h = (
  record { name = (h.1.0, h.1.1); raw = h.2.0 },
  h.1.2 ∙ ap (λ l. p.0 ++ 58 ∷ l) h.2.1 ∙ sym (print_field-append (field_of (p, rest)).0 rest),
)

pub field_reads : Reads FieldLine field
field_reads = record {
  sound = λ bs f rest e.
      let one = mapped field_of (both (word is_token_byte 58) value_line bs) (f, rest) e in
      moved FieldLine (field_of one.0).0 f bs one.0.1 rest (ap (λ (p : Field × List ℕ). p.0) one.2) (ap (λ (p : Field × List ℕ). p.1) one.2)
      (from_parts one.0.0 bs one.0.1 (parts_read.sound bs one.0.0 one.0.1 one.1));
  complete = λ bs f rest h. ap (option_map field_of) (parts_read.complete bs (f.name, (f.raw, f.end)) rest (FieldLine_parts f bs rest h));
}

-- ---- the fields together

newline_none : (bs : List ℕ) → Stops is_newline bs → newline bs ≡ None
newline_none [] h = absurd h
newline_none (b ∷ bs) h =
    let parts = or_parts (eqb b 13) (eqb b 10) h in
    if_false (eqb b 13) (line_feed_of crlf bs) (line_feed_of lf (b ∷ bs)) parts.0 ∙ if_false (eqb b 10) (Some (lf, bs)) None parts.1

either : (o : Option (LineEnd × List ℕ)) (more : Option ((List Field × LineEnd) × List ℕ)) (v : (List Field × LineEnd) × List ℕ) → section_or o more ≡ Some v
    → ((x : LineEnd × List ℕ) × (o ≡ Some x) × (◌≡◌ {A = (List Field × LineEnd) × List ℕ} (([], x.0), x.1) v)) ⊎ (more ≡ Some v)
either None more v e = inr e
either (Some x) more v e = inl (x, refl, cc)

empty_section : (room : ℕ) (bs : List ℕ) (s : List Field × LineEnd) (rest : List ℕ) (x : LineEnd × List ℕ) → newline bs ≡ Some x → ◌≡◌ {A = (List Field × LineEnd) × List ℕ} (([], x.0), x.1) (s, rest)
    → SectionOfAtMost room s bs rest
empty_section room bs s rest x e same =
    moved (SectionOfAtMost room) ([], x.0) s bs x.1 rest (ap (λ (p : (List Field × LineEnd) × List ℕ). p.0) same) (ap (λ (p : (List Field × LineEnd) × List ℕ). p.1) same)
    ((All-nil IsField, newline_sound bs x.0 x.1 e), omega arith)

more_section : (room : ℕ) (f : Field) (s : List Field × LineEnd) (bs middle rest : List ℕ) → FieldLine f bs middle → SectionOfAtMost room s middle rest
    → SectionOfAtMost (suc room) (f ∷ s.0, s.1) bs rest
more_section room f s bs middle rest h k = (
  (
    All-cons IsField f s.0 h.0 k.0.0,
    h.1 ∙ ap (λ l. print_field f ++ l) k.0.1 ∙ sym (append_assoc (print_field f) (flat_map print_field s.0 ++ print_end s.1) rest)
        ∙ ap (λ l. l ++ rest) (sym (append_assoc (print_field f) (flat_map print_field s.0) (print_end s.1))),
  ),
  omega (arith, k.1),
)

section_sound : (room : ℕ) (bs : List ℕ) (s : List Field × LineEnd) (rest : List ℕ) → section room bs ≡ Some (s, rest) → SectionOfAtMost room s bs rest
section_sound zero bs s rest e =
    elim (either (newline bs) None (s, rest) e) [
      | inl h ↦ empty_section zero bs s rest h.0 h.1 h.2
      | inr h ↦ absurd (cc h)
    ]
section_sound (suc room) bs s rest e =
    elim (either (newline bs) (with_some (field bs) (λ x. option_map (λ y. ((x.0 ∷ y.0.0, y.0.1), y.1)) (section room x.1))) (s, rest) e) [
      | inl h ↦ empty_section (suc room) bs s rest h.0 h.1 h.2
      | inr h ↦
          let one = taken (field bs) (λ x. option_map (λ y. ((x.0 ∷ y.0.0, y.0.1), y.1)) (section room x.1)) (s, rest) h in
          let two = mapped (λ y. ((one.0.0 ∷ y.0.0, y.0.1), y.1)) (section room one.0.1) (s, rest) one.2 in
          moved (SectionOfAtMost (suc room)) (one.0.0 ∷ two.0.0.0, two.0.0.1) s bs two.0.1 rest (ap (λ (p : (List Field × LineEnd) × List ℕ). p.0) two.2) (ap (λ (p : (List Field × LineEnd) × List ℕ). p.1) two.2)
          (more_section room one.0.0 two.0.0 bs one.0.1 two.0.1 (field_reads.sound bs one.0.0 one.0.1 one.1) (section_sound room one.0.1 two.0.0 two.0.1 two.1))
    ]

section_complete : (room : ℕ) (fs : List Field) (last : LineEnd) (bs rest : List ℕ) → SectionOfAtMost room (fs, last) bs rest → section room bs ≡ Some ((fs, last), rest)
section_complete zero [] last bs rest h = ap (λ o. section_or o None) (newline_complete bs last rest h.0.1)
section_complete (suc room) [] last bs rest h = ap (λ o. section_or o (with_some (field bs) (λ x. option_map (λ y. ((x.0 ∷ y.0.0, y.0.1), y.1)) (section room x.1)))) (newline_complete bs last rest h.0.1)
section_complete zero (f ∷ fs) last bs rest h = absurd (omega (arith, h.1))
section_complete (suc room) (f ∷ fs) last bs rest h =
    let middle = (flat_map print_field fs ++ print_end last) ++ rest in
    let line : FieldLine f bs middle = (
      All-head IsField f fs h.0.0,
      h.0.1 ∙ ap (λ l. l ++ rest) (append_assoc (print_field f) (flat_map print_field fs) (print_end last)) ∙ append_assoc (print_field f) (flat_map print_field fs ++ print_end last) rest,
    ) in
    ap (λ o. section_or o (with_some (field bs) (λ x. option_map (λ y. ((x.0 ∷ y.0.0, y.0.1), y.1)) (section room x.1)))) (newline_none bs (Stops-FieldLine f bs middle line))
    ∙ ap (λ o. with_some o (λ x. option_map (λ y. ((x.0 ∷ y.0.0, y.0.1), y.1)) (section room x.1))) (field_reads.complete bs f middle line)
    ∙ ap (option_map (λ y. ((f ∷ y.0.0, y.0.1), y.1))) (section_complete room fs last middle rest ((All-tail IsField f fs h.0.0, refl), omega (arith, h.1)))

pub section_reads : (room : ℕ) → Reads (SectionOfAtMost room) (section room)
section_reads room = record { sound = section_sound room; complete = λ bs s rest h. section_complete room s.0 s.1 bs rest h }

-- ---- heads

pub start_reads : Reads RequestStart start_line
start_reads =
    both_reads Blank (Then Method (Then Target (Then Version Newline))) (blank false) (both (word is_token_byte 32) (both (such_that is_utf8 (word is_uri_byte 32)) (both version newline))) blank_reads
    (both_reads Method (Then Target (Then Version Newline)) (word is_token_byte 32) (both (such_that is_utf8 (word is_uri_byte 32)) (both version newline)) (word_reads is_token_byte 32 space_ends_token)
    (both_reads Target (Then Version Newline) (such_that is_utf8 (word is_uri_byte 32)) (both version newline) target_reads
    (both_reads Version Newline version newline version_reads newline_reads)))

pub head_reads : Reads (Then RequestStart (SectionOfAtMost 64)) (both start_line (section 64))
head_reads = both_reads RequestStart (SectionOfAtMost 64) start_line (section 64) start_reads (section_reads 64)
