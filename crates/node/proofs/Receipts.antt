-- Receipts that stand, one after the other.
use Rattle.std.proofs.Common.{◌≡◌, ℕ, zero, suc, ◌+◌, ◌<◌, ◌==◌, leb, max, ◌||◌, true, false, List, [], ◌∷◌, ◌++◌, take, drop, Some, refl, sym, ap, subst, ◌∙◌, arith, append-nil}
use Rattle.std.specs.Prelude.{slice_get}
use Rattle.std.proofs.lemmas.Bool.Decides.{nat_tests}
use Rattle.std.proofs.lemmas.List.{append_assoc}
use Rattle.std.proofs.lemmas.List.Folds.{list_any-append}
use Rattle.journal.specs.declared.journal.Journal.{Journal}
use Rattle.node.specs.Entry.{Receipt}
use Rattle.node.specs.Passes.{PassData, AreUpTo}
use Rattle.node.specs.Gathered.{deed_at, has_place, is_at, receipts_of, AreNext, IsFirstStray, IsNext}

-- ---- one more

pub next_more : (j : Journal) (before xs : List Receipt) (r : Receipt) → AreNext j before xs → IsNext j (before ++ xs) r → AreNext j before (xs ++ r ∷ [])
next_more j before [] r h n = (subst (λ (l : List Receipt). IsNext j l r) (append-nil before) n, tt)
next_more j before (x ∷ xs) r h n =
    (h.0, next_more j (before ++ x ∷ []) xs r h.1 (subst (λ (l : List Receipt). IsNext j l r) (sym (append_assoc before (x ∷ []) xs)) n))

pub next_append : (j : Journal) (before xs ys : List Receipt) → AreNext j before xs → AreNext j (before ++ xs) ys → AreNext j before (xs ++ ys)
next_append j before [] ys h n = subst (λ (l : List Receipt). AreNext j l ys) (append-nil before) n
next_append j before (x ∷ xs) ys h n =
    (h.0, next_append j (before ++ x ∷ []) xs ys h.1 (subst (λ (l : List Receipt). AreNext j l ys) (sym (append_assoc before (x ∷ []) xs)) n))

take_one : {X : Type 0} (xs : List X) (k : ℕ) (x : X) → slice_get xs k ≡ Some x → take (suc k) xs ≡ take k xs ++ x ∷ []
take_one [] k x at = absurd cc
take_one (y ∷ ys) zero x at = let same : y ≡ x = cc in ap (λ z. z ∷ []) same
take_one (y ∷ ys) (suc k) x at = ap (λ l. y ∷ l) (take_one ys k x at)

split_at : {X : Type 0} (xs : List X) (k : ℕ) (x : X) → slice_get xs k ≡ Some x → xs ≡ take k xs ++ x ∷ drop (suc k) xs
split_at [] k x at = absurd cc
split_at (y ∷ ys) zero x at = let same : y ≡ x = cc in ap (λ z. z ∷ ys) same
split_at (y ∷ ys) (suc k) x at = ap (λ l. y ∷ l) (split_at ys k x at)

-- a receipt stands, and none before it has its place
pub goes_on : (j : Journal) (before rs : List Receipt) (k : ℕ) (r : Receipt) → slice_get rs k ≡ Some r → deed_at j r.place ≡ Some r.deed → has_place (before ++ take k rs) r.place ≡ false
    → AreNext j before (take k rs) → AreNext j before (take (k + 1) rs)
goes_on j before rs k r at stands none h =
    subst (λ (l : List Receipt). AreNext j before l) (sym (ap (λ n. take n rs) (let e : k + 1 ≡ suc k = omega arith in e) ∙ take_one rs k r at))
    (next_more j before (take k rs) r h (record { stands = stands; alone = none }))

up_more : (most : ℕ) (rs : List Receipt) (r : Receipt) → AreUpTo most rs → AreUpTo (max most r.place) (rs ++ r ∷ [])
up_more most [] r h = (omega arith, tt)
up_more most (s ∷ rs) r h = (omega (arith, h.0), up_more most rs r h.1)

pub up_on : (most : ℕ) (rs : List Receipt) (k : ℕ) (r : Receipt) → slice_get rs k ≡ Some r → AreUpTo most (take k rs) → AreUpTo (max most r.place) (take (k + 1) rs)
up_on most rs k r at h =
    subst (λ (l : List Receipt). AreUpTo (max most r.place) l) (sym (ap (λ n. take n rs) (let e : k + 1 ≡ suc k = omega arith in e) ∙ take_one rs k r at)) (up_more most (take k rs) r h)

other_place : (a b : ℕ) → a < b → (a == b) ≡ false
other_place a b lt = grind (arith, nat_tests)

pub not_up : (a b : ℕ) → b < a → leb a b ≡ false
not_up a b lt = grind (arith, nat_tests)

-- a place above all
pub none_above : (most place : ℕ) (rs : List Receipt) → AreUpTo most rs → most < place → has_place rs place ≡ false
none_above most place [] h lt = refl
none_above most place (r ∷ rs) h lt = ap (λ b. b || has_place rs place) (other_place r.place place (omega (arith, h.0, lt))) ∙ none_above most place rs h.1 lt

pub has_either : (xs ys : List Receipt) (place : ℕ) → has_place (xs ++ ys) place ≡ (has_place xs place || has_place ys place)
has_either xs ys place = list_any-append (is_at place) xs ys

-- it doesn't stand, or one before it has its place
pub strays_there : (j : Journal) (before rs : List Receipt) (k : ℕ) (r : Receipt) → slice_get rs k ≡ Some r → (deed_at j r.place ≡ Some r.deed → ⊥) → AreNext j before (take k rs) → IsFirstStray j before rs r.place
strays_there j before rs k r at away h = record {
  front = take k rs;
  stray = r;
  back = drop (suc k) rs;
  are = split_at rs k r at;
  at = refl;
  fine = h;
  fails = λ n. away n.stands;
}

pub strays_twice : (j : Journal) (before rs : List Receipt) (k : ℕ) (r : Receipt) → slice_get rs k ≡ Some r → has_place (before ++ take k rs) r.place ≡ true → AreNext j before (take k rs)
    → IsFirstStray j before rs r.place
strays_twice j before rs k r at there h = record {
  front = take k rs;
  stray = r;
  back = drop (suc k) rs;
  are = split_at rs k r at;
  at = refl;
  fine = h;
  fails = λ n. absurd (let e : true ≡ false = sym there ∙ n.alone in cc);
}

-- ---- pass after pass

receipts_append : (ps qs : List PassData) → receipts_of (ps ++ qs) ≡ receipts_of ps ++ receipts_of qs
receipts_append [] qs = refl
receipts_append (p ∷ ps) qs = ap (λ l. p.receipts ++ l) (receipts_append ps qs) ∙ sym (append_assoc p.receipts (receipts_of ps) (receipts_of qs))

receipts_one : (ps : List PassData) (k : ℕ) (p : PassData) → slice_get ps k ≡ Some p → receipts_of (take (suc k) ps) ≡ receipts_of (take k ps) ++ p.receipts
receipts_one ps k p at =
    ap receipts_of (take_one ps k p at) ∙ (receipts_append (take k ps) (p ∷ []) ∙ ap (λ l. receipts_of (take k ps) ++ l) (append-nil p.receipts))

pub passes_on : (j : Journal) (ps : List PassData) (k : ℕ) (p : PassData) → slice_get ps k ≡ Some p → AreNext j (receipts_of (take k ps)) p.receipts → AreNext j [] (receipts_of (take k ps))
    → AreNext j [] (receipts_of (take (k + 1) ps))
passes_on j ps k p at new h =
    subst (λ (l : List Receipt). AreNext j [] l) (sym (ap (λ n. receipts_of (take n ps)) (let e : k + 1 ≡ suc k = omega arith in e) ∙ receipts_one ps k p at)) (next_append j [] (receipts_of (take k ps)) p.receipts h new)

-- the first stray of a pass, among the receipts of all
pub strays_among : (j : Journal) (ps : List PassData) (k : ℕ) (p : PassData) (place : ℕ) → slice_get ps k ≡ Some p → AreNext j [] (receipts_of (take k ps))
    → IsFirstStray j (receipts_of (take k ps)) p.receipts place → IsFirstStray j [] (receipts_of ps) place
strays_among j ps k p place at h s =
    let before = receipts_of (take k ps) in
    let rest = receipts_of (drop (suc k) ps) in
    let all : receipts_of ps ≡ before ++ (p.receipts ++ rest) = ap receipts_of (split_at ps k p at) ∙ receipts_append (take k ps) (p ∷ drop (suc k) ps) in
    let here : p.receipts ++ rest ≡ s.front ++ s.stray ∷ (s.back ++ rest) = ap (λ l. l ++ rest) s.are ∙ append_assoc s.front (s.stray ∷ s.back) rest in
    record {
      front = before ++ s.front;
      stray = s.stray;
      back = s.back ++ rest;
      are = all ∙ (ap (λ l. before ++ l) here ∙ sym (append_assoc before s.front (s.stray ∷ (s.back ++ rest))));
      at = s.at;
      fine = next_append j [] before s.front h s.fine;
      fails = s.fails;
    }

-- a pass of several has a place, or the others do
pub places_of : (ps : List PassData) (k : ℕ) (p : PassData) (place : ℕ) → slice_get ps k ≡ Some p
    → has_place (receipts_of (drop k ps)) place ≡ (has_place p.receipts place || has_place (receipts_of (drop (suc k) ps)) place)
places_of [] k p place at = absurd cc
places_of (q ∷ ps) zero p place at =
    let same : q ≡ p = cc in
    list_any-append (is_at place) q.receipts (receipts_of ps) ∙ ap (λ (x : PassData). has_place x.receipts place || has_place (receipts_of ps) place) same
places_of (q ∷ ps) (suc k) p place at = places_of ps k p place at
