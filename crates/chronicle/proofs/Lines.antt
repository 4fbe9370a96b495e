-- Lines in a log that grows.
use Rattle.std.proofs.Common.{◌≡◌, ℕ, zero, suc, ◌==◌, true, List, slice_get, [], ◌∷◌, ◌++◌, length, ◌≤◌, Some, refl, ap, sym, subst, ◌∙◌, arith, append_assoc, append-nil}
use Rattle.std.proofs.lemmas.Bool.Decides.{nat_tests}
use mathlib.Core.List.{IsPrefix}
use Rattle.chronicle.specs.declared.law.Noted.{Noted}
use Rattle.chronicle.specs.Log.{next_of, own_of, entries_of, last_of, first_of, IsUnused, Adds}

-- of two beginnings of one list the shorter begins the longer
pub prefix_shorter : {A : Type 0} (xs ys zs : List A) → IsPrefix xs zs → IsPrefix ys zs → length xs ≤ length ys → IsPrefix xs ys
prefix_shorter [] ys zs p q le = (ys, refl)
prefix_shorter (x ∷ xs) [] zs p q le = absurd (omega arith)
prefix_shorter (x ∷ xs) (y ∷ ys) [] p q le = absurd (cc (p.1))
prefix_shorter (x ∷ xs) (y ∷ ys) (z ∷ zs) p q le =
    let heads : x ≡ y = cc (p.1, q.1) in
    let rest = prefix_shorter xs ys zs (p.0, cc (p.1)) (q.0, cc (q.1)) (omega arith) in
    (rest.0, cc (heads, rest.1))

pub prefix_trans : {A : Type 0} (xs ys zs : List A) → IsPrefix xs ys → IsPrefix ys zs → IsPrefix xs zs
prefix_trans xs ys zs p q = (p.0 ++ q.0, sym (append_assoc xs p.0 q.0) ∙ (ap (λ w. w ++ q.0) p.1 ∙ q.1))

-- what is at a place of a list is there in each that it begins
pub stands-later : {A : Type 0} (xs ys : List A) → IsPrefix xs ys → (place : ℕ) (x : A) → slice_get xs place ≡ Some x → slice_get ys place ≡ Some x
stands-later [] ys p place x at = absurd (cc at)
stands-later (y ∷ xs) [] p place x at = absurd (cc (p.1))
stands-later (y ∷ xs) (z ∷ ys) p zero x at = cc (p.1, at)
stands-later (y ∷ xs) (z ∷ ys) p (suc place) x at = stands-later xs ys (p.0, cc (p.1)) place x at

pub stands-one : {A : Type 0} (xs ys zs : List A) → IsPrefix xs zs → IsPrefix ys zs → (place : ℕ) (x y : A) → slice_get xs place ≡ Some x → slice_get ys place ≡ Some y → x ≡ y
stands-one xs ys zs p q place x y a b = cc (stands-later xs zs p place x a, stands-later ys zs q place y b)

pub stands-last : {A : Type 0} (xs : List A) (x : A) → slice_get (xs ++ x ∷ []) (length xs) ≡ Some x
stands-last [] x = refl
stands-last (y ∷ xs) x = stands-last xs x

module _ {E : Type 0} where
  entries-append : (right : ℕ) (xs ys : List (Noted E)) → entries_of right (xs ++ ys) ≡ entries_of right xs ++ entries_of (last_of right xs) ys
  entries-append right [] ys = refl
  entries-append right (e ∷ xs) ys =
      ap (λ z. own_of right e ++ z) (entries-append (next_of right e) xs ys) ∙ sym (append_assoc (own_of right e) (entries_of (next_of right e) xs) (entries_of (last_of right (e ∷ xs)) ys))

  last-append : (right : ℕ) (xs ys : List (Noted E)) → last_of right (xs ++ ys) ≡ last_of (last_of right xs) ys
  last-append right [] ys = refl
  last-append right (e ∷ xs) ys = last-append (next_of right e) xs ys

  unused-after : (right : ℕ) (xs ys : List (Noted E)) → IsUnused right (xs ++ ys) → IsUnused right ys
  unused-after right [] ys h = h
  unused-after right (e ∷ xs) ys h = unused-after right xs ys h.1

  -- a right that nobody used has no line yet
  pub entries-unused : (right : ℕ) (log : List (Noted E)) → IsUnused right log → entries_of right log ≡ []
  entries-unused right [] h = refl
  entries-unused right (e ∷ log) h = rw h.0 (entries-unused right log h.1)

  pub last-unused : (right : ℕ) (log : List (Noted E)) → IsUnused right log → last_of right log ≡ right
  last-unused right [] h = refl
  last-unused right (e ∷ log) h = rw h.0 (last-unused right log h.1)

  -- a line begins what it is in a longer log
  pub prefix-entries : (first : ℕ) (xs ys : List (Noted E)) → IsPrefix xs ys → IsPrefix (entries_of first xs) (entries_of first ys)
  prefix-entries first xs ys pre = (entries_of (last_of first xs) pre.0, sym (entries-append first xs pre.0) ∙ ap (entries_of first) pre.1)

  -- a line whose last right nobody used is as it was
  pub last-same : (first right : ℕ) (xs ys : List (Noted E)) → last_of first xs ≡ right → IsPrefix xs ys → IsUnused right ys → last_of first ys ≡ right
  last-same first right xs ys is pre h =
      let unused : IsUnused right pre.0 = unused-after right xs pre.0 (subst (IsUnused right) (sym pre.1) h) in
      ap (last_of first) (sym pre.1) ∙ (last-append first xs pre.0 ∙ (ap (λ r. last_of r pre.0) is ∙ last-unused right pre.0 unused))

  pub entries-same : (first right : ℕ) (xs ys : List (Noted E)) → last_of first xs ≡ right → IsPrefix xs ys → IsUnused right ys → entries_of first ys ≡ entries_of first xs
  entries-same first right xs ys is pre h =
      let unused : IsUnused right pre.0 = unused-after right xs pre.0 (subst (IsUnused right) (sym pre.1) h) in
      let none : entries_of (last_of first xs) pre.0 ≡ [] = ap (λ r. entries_of r pre.0) is ∙ entries-unused right pre.0 unused in
      ap (entries_of first) (sym pre.1) ∙ (entries-append first xs pre.0 ∙ (ap (λ z. entries_of first xs ++ z) none ∙ append-nil (entries_of first xs)))

  -- what an entry adds to its line
  pub added-last : (first right : ℕ) (e : Noted E) (before after : List (Noted E)) → last_of first before ≡ right → e.right ≡ right → Adds right e before after → last_of first after ≡ e.next
  added-last first right e before after is own a =
      let same : (e.right == right) ≡ true = grind (arith, nat_tests) in
      let one : last_of right (e ∷ []) ≡ e.next = rw same refl in
      ap (last_of first) a.3 ∙ (last-append first a.0 (e ∷ []) ∙ (ap (λ r. last_of r (e ∷ [])) (last-same first right before a.0 is a.1 a.2) ∙ one))

  pub added-entries : (first right : ℕ) (e : Noted E) (x : E) (before after : List (Noted E)) → last_of first before ≡ right → e.right ≡ right → e.what ≡ Some x → Adds right e before after
      → entries_of first after ≡ entries_of first before ++ x ∷ []
  added-entries first right e x before after is own what a =
      let same : (e.right == right) ≡ true = grind (arith, nat_tests) in
      let one : entries_of right (e ∷ []) ≡ x ∷ [] = rw same (rw what refl) in
      let last : entries_of (last_of first a.0) (e ∷ []) ≡ x ∷ [] = ap (λ r. entries_of r (e ∷ [])) (last-same first right before a.0 is a.1 a.2) ∙ one in
      ap (entries_of first) a.3
      ∙ (entries-append first a.0 (e ∷ []) ∙ (ap (λ z. z ++ entries_of (last_of first a.0) (e ∷ [])) (entries-same first right before a.0 is a.1 a.2) ∙ ap (λ z. entries_of first before ++ z) last))

  first-snoc : (log : List (Noted E)) (e : Noted E) → first_of (log ++ e ∷ []) ≡ e.first
  first-snoc [] e = refl
  first-snoc (d ∷ []) e = refl
  first-snoc (d ∷ c ∷ log) e = first-snoc (c ∷ log) e

  pub added-first : (right : ℕ) (e : Noted E) (before after : List (Noted E)) → Adds right e before after → first_of after ≡ e.first
  added-first right e before after a = ap first_of a.3 ∙ first-snoc a.0 e
