-- The first line, as it is read up to its newline.
use Rattle.std.proofs.Common.{◌≡◌, ℕ, suc, ◌<◌, Bool, true, false, cond, eqb, ltb, List, [], ◌∷◌, ◌++◌, length, get_or, take, Option, Some, None, IfSome, refl, sym, ap, ◌∙◌, arith, sub-one}
use Rattle.std.proofs.lemmas.Bool.{lt-ltb}
use Rattle.std.specs.Io.BufRead.{take_through, drop_through, strip_last, DropsThrough}
use Rattle.scripts.specs.Lines.{onto, lines_of, IsFirstLine}

-- the bytes before the first newline
abbrev before : List ℕ → List ℕ
before [] = []
before (x ∷ xs) = cond (eqb x 10) [] (x ∷ before xs)

first_of : (b : Bool) (x : ℕ) (xs : List ℕ) → (0 < length xs → lines_of xs ≡ before xs ∷ lines_of (drop_through 10 xs))
    → cond b ([] ∷ lines_of xs) (onto x (lines_of xs)) ≡ cond b [] (x ∷ before xs) ∷ lines_of (cond b xs (drop_through 10 xs))
first_of true x xs h = refl
first_of false x [] h = refl
first_of false x (y ∷ ys) h = ap (onto x) (h (omega arith))

pub lines_first : (xs : List ℕ) → 0 < length xs → lines_of xs ≡ before xs ∷ lines_of (drop_through 10 xs)
lines_first [] h = absurd (omega arith)
lines_first (x ∷ xs) h = first_of (eqb x 10) x xs (lines_first xs)

last : (c : Bool) (x : ℕ) (l : List ℕ) (n : ℕ) → cond c (take (suc n) (x ∷ l)) (x ∷ l) ≡ x ∷ cond c (take n l) l
last true x l n = refl
last false x l n = refl

head_of : (b : Bool) (y : ℕ) (t : List ℕ) → (u : List ℕ) × (cond b (y ∷ []) (y ∷ t) ≡ y ∷ u)
head_of true y t = ([], refl)
head_of false y t = (t, refl)

strip_longer : (x y : ℕ) (ys : List ℕ) → strip_last 10 (x ∷ y ∷ ys) ≡ x ∷ strip_last 10 (y ∷ ys)
strip_longer x y ys =
    let a : ltb 0 (suc (suc (length ys))) ≡ true = lt-ltb _ _ (omega arith) in
    let b : ltb 0 (suc (length ys)) ≡ true = lt-ltb _ _ (omega arith) in
    rw (sub-one, sub-one, a, b) (last (eqb (get_or (y ∷ ys) (length ys) 0) 10) x (y ∷ ys) (length ys))

strip_one : (b : Bool) (x : ℕ) → eqb x 10 ≡ b → strip_last 10 (x ∷ []) ≡ cond b [] (x ∷ [])
strip_one b x e = ap (λ c. cond c [] (x ∷ [])) e

strip_first : (b : Bool) (x : ℕ) (xs : List ℕ) → eqb x 10 ≡ b → strip_last 10 (take_through 10 xs) ≡ before xs → strip_last 10 (cond b (x ∷ []) (x ∷ take_through 10 xs)) ≡ cond b [] (x ∷ before xs)
strip_first true x xs e h = strip_one true x e
strip_first false x [] e h = strip_one false x e
strip_first false x (y ∷ ys) e h =
    let t = head_of (eqb y 10) y (take_through 10 ys) in
    rw t.1 (strip_longer x y t.0 ∙ ap (λ l. x ∷ l) (rw t.1 at h))

pub strip_before : (xs : List ℕ) → strip_last 10 (take_through 10 xs) ≡ before xs
strip_before [] = refl
strip_before (x ∷ xs) = strip_first (eqb x 10) x xs refl (strip_before xs)

nonempty : (xs : List ℕ) → 0 < length (take_through 10 xs) → 0 < length xs
nonempty [] h = absurd (omega arith)
nonempty (x ∷ xs) h = omega arith

pub first_line : (o left : Option (List ℕ)) (line : List ℕ) → IfSome o (λ xs. line ≡ [] ++ take_through 10 xs) → DropsThrough o left 10 → 0 < length line → IfSome o (λ xs. IsFirstLine xs (strip_last 10 line) left)
first_line None left line a b c = tt
first_line (Some xs) left line a b c =
    (drop_through 10 xs, b, lines_first xs (nonempty xs (rw a at c)) ∙ ap (λ l. l ∷ lines_of (drop_through 10 xs)) (sym (rw a (strip_before xs))))
