-- The heads of pages in pieces.
use Rattle.std.proofs.Common.{◌≡◌, ℕ, ◌<◌, ◌≤◌, suc, zero, Bool, true, false, List, [], ◌∷◌, ◌++◌, length, take, drop, bytes_eq, codes, refl, sym, ap, ◌∙◌, arith, append_assoc, if◌then◌else◌}
use Rattle.std.proofs.lemmas.List.{take-append-le}
use Rattle.std.specs.Cmp.Lexicographic.{bytes_decides}
use Rattle.front.specs.Page.{before_empty, with_fields}

abbrev begins : List ℕ → Bool
begins bs = bytes_eq (take 4 bs) (codes "\r\n\r\n")

take_length : (n : ℕ) (xs : List ℕ) → length (take n xs) ≤ length xs
take_length zero xs = omega arith
take_length (suc n) [] = omega arith
take_length (suc n) (x ∷ xs) = omega (arith, take_length n xs)

is_long : (bs : List ℕ) → begins bs ≡ true → 4 ≤ length bs
is_long bs is = omega (arith, take_length 4 bs, ap length ((bytes_decides (take 4 bs) (codes "\r\n\r\n")).0 is))

-- a text with an empty line has four bytes at least
has_four : (bs : List ℕ) → length (before_empty bs) < length bs → 4 ≤ length bs
has_four [] h = absurd (omega (arith, h))
has_four (b ∷ bs) h = here (begins (b ∷ bs)) refl h (has_four bs)
  where
    here : (t : Bool) → begins (b ∷ bs) ≡ t → length (if t then [] else b ∷ before_empty bs) < length (b ∷ bs) → (length (before_empty bs) < length bs → 4 ≤ length bs) → 4 ≤ length (b ∷ bs)
    here true is h rest = is_long (b ∷ bs) is
    here false is h rest = omega (arith, rest (omega (arith, h)))

same_front : (bs more : List ℕ) → 4 ≤ length bs → begins (bs ++ more) ≡ begins bs
same_front bs more h = ap (λ t. bytes_eq t (codes "\r\n\r\n")) (take-append-le 4 bs more h)

-- what follows a text with an empty line changes nothing of what stands before that line
pub before_more : (bs more : List ℕ) → length (before_empty bs) < length bs → before_empty (bs ++ more) ≡ before_empty bs
before_more [] more h = absurd (omega (arith, h))
before_more (b ∷ bs) more h = here (begins (b ∷ bs)) refl h (same_front (b ∷ bs) more (has_four (b ∷ bs) h)) (before_more bs more)
  where
    here : (t : Bool) → begins (b ∷ bs) ≡ t → length (if t then [] else b ∷ before_empty bs) < length (b ∷ bs) → begins ((b ∷ bs) ++ more) ≡ begins (b ∷ bs)
        → (length (before_empty bs) < length bs → before_empty (bs ++ more) ≡ before_empty bs)
        → (if begins ((b ∷ bs) ++ more) then [] else b ∷ before_empty (bs ++ more)) ≡ (if t then [] else b ∷ before_empty bs)
    here true is h same rest = ap (λ u. if u then [] else b ∷ before_empty (bs ++ more)) (same ∙ is)
    here false is h same rest = ap (λ u. if u then [] else b ∷ before_empty (bs ++ more)) (same ∙ is) ∙ ap (λ l. b ∷ l) (rest (omega (arith, h)))

drop_front : (xs ys : List ℕ) → drop (length xs) (xs ++ ys) ≡ ys
drop_front [] ys = refl
drop_front (x ∷ xs) ys = drop_front xs ys

-- fields in the first text are fields of the page
pub fields_over : (first more head after fields : List ℕ) → head ≡ before_empty first → first ≡ head ++ after → length head < length first
    → (head ++ (fields ++ after)) ++ more ≡ with_fields fields (first ++ more)
unfolding with_fields
fields_over first more head after fields e split lt =
    let same : before_empty (first ++ more) ≡ head = before_more first more (rw e at lt) ∙ sym e in
    let rest : drop (length head) (first ++ more) ≡ after ++ more = ap (λ l. drop (length head) (l ++ more)) split ∙ ap (drop (length head)) (append_assoc head after more) ∙ drop_front head (after ++ more) in
    append_assoc head (fields ++ after) more ∙ ap (λ l. head ++ l) (append_assoc fields after more)
    ∙ ap (λ l. head ++ (fields ++ l)) (sym rest)
    ∙ ap (λ h. h ++ (fields ++ drop (length h) (first ++ more))) (sym same)

-- the head of the first text is that of the page
pub head_over_all : (first more head : List ℕ) → head ≡ before_empty first → length head < length first → before_empty (first ++ more) ≡ head
head_over_all first more head e lt = before_more first more (rw e at lt) ∙ sym e
