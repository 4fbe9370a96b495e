-- The places of the bits that are set, word by word.
use Rattle.std.proofs.Common.{◌≡◌, ℕ, zero, suc, ◌+◌, ◌-◌, ◌*◌, ◌/◌, ◌%◌, ◌^◌, ◌<◌, ◌≤◌, min, Bool, true, false, cond, List, [], ◌∷◌, ◌++◌, length, map, take, refl, sym, ap, ap₂, ◌∙◌, arith, mod-lt, zero-lt-suc, pow-suc, suc-add, zero-add, add-zero, nat_eq, nat_lt, if◌then◌else◌, replicate, slice_index}
use Rattle.std.proofs.lemmas.Bool.Decides.{nat_tests}
use Rattle.std.proofs.lemmas.List.{append-nil, length-append, length-replicate, get_or-replicate, take-append-le}
use Rattle.std.proofs.lemmas.List.FromFn.{fill_by_all}
use Rattle.std.proofs.lemmas.Nat.Bits.{bit_at_lowest, bit_at-suc}
use Rattle.std.specs.Int.{bit_at}
use Rattle.std.specs.List.{range_with_len}
use lib.Bits.{bit_and, and_step, and_self}
use lib.Count.{count_trailing_zeros, ones, ones_step, under}
use Rattle.marks.specs.Bits.{mark_at, is_marked, marks_of, marked_from, set_bits}
use Rattle.marks.specs.Lists.{places, places_from}

bit_cases : (P : ℕ → Type 0) → P 0 → P 1 → (r : ℕ) → r < 2 → P r
bit_cases P none one zero lt = none
bit_cases P none one (suc zero) lt = one
bit_cases P none one (suc (suc r)) lt = absurd (omega (arith, lt))

pub set_bits-zero : (k a : ℕ) → set_bits k a 0 ≡ []
unfolding set_bits
set_bits-zero zero a = refl
set_bits-zero (suc k) a = set_bits-zero k (a + 1)

abbrev turn : ℕ → ℕ → ℕ → ℕ → List ℕ
turn k a r t = cond (nat_eq r 1) (a ∷ set_bits k (a + 1) t) (set_bits k (a + 1) t)

abbrev Lowest : ℕ → ℕ → ℕ → Type 0
Lowest k a x = turn k a (x % 2) (x / 2) ≡ (a + under (x % 2) (count_trailing_zeros k (x / 2))) ∷ turn k a (bit_and x (x - 1) % 2) (bit_and x (x - 1) / 2)

-- the lowest bit that is set comes first
pub lowest : (k a x : ℕ) → 0 < x → x < 2 ^ k → set_bits k a x ≡ (a + count_trailing_zeros k x) ∷ set_bits k a (bit_and x (x - 1))
unfolding set_bits count_trailing_zeros
lowest zero a x pos h = let no : ⊥ = omega arith in absurd no
lowest (suc k) a x pos h = bit_cases (λ r. x % 2 ≡ r → Lowest k a x) (even (λ p. lowest k (a + 1) (x / 2) p (omega (arith, pow-suc 2 k)))) odd (x % 2) (mod-lt x (zero-lt-suc 1)) refl
  where
    odd : x % 2 ≡ 1 → Lowest k a x
    odd e =
        let y = bit_and x (x - 1) in
        let half : (x - 1) / 2 ≡ x / 2 = omega arith in
        let low : min (x % 2) ((x - 1) % 2) ≡ 0 = omega arith in
        let is : y ≡ x / 2 * 2 + 0 = and_step x (x - 1) ∙ ap₂ (λ u v. u * 2 + v) (ap (bit_and (x / 2)) half ∙ and_self (x / 2)) low in
        let p : y % 2 ≡ 0 = omega arith in
        let q : y / 2 ≡ x / 2 = omega arith in
        ap (λ r. turn k a r (x / 2)) e ∙ ap₂ (λ u v. u ∷ v) (sym (ap (λ r. a + under r (count_trailing_zeros k (x / 2))) e ∙ add-zero a)) (sym (ap₂ (turn k a) p q))

    even : (0 < x / 2 → set_bits k (a + 1) (x / 2) ≡ (a + 1 + count_trailing_zeros k (x / 2)) ∷ set_bits k (a + 1) (bit_and (x / 2) (x / 2 - 1))) → x % 2 ≡ 0 → Lowest k a x
    even below e =
        let y = bit_and x (x - 1) in
        let half : (x - 1) / 2 ≡ x / 2 - 1 = omega arith in
        let low : min (x % 2) ((x - 1) % 2) ≡ 0 = omega arith in
        let z = bit_and (x / 2) (x / 2 - 1) in
        let is : y ≡ z * 2 + 0 = and_step x (x - 1) ∙ ap₂ (λ u v. u * 2 + v) (ap (bit_and (x / 2)) half) low in
        let p : y % 2 ≡ 0 = omega arith in
        let q : y / 2 ≡ z = omega arith in
        let t = count_trailing_zeros k (x / 2) in
        let place : a + 1 + t ≡ a + suc t = omega arith in
        ap (λ r. turn k a r (x / 2)) e ∙ below (omega arith)
        ∙ ap₂ (λ u v. u ∷ v) (place ∙ sym (ap (λ r. a + under r t) e)) (sym (ap₂ (turn k a) p q))

-- the bits of a word are the marks at its places
pub set_bits-marked : (ws : List ℕ) (k a x : ℕ) → ((i : ℕ) → i < k → bit_at x i ≡ mark_at ws (a + i)) → set_bits k a x ≡ marked_from ws a k
unfolding set_bits marked_from
set_bits-marked ws zero a x h = refl
set_bits-marked ws (suc k) a x h =
    let first : nat_eq (x % 2) 1 ≡ is_marked ws a = ap (λ n. nat_eq n 1) (sym (bit_at_lowest x) ∙ h 0 (omega arith) ∙ ap (mark_at ws) (add-zero a)) in
    let rest = set_bits-marked ws k (a + 1) (x / 2) (λ i lt. sym (bit_at-suc x i) ∙ h (suc i) (omega (arith, lt)) ∙ ap (mark_at ws) (omega arith)) in
    ap₂ (λ t l. cond t (a ∷ l) l) first rest

cond-append : (t : Bool) (a : ℕ) (l r : List ℕ) → cond t (a ∷ (l ++ r)) (l ++ r) ≡ cond t (a ∷ l) l ++ r
cond-append true a l r = refl
cond-append false a l r = refl

pub marked-add : (ws : List ℕ) (m a n : ℕ) → marked_from ws a (m + n) ≡ marked_from ws a m ++ marked_from ws (a + m) n
unfolding marked_from
marked-add ws zero a n = ap₂ (marked_from ws) (sym (add-zero a)) (zero-add n)
marked-add ws (suc m) a n =
    let e : a + 1 + m ≡ a + suc m = omega arith in
    ap (marked_from ws a) (suc-add m n) ∙ ap (λ l. cond (is_marked ws a) (a ∷ l) l) (marked-add ws m (a + 1) n ∙ ap (λ j. marked_from ws (a + 1) m ++ marked_from ws j n) e)
    ∙ cond-append (is_marked ws a) a (marked_from ws (a + 1) m) (marked_from ws (a + suc m) n)

pub marked-none : (ws : List ℕ) (a n : ℕ) → ((k : ℕ) → a ≤ k → mark_at ws k ≡ 0) → marked_from ws a n ≡ []
unfolding marked_from
marked-none ws a zero none = refl
marked-none ws a (suc n) none = ap (λ m. cond (nat_eq m 1) (a ∷ marked_from ws (a + 1) n) (marked_from ws (a + 1) n)) (none a (omega arith)) ∙ marked-none ws (a + 1) n (λ k le. none k (omega (arith, le)))

-- the places among the marks
marked-places : (ws : List ℕ) (a n : ℕ) → marked_from ws a n ≡ places_from (λ b. b) a (map (is_marked ws) (range_with_len a n))
unfolding marked_from
marked-places ws a zero = refl
marked-places ws a (suc n) = ap (λ l. cond (is_marked ws a) (a ∷ l) l) (marked-places ws (a + 1) n)

below : (k n : ℕ) → k < n → nat_eq (if nat_lt k n then 1 else 0) 1 ≡ true
below k n lt = grind (arith, nat_tests, lt)

-- each of the first n is marked
pub marks_of-all : (ws : List ℕ) (n : ℕ) → ((k : ℕ) → mark_at ws k ≡ (if nat_lt k n then 1 else 0)) → marks_of ws n ≡ replicate n true
marks_of-all ws n each = sym (fill_by_all (is_marked ws) (replicate n true) n false (length-replicate n true) (λ k lt. get_or-replicate n k true false lt ∙ sym (ap (λ m. nat_eq m 1) (each k) ∙ below k n lt)))

-- no mark stands past the n of a list
pub places-marked : (ws : List ℕ) (n m : ℕ) → n ≤ m → ((k : ℕ) → n ≤ k → mark_at ws k ≡ 0) → marked_from ws 0 m ≡ places (λ b. b) (marks_of ws n)
places-marked ws n m le clean =
    let whole : m ≡ n + (m - n) = omega (arith, le) in
    ap (marked_from ws 0) whole ∙ marked-add ws n 0 (m - n) ∙ ap (λ l. marked_from ws 0 n ++ l) (marked-none ws (0 + n) (m - n) (λ k past. clean k (omega (arith, past)))) ∙ append-nil _ ∙ marked-places ws 0 n

-- the bits of one word more
pub marked-word : (ws : List ℕ) (at x : ℕ) → x ≡ slice_index ws at → marked_from ws 0 (64 * at) ++ set_bits 64 (64 * at) x ≡ marked_from ws 0 (64 * (at + 1))
marked-word ws at x is =
    let each : (i : ℕ) → i < 64 → bit_at x i ≡ mark_at ws (64 * at + i) = λ i lt. ap₂ (λ w j. bit_at w j) (is ∙ ap (slice_index ws) (omega (arith, lt))) (omega (arith, lt)) in
    ap (λ l. marked_from ws 0 (64 * at) ++ l) (set_bits-marked ws 64 (64 * at) x each ∙ ap (λ a. marked_from ws a 64) (sym (zero-add (64 * at))))
    ∙ sym (marked-add ws (64 * at) 0 64) ∙ ap (marked_from ws 0) (omega arith)

-- the first of them stand in front
pub marked-enough : (ws : List ℕ) (m n wanted : ℕ) → m ≤ n → wanted ≤ length (marked_from ws 0 m) → take wanted (marked_from ws 0 m) ≡ take wanted (marked_from ws 0 n)
marked-enough ws m n wanted le few =
    let whole : m + (n - m) ≡ n = omega (arith, le) in
    sym (take-append-le wanted (marked_from ws 0 m) (marked_from ws (0 + m) (n - m)) few) ∙ ap (take wanted) (sym (marked-add ws m 0 (n - m)) ∙ ap (marked_from ws 0) whole)

one_more : (t : Bool) (b k : ℕ) (l : List ℕ) → length l ≤ k → length (cond t (b ∷ l) l) ≤ suc k
one_more true b k l h = omega arith
one_more false b k l h = omega arith

-- no more places than marks
pub length-places : (n : ℕ) (bs : List Bool) → length (places_from (λ (b : Bool). b) n bs) ≤ length bs
length-places n [] = omega arith
length-places n (b ∷ bs) = one_more b n (length bs) _ (length-places (n + 1) bs)

-- as many as bits are set
pub length-ones : (k a x : ℕ) → x < 2 ^ k → length (set_bits k a x) ≡ ones x
unfolding set_bits ones
length-ones zero a x h = let e : 0 ≡ x = omega arith in ap ones e
length-ones (suc k) a x h =
    let rest = set_bits k (a + 1) (x / 2) in
    bit_cases (λ r. length (cond (nat_eq r 1) (a ∷ rest) rest) ≡ r + length rest) (omega arith) (omega arith) (x % 2) (mod-lt x (zero-lt-suc 1))
    ∙ ap (λ n. x % 2 + n) (length-ones k (a + 1) (x / 2) (omega (arith, pow-suc 2 k))) ∙ sym (ones_step x)

pub length-marked : (ws : List ℕ) (a n : ℕ) → length (marked_from ws a n) ≤ n
unfolding marked_from
length-marked ws a zero = omega arith
length-marked ws a (suc n) = one_more (is_marked ws a) a n _ (length-marked ws (a + 1) n)

pub counted-word : (ws : List ℕ) (at x : ℕ) → x ≡ slice_index ws at → x < 2 ^ 64 → length (marked_from ws 0 (64 * at)) + ones x ≡ length (marked_from ws 0 (64 * (at + 1)))
counted-word ws at x is small =
    ap (λ n. length (marked_from ws 0 (64 * at)) + n) (sym (length-ones 64 (64 * at) x small)) ∙ sym (length-append (marked_from ws 0 (64 * at)) (set_bits 64 (64 * at) x)) ∙ ap length (marked-word ws at x is)
