-- The numbers of a span of seventeen words.
use Rattle.std.proofs.Common.{◌≡◌, ◌<◌, ◌≤◌, ◌+◌, ◌-◌, ◌*◌, ◌/◌, ◌%◌, ◌^◌, ℕ, zero, suc, Bool, true, false, ◌&&◌, ◌||◌, not, bit_and, bit_or, w64, List, [], ◌∷◌, ◌++◌, filter, nat_lt, nat_le, nat_eq, if◌then◌else◌, slice_index, replicate, refl, sym, ap, ap₂, ◌∙◌, suc-add, append-nil, arith, ⊎_elim}
use Rattle.std.proofs.lemmas.Bool.{cases_eq}
use Rattle.std.proofs.lemmas.Bool.Decides.{nat_tests}
use Rattle.std.proofs.lemmas.Grind.{common_steps}
use Rattle.std.proofs.lemmas.Nat.Bits.{bit_at-trailing_zeros, bit_at-zero, shr_and_one}
use Rattle.std.specs.Int.{bit_not, trailing_zeros}
use lib.Bits.{and_le_l}
use mathlib.Core.Logic.{◌≢◌}
use Rattle.op.specs.Ids.{has}
use Rattle.checkpoint.specs.Span.{is_set, is_set_from, is_spanned, span_of}
use Rattle.checkpoint.specs.Window.{is_marked, marked_from, numbers_of}
use Rattle.checkpoint.proofs.Sets.{has-marked, marked_none, marked_same}
use Rattle.checkpoint.proofs.Windows.{has_number}
use Rattle.checkpoint.proofs.WordBits.{set-and, set-or, set-not}

-- ---- those that are marked

if-append : (b : Bool) (a : ℕ) (xs ys : List ℕ) → (if b then a ∷ (xs ++ ys) else (xs ++ ys)) ≡ (if b then a ∷ xs else xs) ++ ys
if-append true a xs ys = refl
if-append false a xs ys = refl

pub marked-add : (f : ℕ → Bool) (a m n : ℕ) → marked_from f a (m + n) ≡ marked_from f a m ++ marked_from f (a + m) n
unfolding marked_from
marked-add f a zero n = ap₂ (marked_from f) (omega arith) (omega arith)
marked-add f a (suc m) n =
    ap (marked_from f a) (suc-add m n) ∙ ap (λ ns. if f a then a ∷ ns else ns) (marked-add f (suc a) m n ∙ ap (λ b. marked_from f (suc a) m ++ marked_from f b n) (omega arith))
    ∙ if-append (f a) a (marked_from f (suc a) m) (marked_from f (a + suc m) n)

-- the first ones and the next ones may be left out where none is marked
pub marked-moved : (f : ℕ → Bool) (a m len : ℕ) → ((k : ℕ) → a ≤ k → k < a + m → f k ≡ false) → ((k : ℕ) → a + len ≤ k → k < a + len + m → f k ≡ false) → marked_from f (a + m) len ≡ marked_from f a len
marked-moved f a m len before after =
    sym (ap (λ ns. ns ++ marked_from f (a + m) len) (marked_none f a m before)) ∙ sym (marked-add f a m len) ∙ ap (marked_from f a) (omega arith)
    ∙ marked-add f a len m ∙ ap (λ ns. marked_from f a len ++ ns) (marked_none f (a + len) m after) ∙ append-nil (marked_from f a len)

-- one more behind them
pub marked-then : (f g : ℕ → Bool) (n a len : ℕ) → a ≤ n → n < a + len → g n ≡ true → ((k : ℕ) → a ≤ k → k < a + len → n ≤ k → f k ≡ false) → ((k : ℕ) → a ≤ k → k < a + len → k ≢ n → g k ≡ f k) → marked_from g a len ≡ marked_from f a len ++ n ∷ []
unfolding marked_from
marked-then f g n a zero lo hi at none others = absurd (omega (arith, lo, hi))
marked-then f g n a (suc len) lo hi at none others = ⊎_elim
    (λ (same : a ≡ n).
    let here : g a ≡ true = ap g same ∙ at in
    let was : f a ≡ false = none a (omega arith) (omega arith) (omega (arith, same)) in
    let rest : marked_from g (suc a) len ≡ [] = marked_none g (suc a) len (λ k kl kh. others k (omega (arith, kl)) (omega (arith, kh)) (λ e. absurd (omega (arith, e, same, kl))) ∙ none k (omega (arith, kl)) (omega (arith, kh)) (omega (arith, same, kl))) in
    let old : marked_from f (suc a) len ≡ [] = marked_none f (suc a) len (λ k kl kh. none k (omega (arith, kl)) (omega (arith, kh)) (omega (arith, same, kl))) in
    grind (arith, here, was, rest, old, same))
    (λ (apart : a ≢ n).
    let here : g a ≡ f a = others a (omega arith) (omega arith) apart in
    let rest = marked-then f g n (suc a) len (omega (arith, lo, apart)) (omega (arith, hi)) at (λ k kl kh. none k (omega (arith, kl)) (omega (arith, kh))) (λ k kl kh. others k (omega (arith, kl)) (omega (arith, kh))) in
    grind (arith, here, rest))
    (cases_eq a n)

pub filter-marked_by : (f p : ℕ → Bool) (a len : ℕ) → filter p (marked_from f a len) ≡ marked_from (λ k. f k && p k) a len
unfolding marked_from
filter-marked_by f p a zero = refl
filter-marked_by f p a (suc len) = elim (f a) as (λ b. f a ≡ b → filter p (marked_from f a (suc len)) ≡ marked_from (λ k. f k && p k) a (suc len)) [
  | true ↦ λ is. elim (p a) as (λ b. p a ≡ b → filter p (marked_from f a (suc len)) ≡ marked_from (λ k. f k && p k) a (suc len)) [
    | true ↦ λ passes. grind (arith, is, passes, filter-marked_by f p (suc a) len)
    | false ↦ λ passes. grind (arith, is, passes, filter-marked_by f p (suc a) len)
  ] refl
  | false ↦ λ is. grind (arith, is, filter-marked_by f p (suc a) len)
] refl

-- ---- a span

zero_word : (ws : List ℕ) (k : ℕ) → slice_index ws (k / 64 % 17) ≡ 0 → is_spanned ws k ≡ false
zero_word ws k none = ap (λ w. is_set w (k % 64)) none ∙ ap (λ r. nat_eq r 1) (bit_at-zero (k % 64))

pub span-none : (ws : List ℕ) (first : ℕ) → ((k : ℕ) → is_spanned ws k ≡ false) → span_of first ws ≡ []
unfolding span_of
span-none ws first none = marked_none (is_spanned ws) (first * 64) 1088 (λ k _ _. none k)

pub unset : (k : ℕ) → is_spanned (replicate 17 0) k ≡ false
unset k = grind (arith, common_steps, nat_tests, bit_at-zero (k % 64))

-- the blocks in front that have no number
module _ (ws : List ℕ) (first : ℕ) (n : ℕ) (none : (j : ℕ) → j < n → slice_index ws ((first + j) % 17) ≡ 0) where
  before : (k : ℕ) → first * 64 ≤ k → k < first * 64 + n * 64 → is_spanned ws k ≡ false
  before k lo hi = zero_word ws k (let at : k / 64 % 17 ≡ (first + (k / 64 - first)) % 17 = ap (λ j. j % 17) (omega (arith, lo)) in ap (slice_index ws) at ∙ none (k / 64 - first) (omega (arith, lo, hi)))

  after : (k : ℕ) → first * 64 + 1088 ≤ k → k < first * 64 + 1088 + n * 64 → is_spanned ws k ≡ false
  after k lo hi = zero_word ws k (let at : k / 64 % 17 ≡ (first + (k / 64 - first - 17)) % 17 = omega (arith, lo) in ap (slice_index ws) at ∙ none (k / 64 - first - 17) (omega (arith, lo, hi)))

  pub span-moved : span_of (first + n) ws ≡ span_of first ws
  unfolding span_of
  span-moved = ap (λ a. marked_from (is_spanned ws) a 1088) (omega arith) ∙ marked-moved (is_spanned ws) (first * 64) (n * 64) 1088 before after

  pub span-empty : (m : ℕ) → 17 ≤ n → span_of m ws ≡ span_of first ws
  span-empty m all = span-none ws m nowhere ∙ sym (span-none ws first nowhere)
    where
      nowhere : (k : ℕ) → is_spanned ws k ≡ false
      nowhere k =
          let at : k / 64 % 17 ≡ (first + (k / 64 % 17 + 17 - first % 17) % 17) % 17 = omega arith in
          zero_word ws k (ap (slice_index ws) at ∙ none ((k / 64 % 17 + 17 - first % 17) % 17) (omega (arith, all)))

pub has-span : (ws : List ℕ) (first n : ℕ) → has (span_of first ws) n ≡ (nat_le (first * 64) n && nat_lt n (first * 64 + 1088) && is_spanned ws n)
unfolding span_of
has-span ws first n = has-marked (is_spanned ws) n (first * 64) 1088

-- ---- blocks

zero-set : (i : ℕ) → is_set 0 i ≡ false
zero-set i = ap (λ r. nat_eq r 1) (bit_at-zero i)

spanned-at : (ws : List ℕ) (block i : ℕ) → i < 64 → is_spanned ws (block * 64 + i) ≡ is_set (slice_index ws (block % 17)) i
spanned-at ws block i lt = ap₂ (λ j b. is_set (slice_index ws j) b) (omega (arith, lt)) (omega (arith, lt))

marked-at : (ws : List ℕ) (block i : ℕ) → i < 64 → is_marked ws (block * 64 + i) ≡ is_set (slice_index ws (block % 16)) i
marked-at ws block i lt = ap₂ (λ j b. is_set (slice_index ws j) b) (omega (arith, lt)) (omega (arith, lt))

-- of a span
pub block-inside : (ws : List ℕ) (first block i : ℕ) → i < 64 → first ≤ block → block < first + 17 → is_set (slice_index ws (block % 17)) i ≡ has (span_of first ws) (block * 64 + i)
block-inside ws first block i lt lo hi =
    let at = spanned-at ws block i lt in
    let low : first * 64 ≤ block * 64 + i = omega (arith, lo) in
    let high : block * 64 + i < first * 64 + 1088 = omega (arith, lt, hi) in
    sym (has-span ws first (block * 64 + i) ∙ grind (arith, nat_tests, at, low, high))

pub block-below : (ws : List ℕ) (first block i : ℕ) → i < 64 → block < first → is_set 0 i ≡ has (span_of first ws) (block * 64 + i)
block-below ws first block i lt less =
    let low : block * 64 + i < first * 64 = omega (arith, lt, less) in
    zero-set i ∙ sym (has-span ws first (block * 64 + i) ∙ grind (arith, nat_tests, low))

pub block-above : (ws : List ℕ) (first block i : ℕ) → i < 64 → first + 17 ≤ block → is_set 0 i ≡ has (span_of first ws) (block * 64 + i)
block-above ws first block i lt more =
    let high : first * 64 + 1088 ≤ block * 64 + i = omega (arith, more) in
    zero-set i ∙ sym (has-span ws first (block * 64 + i) ∙ grind (arith, nat_tests, high))

-- of a window
pub block-past : (ws : List ℕ) (count block i : ℕ) → i < 64 → count + 1024 ≤ block * 64 → is_set 0 i ≡ has (numbers_of count ws) (block * 64 + i)
block-past ws count block i lt past =
    let high : count + 1024 ≤ block * 64 + i = omega (arith, past) in
    zero-set i ∙ sym (has_number count (block * 64 + i) ws ∙ grind (arith, nat_tests, high))

pub block-window : (ws : List ℕ) (count block near all i : ℕ) → i < 64 → block * 64 < count + 1024 → is_set near i ≡ nat_lt i (count + 1024 - block * 64) → is_set all i ≡ nat_lt i (count - block * 64) →
    is_set (bit_or (bit_and (slice_index ws (block % 16)) near) all) i ≡ has (numbers_of count ws) (block * 64 + i)
block-window ws count block near all i lt start near-is all-is =
    let w = slice_index ws (block % 16) in
    let at = marked-at ws block i lt in
    let near_lt : nat_lt i (count + 1024 - block * 64) ≡ nat_lt (block * 64 + i) (count + 1024) = grind (arith, nat_tests, start) in
    let all_lt : nat_lt i (count - block * 64) ≡ nat_lt (block * 64 + i) count = grind (arith, nat_tests) in
    let is : is_set (bit_or (bit_and w near) all) i ≡ ((is_set w i && nat_lt (block * 64 + i) (count + 1024)) || nat_lt (block * 64 + i) count) = set-or (bit_and w near) all i ∙ ap₂ (λ a b. a || b) (set-and w near i ∙ ap (λ b. is_set w i && b) (near-is ∙ near_lt)) (all-is ∙ all_lt) in
    is ∙ sym (has_number count (block * 64 + i) ws ∙ grind (arith, nat_tests, at))

-- a word with bits has a number of the span
pub in_block : (ws : List ℕ) (first block word : ℕ) → first ≤ block → block < first + 17 → word ≡ slice_index ws (block % 17) → 0 < word → word < 2 ^ 64 → (i : ℕ) × (i < 64) × (is_set word i ≡ true) × (has (span_of first ws) (block * 64 + i) ≡ true)
in_block ws first block word lo hi is some small =
    let low = bit_at-trailing_zeros w64 word some small in
    let i = trailing_zeros w64 word in
    let set : is_set word i ≡ true = ap (λ r. nat_eq r 1) low.1 ∙ refl in
    (i, low.0, set, sym (block-inside ws first block i low.0 lo hi) ∙ ap (λ w. is_set w i) (sym is) ∙ set)

-- a word with bits that aren't among some low ones has a number above those
pub in_block-above : (ws : List ℕ) (first block number word low : ℕ) → first ≤ block → block < first + 17 → word ≡ slice_index ws (block % 17) → low < 2 ^ 64 → ((i : ℕ) → i < 64 → is_set low i ≡ nat_lt i (number - block * 64)) →
    0 < bit_and word (bit_not w64 low) → word < 2 ^ 64 → ((k : ℕ) → has (span_of first ws) k ≡ true → k < number) → ⊥
in_block-above ws first block number word low lo hi is fits lows some small all =
    let rest = bit_and word (bit_not w64 low) in
    let found = bit_at-trailing_zeros w64 rest some (omega (arith, small, and_le_l word (bit_not w64 low))) in
    let i = trailing_zeros w64 rest in
    let lt : i < 64 = found.0 in
    let both : (is_set word i && not (is_set low i)) ≡ true = ap (λ b. is_set word i && b) (sym (set-not low i fits lt)) ∙ sym (set-and word (bit_not w64 low) i) ∙ ap (λ r. nat_eq r 1) found.1 in
    let set : is_set word i ≡ true = grind (arith, nat_tests, both) in
    let past : is_set low i ≡ false = grind (arith, nat_tests, both) in
    let above : number - block * 64 ≤ i = let l = lows i lt in grind (arith, nat_tests, past, l) in
    let below = all (block * 64 + i) (sym (block-inside ws first block i lt lo hi) ∙ ap (λ w. is_set w i) (sym is) ∙ set) in
    absurd (omega (arith, above, below))

-- the numbers of a block
pub block-numbers : (ws : List ℕ) (block word : ℕ) → word ≡ slice_index ws (block % 17) → marked_from (is_set_from word (block * 64)) (block * 64) 64 ≡ marked_from (is_spanned ws) (block * 64) 64
block-numbers ws block word is = marked_same (is_set_from word (block * 64)) (is_spanned ws) (block * 64) 64 (λ k lo hi.
    let i = k - block * 64 in
    let lt : i < 64 = omega (arith, lo, hi) in
    let at : block * 64 + i ≡ k = omega (arith, lo) in
    ap (λ w. is_set w i) is ∙ sym (spanned-at ws block i lt) ∙ ap (is_spanned ws) at)

pub numbers-on : (ws : List ℕ) (first step word : ℕ) → word ≡ slice_index ws ((first + step) % 17) →
    marked_from (is_spanned ws) (first * 64) (step * 64) ++ marked_from (is_set_from word ((first + step) * 64)) ((first + step) * 64) 64 ≡ marked_from (is_spanned ws) (first * 64) ((step + 1) * 64)
numbers-on ws first step word is =
    ap (λ ns. marked_from (is_spanned ws) (first * 64) (step * 64) ++ ns) (block-numbers ws (first + step) word is ∙ ap (λ a. marked_from (is_spanned ws) a 64) (omega arith))
    ∙ sym (marked-add (is_spanned ws) (first * 64) (step * 64) 64) ∙ ap (marked_from (is_spanned ws) (first * 64)) (omega arith)

pub marked-zero : (f : ℕ → Bool) (a : ℕ) → marked_from f a 0 ≡ []
unfolding marked_from
marked-zero f a = refl

one : (f : ℕ → Bool) (a : ℕ) → marked_from f a 1 ≡ (if f a then a ∷ [] else [])
unfolding marked_from
one f a = refl

pub marked-one : (f : ℕ → Bool) (a n : ℕ) → f (a + n) ≡ true → marked_from f a (n + 1) ≡ marked_from f a n ++ (a + n) ∷ []
marked-one f a n is = marked-add f a n 1 ∙ ap (λ ns. marked_from f a n ++ ns) (one f (a + n) ∙ ap (λ b. if b then (a + n) ∷ [] else []) is)

pub marked-skip : (f : ℕ → Bool) (a n : ℕ) → f (a + n) ≡ false → marked_from f a (n + 1) ≡ marked_from f a n
marked-skip f a n is = marked-add f a n 1 ∙ ap (λ ns. marked_from f a n ++ ns) (one f (a + n) ∙ ap (λ b. if b then (a + n) ∷ [] else []) is) ∙ append-nil (marked_from f a n)

pub zero-numbers : (start word : ℕ) → word ≡ 0 → marked_from (is_set_from word start) start 64 ≡ []
zero-numbers start word is = marked_none (is_set_from word start) start 64 (λ k _ _. ap (λ w. is_set w (k - start)) is ∙ zero-set (k - start))

pub bit-from : (word start at : ℕ) → is_set_from word start (start + at) ≡ nat_eq (bit_and (word / 2 ^ at) 1) 1
bit-from word start at = ap (is_set word) (omega arith) ∙ ap (λ r. nat_eq r 1) (sym (shr_and_one word at))

-- a block that has no number from one on
pub none-from : (ws : List ℕ) (block number word low : ℕ) → word ≡ slice_index ws (block % 17) → low < 2 ^ 64 → ((i : ℕ) → i < 64 → is_set low i ≡ nat_lt i (number - block * 64)) → bit_and word (bit_not w64 low) ≡ 0 →
    (k : ℕ) → k / 64 ≡ block → number ≤ k → is_spanned ws k ≡ false
none-from ws block number word low is small lows none k at le =
    let i = k % 64 in
    let lt : i < 64 = omega arith in
    let both : (is_set word i && not (is_set low i)) ≡ false = ap (λ b. is_set word i && b) (sym (set-not low i small lt)) ∙ sym (set-and word (bit_not w64 low) i) ∙ ap (λ w. is_set w i) none ∙ zero-set i in
    let past : number - block * 64 ≤ i = omega (arith, at, le) in
    let above : is_set low i ≡ false = lows i lt ∙ grind (arith, nat_tests, past) in
    let here : is_spanned ws k ≡ is_set word i = ap (λ j. is_set (slice_index ws (j % 17)) i) at ∙ ap (λ w. is_set w i) (sym is) in
    here ∙ grind (arith, nat_tests, both, above)

-- ---- a span that is narrowed, block by block

module _ (p : ℕ → Bool) (first step mask : ℕ) (old ws ns : List ℕ) (within : step < 17)
    (each : (k : ℕ) → is_spanned ns k ≡ (if nat_eq (k / 64 % 17) ((first + step) % 17) then is_spanned ws k && is_set mask (k % 64) else is_spanned ws k))
    (masks : (i : ℕ) → i < 64 → is_set mask i ≡ p ((first + step) * 64 + i)) where
  stands : (k : ℕ) → first * 64 ≤ k → k < first * 64 + 1088 → k / 64 ≢ first + step → is_spanned ns k ≡ is_spanned ws k
  stands k lo hi apart =
      let differs : k / 64 % 17 ≢ (first + step) % 17 = λ e. apart (omega (arith, e, lo, hi, within)) in
      each k ∙ grind (arith, nat_tests, differs)

  here : (k : ℕ) → k / 64 ≡ first + step → is_spanned ns k ≡ (is_spanned ws k && p k)
  here k same =
      let at : nat_eq (k / 64 % 17) ((first + step) % 17) ≡ true = grind (arith, nat_tests, same) in
      let whole : (first + step) * 64 + k % 64 ≡ k = omega (arith, same) in
      each k ∙ ap (λ b. if b then is_spanned ws k && is_set mask (k % 64) else is_spanned ws k) at ∙ ap (λ b. is_spanned ws k && b) (masks (k % 64) (omega arith) ∙ ap p whole)

  module _ (done : (k : ℕ) → first * 64 ≤ k → k < (first + step) * 64 → is_spanned ws k ≡ (is_spanned old k && p k))
      (left : (k : ℕ) → (first + step) * 64 ≤ k → k < first * 64 + 1088 → is_spanned ws k ≡ is_spanned old k) where
    pub done-on : (k : ℕ) → first * 64 ≤ k → k < (first + (step + 1)) * 64 → is_spanned ns k ≡ (is_spanned old k && p k)
    done-on k lo hi = ⊎_elim
        (λ (same : k / 64 ≡ first + step). here k same ∙ ap (λ b. b && p k) (left k (omega (arith, same)) (omega (arith, hi, within))))
        (λ (apart : k / 64 ≢ first + step). stands k lo (omega (arith, hi, within)) apart ∙ done k lo (omega (arith, hi, apart)))
        (cases_eq (k / 64) (first + step))

    pub left-on : (k : ℕ) → (first + (step + 1)) * 64 ≤ k → k < first * 64 + 1088 → is_spanned ns k ≡ is_spanned old k
    left-on k lo hi = stands k (omega (arith, lo)) hi (λ e. absurd (omega (arith, e, lo))) ∙ left k (omega (arith, lo)) hi

pub narrowed : (p : ℕ → Bool) (first : ℕ) (old ws : List ℕ) → ((k : ℕ) → first * 64 ≤ k → k < first * 64 + 1088 → is_spanned ws k ≡ (is_spanned old k && p k)) → span_of first ws ≡ filter p (span_of first old)
unfolding span_of
narrowed p first old ws each = marked_same (is_spanned ws) (λ k. is_spanned old k && p k) (first * 64) 1088 each ∙ sym (filter-marked_by (is_spanned old) p (first * 64) 1088)

-- ---- one more number

pub span-then : (ws ns : List ℕ) (first number : ℕ) → first * 64 ≤ number → number < first * 64 + 1088 → ((k : ℕ) → first * 64 ≤ k → k < first * 64 + 1088 → number ≤ k → is_spanned ws k ≡ false) →
    ((k : ℕ) → is_spanned ns k ≡ (if nat_eq (k % 1088) (number % 1088) then true else is_spanned ws k)) → span_of first ns ≡ span_of first ws ++ number ∷ []
unfolding span_of
span-then ws ns first number lo hi none each = marked-then (is_spanned ws) (is_spanned ns) number (first * 64) 1088 lo hi (each number ∙ grind (arith, nat_tests)) none
    (λ k kl kh apart. let differs : k % 1088 ≢ number % 1088 = λ e. apart (omega (arith, e, kl, kh, lo, hi)) in each k ∙ grind (arith, nat_tests, differs))
