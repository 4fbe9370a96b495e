-- All numbers below a count, and some of a window above it.
use Rattle.std.proofs.Common.{◌≡◌, ◌<◌, ◌≤◌, ◌+◌, ◌-◌, if◌then◌else◌, ℕ, zero, suc, Bool, true, false, ◌&&◌, List, [], ◌∷◌, ◌++◌, ◌==◌, filter, nat_lt, nat_le, min, fold, refl, sym, ap, ◌∙◌, append_assoc, append-nil, arith}
use Rattle.std.proofs.lemmas.Bool.Decides.{nat_tests}
use Rattle.std.proofs.lemmas.List.Folds.{list_any-append}
use Rattle.op.specs.Ids.{has, with}
use Rattle.checkpoint.specs.Numbers.{up_to, with_below, marked, run, run_from, least}
use Rattle.checkpoint.specs.Window.{marked_from}

-- ---- all numbers below a count

pub up_to-more : (c : ℕ) (ys : List ℕ) → up_to (suc c) ++ ys ≡ up_to c ++ (c ∷ ys)
up_to-more c ys = append_assoc (up_to c) (c ∷ []) ys

pub run-up_to : (c : ℕ) (ys : List ℕ) → run (up_to c ++ ys) ≡ run_from c ys
run-up_to zero ys = refl
run-up_to (suc c) ys = ap run (up_to-more c ys) ∙ run-up_to c (c ∷ ys) ∙ grind (arith, nat_tests)

pub has-up_to : (c n : ℕ) → has (up_to c) n ≡ nat_lt n c
has-up_to zero n = grind (arith, nat_tests)
has-up_to (suc c) n = list_any-append (λ m. m == n) (up_to c) (c ∷ []) ∙ grind (arith, nat_tests, has-up_to c n)

pub with-up_to : (c n : ℕ) (ys : List ℕ) → c ≤ n → with (up_to c ++ ys) n ≡ up_to c ++ with ys n
with-up_to zero n ys le = refl
with-up_to (suc c) n ys le = ap (λ ns. with ns n) (up_to-more c ys) ∙ with-up_to c n (c ∷ ys) (omega (arith, le)) ∙ ap (λ ns. up_to c ++ ns) (past c n ys le) ∙ sym (up_to-more c (with ys n))
  where
    past : (c n : ℕ) (ys : List ℕ) → suc c ≤ n → with (c ∷ ys) n ≡ c ∷ with ys n
    past c n ys le = grind (arith, nat_tests, le)

filter-append : (n : ℕ) (xs ys : List ℕ) → filter (λ m. nat_le n m) (xs ++ ys) ≡ filter (λ m. nat_le n m) xs ++ filter (λ m. nat_le n m) ys
filter-append n [] ys = refl
filter-append n (x ∷ xs) ys = grind (arith, filter-append n xs ys)

-- no number below a count is at least as great
none_of_up_to : (c n : ℕ) → c ≤ n → filter (λ m. nat_le n m) (up_to c) ≡ []
none_of_up_to zero n le = refl
none_of_up_to (suc c) n le = filter-append n (up_to c) (c ∷ []) ∙ grind (arith, nat_tests, le, none_of_up_to c n (omega (arith, le)))

filter-twice : (a b : ℕ) (ns : List ℕ) → a ≤ b → filter (λ m. nat_le b m) (filter (λ m. nat_le a m) ns) ≡ filter (λ m. nat_le b m) ns
filter-twice a b [] le = refl
filter-twice a b (n ∷ ns) le = grind (arith, nat_tests, le, filter-twice a b ns le)

-- the greater of two counts decides
pub with_below-twice : (a b : ℕ) (ns : List ℕ) → a ≤ b → with_below (with_below ns a) b ≡ with_below ns b
with_below-twice a b ns le = ap (λ ms. up_to b ++ ms) (filter-append b (up_to a) (filter (λ m. nat_le a m) ns) ∙ ap (λ ms. ms ++ filter (λ m. nat_le b m) (filter (λ m. nat_le a m) ns)) (none_of_up_to a b le) ∙ filter-twice a b ns le)

-- what is below a smaller count is there already
below_up_to : (c n : ℕ) → n ≤ c → up_to n ++ filter (λ m. nat_le n m) (up_to c) ≡ up_to c
below_up_to zero n le = grind (arith, le)
below_up_to (suc c) n le = elim (nat_le n c) as (λ b. nat_le n c ≡ b → up_to n ++ filter (λ m. nat_le n m) (up_to (suc c)) ≡ up_to (suc c)) [
  | true ↦ λ is. ap (λ ms. up_to n ++ ms) (filter-append n (up_to c) (c ∷ []) ∙ ap (λ ms. filter (λ m. nat_le n m) (up_to c) ++ ms) (same is)) ∙ sym (append_assoc (up_to n) (filter (λ m. nat_le n m) (up_to c)) (c ∷ [])) ∙ ap (λ ms. ms ++ c ∷ []) (below_up_to c n (grind (arith, nat_tests, is)))
  | false ↦ λ is. let same : n ≡ suc c = grind (arith, nat_tests, is, le) in ap (λ ms. up_to n ++ ms) (none_of_up_to (suc c) n (omega (arith, same))) ∙ append-nil (up_to n) ∙ ap up_to same
] refl
  where
    same : nat_le n c ≡ true → filter (λ m. nat_le n m) (c ∷ []) ≡ c ∷ []
    same is = grind (arith, is)

pub with_below-past : (c n : ℕ) (ys : List ℕ) → n ≤ c → filter (λ m. nat_le n m) ys ≡ ys → with_below (up_to c ++ ys) n ≡ up_to c ++ ys
with_below-past c n ys le all = ap (λ ms. up_to n ++ ms) (filter-append n (up_to c) ys ∙ ap (λ ms. filter (λ m. nat_le n m) (up_to c) ++ ms) all) ∙ sym (append_assoc (up_to n) (filter (λ m. nat_le n m) (up_to c)) ys) ∙ ap (λ ms. ms ++ ys) (below_up_to c n le)

-- a count at or past what is counted leaves of the others those from it on
pub with_below-above : (c n : ℕ) (ys : List ℕ) → c ≤ n → with_below (up_to c ++ ys) n ≡ up_to n ++ filter (λ m. nat_le n m) ys
with_below-above c n ys le = ap (λ ms. up_to n ++ ms) (filter-append n (up_to c) ys ∙ ap (λ ms. ms ++ filter (λ m. nat_le n m) ys) (none_of_up_to c n le))

-- ---- those that are marked

pub marked_same : (f g : ℕ → Bool) (a len : ℕ) → ((k : ℕ) → a ≤ k → k < a + len → f k ≡ g k) → marked_from f a len ≡ marked_from g a len
unfolding marked_from
marked_same f g a zero same = refl
marked_same f g a (suc len) same = grind (arith, same a (omega arith) (omega arith), marked_same f g (suc a) len (λ k lo hi. same k (omega (arith, lo)) (omega (arith, hi))))

pub marked_none : (f : ℕ → Bool) (a len : ℕ) → ((k : ℕ) → a ≤ k → k < a + len → f k ≡ false) → marked_from f a len ≡ []
unfolding marked_from
marked_none f a zero none = refl
marked_none f a (suc len) none = grind (arith, none a (omega arith) (omega arith), marked_none f (suc a) len (λ k lo hi. none k (omega (arith, lo)) (omega (arith, hi))))

-- a last number that isn't marked adds nothing
pub marked-snoc : (f : ℕ → Bool) (a len : ℕ) → f (a + len) ≡ false → marked_from f a (suc len) ≡ marked_from f a len
unfolding marked_from
marked-snoc f a zero last = grind (arith, last)
marked-snoc f a (suc len) last = grind (arith, marked-snoc f (suc a) len (ap f (omega arith) ∙ last))

-- from the second on they are all greater than the first
run-marked : (f : ℕ → Bool) (c a len : ℕ) → c < a → run_from c (marked_from f a len) ≡ c
unfolding marked_from
run-marked f c a zero lt = refl
run-marked f c a (suc len) lt = grind (arith, nat_tests, lt, run-marked f c (suc a) len (omega (arith, lt)))

pub run-gap : (f : ℕ → Bool) (c len : ℕ) → f c ≡ false → run (up_to c ++ marked_from f c len) ≡ c
unfolding marked_from
run-gap f c zero gap = run-up_to c []
run-gap f c (suc len) gap = run-up_to c (marked_from f c (suc len)) ∙ grind (arith, gap, run-marked f c (suc c) len (omega arith))

with-before : (f : ℕ → Bool) (n a len : ℕ) → n < a → with (marked_from f a len) n ≡ n ∷ marked_from f a len
unfolding marked_from
with-before f n a zero lt = refl
with-before f n a (suc len) lt = grind (arith, nat_tests, lt, with-before f n (suc a) len (omega (arith, lt)))

pub with-marked : (f g : ℕ → Bool) (n a len : ℕ) → a ≤ n → n < a + len → g n ≡ true → ((k : ℕ) → a ≤ k → k < a + len → (k ≡ n → ⊥) → g k ≡ f k) → with (marked_from f a len) n ≡ marked_from g a len
unfolding marked_from
with-marked f g n a zero lo hi at others = absurd (omega (arith, lo, hi))
with-marked f g n a (suc len) lo hi at others = elim (a == n) as (λ b. (a == n) ≡ b → with (marked_from f a (suc len)) n ≡ marked_from g a (suc len)) [
  | true ↦ λ is.
      let same : a ≡ n = grind (arith, nat_tests, is) in
      let rest : marked_from f (suc a) len ≡ marked_from g (suc a) len = marked_same f g (suc a) len (λ k kl kh. sym (others k (omega (arith, kl)) (omega (arith, kh)) (λ e. absurd (omega (arith, e, same, kl))))) in
      let here : g a ≡ true = ap g same ∙ at in
      grind (arith, nat_tests, is, same, rest, here, with-before f n (suc a) len (omega (arith, same)))
  | false ↦ λ is.
      let apart : (a ≡ n → ⊥) = λ e. absurd (grind (arith, nat_tests, is, e)) in
      let here : g a ≡ f a = others a (omega arith) (omega arith) apart in
      let below : a < n = omega (arith, lo, apart) in
      grind (arith, nat_tests, is, below, here, with-marked f g n (suc a) len below (omega (arith, hi)) at (λ k kl kh. others k (omega (arith, kl)) (omega (arith, kh))))
] refl

pub has-marked : (f : ℕ → Bool) (n a len : ℕ) → has (marked_from f a len) n ≡ (nat_le a n && nat_lt n (a + len) && f n)
unfolding marked_from
has-marked f n a zero = grind (arith, nat_tests)
has-marked f n a (suc len) = elim (a == n) as (λ b. (a == n) ≡ b → has (marked_from f a (suc len)) n ≡ (nat_le a n && nat_lt n (a + suc len) && f n)) [
  | true ↦ λ is. let same : a ≡ n = grind (arith, nat_tests, is) in let one : f a ≡ f n = ap f same in grind (arith, nat_tests, is, same, one, has-marked f n (suc a) len)
  | false ↦ λ is. let apart : (a ≡ n → ⊥) = λ e. absurd (grind (arith, nat_tests, is, e)) in grind (arith, nat_tests, is, apart, has-marked f n (suc a) len)
] refl

filter-marked : (f : ℕ → Bool) (n a len : ℕ) → n ≤ a → filter (λ m. nat_le n m) (marked_from f a len) ≡ marked_from f a len
unfolding marked_from
filter-marked f n a zero le = refl
filter-marked f n a (suc len) le = grind (arith, nat_tests, le, filter-marked f n (suc a) len (omega (arith, le)))

pub none_marked : (f : ℕ → Bool) (n a len : ℕ) → a + len ≤ n → filter (λ m. nat_le n m) (marked_from f a len) ≡ []
unfolding marked_from
none_marked f n a zero le = refl
none_marked f n a (suc len) le = grind (arith, nat_tests, le, none_marked f n (suc a) len (omega (arith, le)))

-- ---- both

pub with_below-less : (f : ℕ → Bool) (c len n : ℕ) → n ≤ c → with_below (up_to c ++ marked_from f c len) n ≡ up_to c ++ marked_from f c len
with_below-less f c len n le = with_below-past c n (marked_from f c len) le (filter-marked f n c len le)

-- the window moves up by one: its first number counts as marked, and its new last one isn't
module _ (f g : ℕ → Bool) (c len : ℕ) (same : (k : ℕ) → suc c ≤ k → k < suc c + len → g k ≡ f k) (last : g (suc c + len) ≡ false) where
  moved : marked_from f (suc c) len ≡ marked_from g (suc c) (suc len)
  moved = marked_same f g (suc c) len (λ k lo hi. sym (same k lo hi)) ∙ sym (marked-snoc g (suc c) len last)

  first_out : filter (λ m. nat_le (suc c) m) (marked_from f c (suc len)) ≡ filter (λ m. nat_le (suc c) m) (marked_from f (suc c) len)
  unfolding marked_from
  first_out = grind (arith, nat_tests)

  pub window-up : with_below (up_to c ++ marked_from f c (suc len)) (suc c) ≡ up_to (suc c) ++ marked_from g (suc c) (suc len)
  window-up = with_below-above c (suc c) (marked_from f c (suc len)) (omega arith) ∙ ap (λ ms. up_to (suc c) ++ ms) (first_out ∙ filter-marked f (suc c) (suc c) len (omega arith) ∙ moved)

  first_in : f c ≡ true → marked_from f c (suc len) ≡ c ∷ marked_from f (suc c) len
  unfolding marked_from
  first_in is = grind (arith, is)

  pub window-on : f c ≡ true → up_to c ++ marked_from f c (suc len) ≡ up_to (suc c) ++ marked_from g (suc c) (suc len)
  window-on is = ap (λ ms. up_to c ++ ms) (first_in is) ∙ sym (up_to-more c (marked_from f (suc c) len)) ∙ ap (λ ms. up_to (suc c) ++ ms) moved

-- a number below the count is there already
pub with-there : (c n : ℕ) (ys : List ℕ) → n < c → with (up_to c ++ ys) n ≡ up_to c ++ ys
with-there zero n ys lt = absurd (omega (arith, lt))
with-there (suc c) n ys lt = elim (n == c) as (λ b. (n == c) ≡ b → with (up_to (suc c) ++ ys) n ≡ up_to (suc c) ++ ys) [
  | true ↦ λ is. let same : n ≡ c = grind (arith, nat_tests, is) in ap (λ ns. with ns n) (up_to-more c ys) ∙ with-up_to c n (c ∷ ys) (omega (arith, same)) ∙ ap (λ ns. up_to c ++ ns) (grind (arith, nat_tests, same)) ∙ sym (up_to-more c ys)
  | false ↦ λ is. let below : n < c = grind (arith, nat_tests, is, lt) in ap (λ ns. with ns n) (up_to-more c ys) ∙ with-there c n (c ∷ ys) below ∙ sym (up_to-more c ys)
] refl

fold-min : (n m : ℕ) (ns : List ℕ) → fold min (min n m) ns ≡ min n (fold min m ns)
fold-min n m [] = refl
fold-min n m (k ∷ ks) = let same : min (min n m) k ≡ min n (min m k) = omega arith in rw same (fold-min n (min m k) ks)

pub least-fold : (n : ℕ) (ns : List ℕ) → least (n ∷ ns) ≡ fold min n ns
least-fold n [] = refl
least-fold n (m ∷ ms) = rw (least-fold m ms) (sym (fold-min n m ms))

-- ---- acknowledgements

from_least : (n : ℕ) (ms : List ℕ) → n ≤ run_from n ms
from_least n [] = omega arith
from_least n (m ∷ ms) = elim (m == n) as (λ b. n ≤ (if b then run_from (suc n) ms else n)) [
  | true ↦ let next : suc n ≤ run_from (suc n) ms = from_least (suc n) ms in omega (arith, next)
  | false ↦ omega arith
]

-- all below a number are there without a gap
pub run-with_below : (ns : List ℕ) (n : ℕ) → n ≤ run (with_below ns n)
run-with_below ns n = rw (run-up_to n (filter (λ m. nat_le n m) ns)) (from_least n (filter (λ m. nat_le n m) ns))

pub has-with : (ns : List ℕ) (n : ℕ) → has (with ns n) n ≡ true
has-with [] n = grind (arith, nat_tests)
has-with (m ∷ ms) n = grind (arith, nat_tests, has-with ms n)

-- what is there stays
pub has-with_more : (ns : List ℕ) (n k : ℕ) → has ns k ≡ true → has (with ns n) k ≡ true
has-with_more [] n k is = absurd cc
has-with_more (m ∷ ms) n k is = elim (m == k) as (λ b. (m == k) ≡ b → has (with (m ∷ ms) n) k ≡ true) [
  | true ↦ λ e. grind (arith, nat_tests, e)
  | false ↦ λ e. let rest : has ms k ≡ true = grind (arith, e, is) in grind (arith, nat_tests, e, rest, has-with_more ms n k rest)
] refl

pub has-with_below : (ns : List ℕ) (n k : ℕ) → k < n → has (with_below ns n) k ≡ true
has-with_below ns n k lt = list_any-append (λ m. m == k) (up_to n) (filter (λ m. nat_le n m) ns) ∙ grind (arith, nat_tests, lt, has-up_to n k)

pub has-marked_below : (ns : List ℕ) (seq below k : ℕ) → k < below → has (marked ns seq below) k ≡ true
has-marked_below ns zero below k lt = has-with_below ns below k lt
has-marked_below ns (suc n) below k lt = has-with_more (with_below ns below) n k (has-with_below ns below k lt)

pub marked-some : (ns : List ℕ) (seq below : ℕ) → 0 < seq → marked ns seq below ≡ with (with_below ns below) (seq - 1)
marked-some ns zero below lt = absurd (omega (arith, lt))
marked-some ns (suc n) below lt = let one : n ≡ suc n - 1 = omega arith in ap (with (with_below ns below)) one
