-- The numbers of a window of sixteen words.
use Rattle.std.proofs.Common.{◌≡◌, ◌<◌, ◌≤◌, ◌+◌, ◌-◌, ◌%◌, Bool, ℕ, suc, true, false, ◌&&◌, ◌||◌, List, ◌++◌, nat_lt, nat_eq, if◌then◌else◌, refl, sym, ap, ◌∙◌, append-nil, replicate, subst, add-one, true≢false, arith}
use Rattle.std.proofs.lemmas.Bool.Decides.{nat_tests, Decides-eqb}
use Rattle.std.proofs.lemmas.Grind.{common_steps}
use Rattle.std.proofs.lemmas.Nat.Bits.{bit_at-zero}
use Rattle.std.specs.Cmp.Lexicographic.{pointwise}
use Rattle.std.proofs.lemmas.List.Folds.{list_any-append}
use Rattle.std.proofs.lemmas.Slice.Eq.{slice_eq-Decides}
use Rattle.op.specs.Ids.{has, with}
use Rattle.checkpoint.specs.Numbers.{up_to, with_below, marked, run}
use Rattle.checkpoint.specs.Window.{is_marked, marked_from, numbers_of}
use Rattle.checkpoint.proofs.Sets.{has-with, has-marked_below, marked-some, has-up_to, has-marked, with-up_to, with-marked, run-gap, with-there, marked_none, none_marked, with_below-above, with_below-less, window-up, window-on}

pub run_of : (c : ℕ) (ws : List ℕ) → is_marked ws c ≡ false → run (numbers_of c ws) ≡ c
unfolding numbers_of
run_of c ws gap = run-gap (is_marked ws) c 1024 gap

pub numbers-none : (c : ℕ) (ws : List ℕ) → ((k : ℕ) → c ≤ k → k < c + 1024 → is_marked ws k ≡ false) → numbers_of c ws ≡ up_to c
unfolding numbers_of
numbers-none c ws none = ap (λ ms. up_to c ++ ms) (marked_none (is_marked ws) c 1024 none) ∙ append-nil (up_to c)

pub has_number : (c n : ℕ) (ws : List ℕ) → has (numbers_of c ws) n ≡ (nat_lt n c || (nat_lt n (c + 1024) && is_marked ws n))
unfolding numbers_of
has_number c n ws = list_any-append (λ m. nat_eq m n) (up_to c) (marked_from (is_marked ws) c 1024) ∙ grind (arith, nat_tests, has-up_to c n, has-marked (is_marked ws) n c 1024)

pub less_stays : (c n : ℕ) (ws : List ℕ) → n ≤ c → with_below (numbers_of c ws) n ≡ numbers_of c ws
unfolding numbers_of
less_stays c n ws le = with_below-less (is_marked ws) c 1024 n le

-- a number of the window is added by its bit
module _ (c n : ℕ) (ws ns : List ℕ) (each : (k : ℕ) → is_marked ns k ≡ (if nat_eq (k % 1024) (n % 1024) then true else is_marked ws k)) where
  at : is_marked ns n ≡ true
  at = each n ∙ grind (arith, nat_tests)

  pub others : (k : ℕ) → c ≤ k → k < c + 1024 → c ≤ n → n < c + 1024 → (k ≡ n → ⊥) → is_marked ns k ≡ is_marked ws k
  others k kl kh lo hi apart = let differs : (k % 1024 ≡ n % 1024 → ⊥) = λ e. apart (omega (arith, e, kl, kh, lo, hi)) in each k ∙ grind (arith, nat_tests, differs)

  pub number-set : c ≤ n → n < c + 1024 → with (numbers_of c ws) n ≡ numbers_of c ns
  unfolding numbers_of
  number-set lo hi = with-up_to c n (marked_from (is_marked ws) c 1024) lo ∙ ap (λ ms. up_to c ++ ms) (with-marked (is_marked ws) (is_marked ns) n c 1024 lo hi at (λ k kl kh apart. others k kl kh lo hi apart))

-- the window moves up by one, and the bit of its first number is taken back
module _ (c : ℕ) (ws ns : List ℕ) (each : (k : ℕ) → is_marked ns k ≡ (if nat_eq (k % 1024) (c % 1024) then false else is_marked ws k)) where
  pub same_above : (k : ℕ) → suc c ≤ k → k < c + 1024 → is_marked ns k ≡ is_marked ws k
  same_above k lo hi = let differs : (k % 1024 ≡ c % 1024 → ⊥) = λ e. absurd (omega (arith, e, lo, hi)) in each k ∙ grind (arith, nat_tests, differs)

  pub last : is_marked ns (c + 1024) ≡ false
  last = let same : (c + 1024) % 1024 ≡ c % 1024 = omega arith in each (c + 1024) ∙ grind (arith, nat_tests, same)

  up : with_below (numbers_of c ws) (suc c) ≡ numbers_of (suc c) ns
  unfolding numbers_of
  up = window-up (is_marked ws) (is_marked ns) c 1023 (λ k lo hi. same_above k lo (omega (arith, hi))) (ap (is_marked ns) (omega arith) ∙ last)

  on : is_marked ws c ≡ true → numbers_of c ws ≡ numbers_of (suc c) ns
  unfolding numbers_of
  on is = window-on (is_marked ws) (is_marked ns) c 1023 (λ k lo hi. same_above k lo (omega (arith, hi))) (ap (is_marked ns) (omega arith) ∙ last) is

  pub moved_up : with_below (numbers_of c ws) (c + 1) ≡ numbers_of (c + 1) ns
  moved_up = subst (λ m. with_below (numbers_of c ws) m ≡ numbers_of m ns) (sym (add-one c)) up

  pub moved_on : is_marked ws c ≡ true → numbers_of c ws ≡ numbers_of (c + 1) ns
  moved_on is = on is ∙ ap (λ m. numbers_of m ns) (sym (add-one c))

  -- what wasn't marked isn't after it
  pub unmarked : (k : ℕ) → is_marked ws k ≡ false → is_marked ns k ≡ false
  unmarked k none = each k ∙ grind (arith, nat_tests, none)

  -- past what the window had, nothing is marked
  pub fresh_up : (first : ℕ) → ((k : ℕ) → first ≤ k → k < c + 1024 → is_marked ws k ≡ false) → (k : ℕ) → first ≤ k → k < c + 1 + 1024 → is_marked ns k ≡ false
  fresh_up first none k lo hi = elim (nat_lt k (c + 1024)) as (λ b. nat_lt k (c + 1024) ≡ b → is_marked ns k ≡ false) [
    | true ↦ λ is. unmarked k (none k lo (grind (arith, nat_tests, is)))
    | false ↦ λ is. ap (is_marked ns) (grind (arith, nat_tests, is, hi)) ∙ last
  ] refl

-- a window that is passed whole leaves nothing
pub passed : (c n : ℕ) (ws ns : List ℕ) → c + 1024 ≤ n → ((k : ℕ) → n ≤ k → k < n + 1024 → is_marked ns k ≡ false) → with_below (numbers_of c ws) n ≡ numbers_of n ns
unfolding numbers_of
passed c n ws ns le none = with_below-above c n (marked_from (is_marked ws) c 1024) (omega (arith, le)) ∙ ap (λ ms. up_to n ++ ms) (none_marked (is_marked ws) n c 1024 le ∙ sym (marked_none (is_marked ns) n 1024 none))

-- no bit is set in words of zeros
pub unset : (k : ℕ) → is_marked (replicate 16 0) k ≡ false
unset k = grind (arith, common_steps, nat_tests, bit_at-zero (k % 64))

-- a number that is marked is below where none is
pub marked_below : (ws : List ℕ) (n first end : ℕ) → is_marked ws n ≡ true → ((k : ℕ) → first ≤ k → k < end → is_marked ws k ≡ false) → n < end → n < first
marked_below ws n first end is none lt = elim (nat_lt n first) as (λ b. nat_lt n first ≡ b → n < first) [
  | true ↦ λ below. grind (arith, nat_tests, below)
  | false ↦ λ above. absurd (true≢false (sym is ∙ none n (grind (arith, nat_tests, above)) lt))
] refl

-- a number below the count is there already
pub number_there : (c n : ℕ) (ws : List ℕ) → n < c → with (numbers_of c ws) n ≡ numbers_of c ws
unfolding numbers_of
number_there c n ws lt = with-there c n (marked_from (is_marked ws) c 1024) lt

-- a number that is set leaves those from a greater one on as they were
pub set_signed : (c n : ℕ) (ws ns : List ℕ) (first : ℕ) → ((k : ℕ) → is_marked ns k ≡ (if nat_eq (k % 1024) (n % 1024) then true else is_marked ws k)) → c ≤ n → n < c + 1024 → n < first → ((k : ℕ) → first ≤ k → k < c + 1024 → is_marked ws k ≡ false) → (k : ℕ) → first ≤ k → k < c + 1024 → is_marked ns k ≡ false
set_signed c n ws ns first each lo hi below none k kl kh = others c n ws ns each k (omega (arith, kl, lo, below)) kh lo hi (λ e. absurd (omega (arith, e, kl, below))) ∙ none k kl kh

-- ---- acknowledgements

-- a number that is there is added without a change
pub same_with : (c n : ℕ) (ws : List ℕ) → has (numbers_of c ws) n ≡ true → with (numbers_of c ws) n ≡ numbers_of c ws
unfolding numbers_of
same_with c n ws there = elim (nat_lt n c) as (λ b. nat_lt n c ≡ b → with (numbers_of c ws) n ≡ numbers_of c ws) [
  | true ↦ λ is. number_there c n ws (grind (arith, nat_tests, is))
  | false ↦ λ is.
      let lo : c ≤ n = grind (arith, nat_tests, is) in
      let inside : (nat_lt n (c + 1024) && is_marked ws n) ≡ true = let h = has_number c n ws in grind (arith, nat_tests, is, h, there) in
      let hi : n < c + 1024 = grind (arith, nat_tests, inside) in
      let at : is_marked ws n ≡ true = grind (arith, nat_tests, inside) in
      with-up_to c n (marked_from (is_marked ws) c 1024) lo ∙ ap (λ ms. up_to c ++ ms) (with-marked (is_marked ws) (is_marked ws) n c 1024 lo hi at (λ k kl kh apart. refl))
] refl

abbrev is_same : List ℕ → List ℕ → Bool
is_same ns ms = pointwise nat_eq ns ms

same_by : (ns ms : List ℕ) → ns ≡ ms → is_same ns ms ≡ true
same_by ns ms e = (slice_eq-Decides Decides-eqb ns ms (is_same ns ms) refl).1 e

-- a list that lacks a number of another is another
other_by : (ns ms : List ℕ) (n : ℕ) → has ns n ≡ false → has ms n ≡ true → is_same ns ms ≡ false
other_by ns ms n none there = elim (is_same ns ms) as (λ b. is_same ns ms ≡ b → b ≡ false) [
  | true ↦ λ is. absurd (true≢false (sym there ∙ ap (λ xs. has xs n) (sym ((slice_eq-Decides Decides-eqb ns ms (is_same ns ms) refl).0 is)) ∙ none))
  | false ↦ λ is. refl
] refl

-- what an acknowledgement adds to a window: nothing, where all below are there and it is of no number
pub nothing_below : (c below : ℕ) (ws : List ℕ) → below ≤ c → is_same (numbers_of c ws) (marked (numbers_of c ws) 0 below) ≡ true
nothing_below c below ws le = same_by _ _ (sym (less_stays c below ws le))

-- or of one that is there
pub nothing_at : (c seq below : ℕ) (ws : List ℕ) → below ≤ c → 0 < seq → has (numbers_of c ws) (seq - 1) ≡ is_same (numbers_of c ws) (marked (numbers_of c ws) seq below)
nothing_at c seq below ws le some =
    let all : marked (numbers_of c ws) seq below ≡ with (numbers_of c ws) (seq - 1) = marked-some (numbers_of c ws) seq below some ∙ ap (λ ns. with ns (seq - 1)) (less_stays c below ws le) in
    elim (has (numbers_of c ws) (seq - 1)) as (λ b. has (numbers_of c ws) (seq - 1) ≡ b → b ≡ is_same (numbers_of c ws) (marked (numbers_of c ws) seq below)) [
      | true ↦ λ is. sym (same_by _ _ (sym (all ∙ same_with c (seq - 1) ws is)))
      | false ↦ λ is. sym (other_by _ _ (seq - 1) is (ap (λ ns. has ns (seq - 1)) all ∙ has-with (numbers_of c ws) (seq - 1)))
    ] refl

-- where some below aren't, it adds those
pub adds_below : (c seq below : ℕ) (ws : List ℕ) → is_marked ws c ≡ false → c < below → is_same (numbers_of c ws) (marked (numbers_of c ws) seq below) ≡ false
adds_below c seq below ws gap lt =
    let none : has (numbers_of c ws) c ≡ false = has_number c c ws ∙ grind (arith, nat_tests, gap) in
    other_by _ _ c none (has-marked_below (numbers_of c ws) seq below c lt)
