-- The words of a text at the offsets that the code finds.
use Rattle.std.proofs.Common.{◌≡◌, ◌≢◌, ℕ, zero, suc, ◌+◌, ◌-◌, ◌<◌, ◌≤◌, List, [], ◌∷◌, ◌++◌, length, take, drop, slice_index, slice_range, IsTrue, refl, sym, ap, ap₂, subst, ◌∙◌, arith, append-nil, length-drop, take_all, inl, inr}
use Rattle.std.proofs.lemmas.Bool.{cases_lt}
use Rattle.std.proofs.lemmas.List.{drop_more, drop_all, get_or-drop, take_more, take-append-drop}
use Rattle.std.proofs.lemmas.Str.{IsUtf8-take, IsCharBoundary-before_ascii}
use Rattle.std.specs.Char.{is_ascii_alphanumeric}
use Rattle.std.specs.Str.{IsUtf8}
use Rattle.analysis.specs.Delimiter.{is_delimiter}
use Rattle.unicode_segmentation.specs.Word.{words}
use Rattle.unicode_segmentation.proofs.TextLemmas.{length-slice_range, slice_range_split, take_split}
use Rattle.analysis.proofs.Parts.{AllPlain, spaces, words-apart, words-nil, words-past_spaces, words-between_delimiters, words-spaces}
use Rattle.analysis.proofs.Rules.{AllDelimiters}

leading_spaces : (n : ℕ) (s : List ℕ) → n ≤ length s → ((k : ℕ) → k < n → slice_index s k ≡ 32) → s ≡ spaces n ++ drop n s
leading_spaces zero s le h = refl
leading_spaces (suc n) [] le h = absurd (omega arith)
leading_spaces (suc n) (c ∷ s) le h =
    ap₂ ◌∷◌ (h 0 (omega arith)) (leading_spaces n s (omega arith) (λ k lt. h (suc k) (omega arith)))

-- a text without the spaces at its start
pub words-drop_spaces : (s : List ℕ) (n : ℕ) → n ≤ length s → ((k : ℕ) → k < n → slice_index s k ≡ 32)
    → (n < length s → slice_index s n < 128) → (n < length s → slice_index s n ≢ 32) → words (drop n s) ≡ words s
words-drop_spaces s n le h ascii ne =
    elim (cases_lt n (length s)) [
      | inl lt ↦
          let rest = drop_more s n 0 lt in
          ap words rest ∙ sym (ap words (leading_spaces n s le h ∙ ap (λ t. spaces n ++ t) rest)
          ∙ words-past_spaces n (slice_index s n) (drop (n + 1) s) (ascii lt) (ne lt))
      | inr ge ↦
          let rest = drop_all n s ge in
          ap words rest ∙ words-nil ∙ sym (ap words (leading_spaces n s le h ∙ ap (λ t. spaces n ++ t) rest ∙ append-nil (spaces n)) ∙ words-spaces n)
    ]

-- a text apart at an offset
pub words-split : (s : List ℕ) (n : ℕ) → IsUtf8 s → 0 < n → n ≤ length s → (n < length s → slice_index s n ≡ 32)
    → (n < length s → slice_index s (n - 1) < 128) → (n < length s → slice_index s (n - 1) ≢ 32) → words s ≡ words (take n s) ++ words (drop n s)
words-split s n u some le space ascii ne =
    elim (cases_lt n (length s)) [
      | inl lt ↦
          let i = n - 1 in
          let c = slice_index s i in
          let same : n ≡ i + 1 = omega arith in
          let front : take n s ≡ take i s ++ c ∷ [] = ap (λ k. take k s) same ∙ take_more s i 0 (omega arith) in
          let rest : drop n s ≡ 32 ∷ drop (n + 1) s = drop_more s n 0 lt ∙ ap (λ b. b ∷ drop (n + 1) s) (space lt) in
          let text = IsUtf8-take s i u (IsCharBoundary-before_ascii s i (omega arith) (ascii lt)) in
          ap words (sym (take-append-drop n s) ∙ ap₂ ◌++◌ front rest) ∙ words-apart (take i s) (drop (n + 1) s) c text (ascii lt) (ne lt)
          ∙ ap₂ (λ x y. words x ++ words y) (sym front) (sym rest)
      | inr ge ↦
          sym (ap₂ (λ x y. words x ++ words y) (take_all n s ge) (drop_all n s ge) ∙ ap (λ ws. words s ++ ws) words-nil ∙ append-nil (words s))
    ]

AllPlain-take : (n : ℕ) (s : List ℕ) → n ≤ length s → ((k : ℕ) → k < n → IsTrue (is_ascii_alphanumeric (slice_index s k))) → AllPlain (take n s)
AllPlain-take zero s le h = tt
AllPlain-take (suc n) [] le h = absurd (omega arith)
AllPlain-take (suc n) (c ∷ s) le h = (h 0 (omega arith), AllPlain-take n s (omega arith) (λ k lt. h (suc k) (omega arith)))

AllDelimiters-take : (n : ℕ) (s : List ℕ) → n ≤ length s → ((k : ℕ) → k < n → IsTrue (is_delimiter (slice_index s k))) → AllDelimiters (take n s)
AllDelimiters-take zero s le h = tt
AllDelimiters-take (suc n) [] le h = absurd (omega arith)
AllDelimiters-take (suc n) (c ∷ s) le h = (h 0 (omega arith), AllDelimiters-take n s (omega arith) (λ k lt. h (suc k) (omega arith)))

words-between : (front r back : List ℕ) → 0 < length r → AllDelimiters front → AllPlain r → AllDelimiters back → words (front ++ (r ++ back)) ≡ r ∷ []
words-between front [] back some all h k = absurd (omega arith)
words-between front (c ∷ r) back some all h k = words-between_delimiters front c r back all h k

-- letters and digits from `i` up to `j` among delimiters up to `n`
pub words-take_word : (s : List ℕ) (i j n : ℕ) → i < j → j ≤ n → n ≤ length s
    → ((k : ℕ) → k < i → IsTrue (is_delimiter (slice_index s k)))
    → ((k : ℕ) → i ≤ k → k < j → IsTrue (is_ascii_alphanumeric (slice_index s k)))
    → ((k : ℕ) → j ≤ k → k < n → IsTrue (is_delimiter (slice_index s k)))
    → words (take n s) ≡ slice_range s i j ∷ []
words-take_word s i j n lt le within front middle back =
    let shown = λ (P : ℕ → Type 0) (i k : ℕ). subst P (sym (get_or-drop i s k 0)) in
    let first = AllDelimiters-take i s (omega arith) front in
    let word = AllPlain-take (j - i) (drop i s) (omega (arith, length-drop i s))
    (λ k less. shown (λ b. IsTrue (is_ascii_alphanumeric b)) i k (middle (i + k) (omega arith) (omega arith))) in
    let last = AllDelimiters-take (n - j) (drop j s) (omega (arith, length-drop j s))
    (λ k less. shown (λ b. IsTrue (is_delimiter b)) j k (back (j + k) (omega arith) (omega arith))) in
    let some : 0 < length (slice_range s i j) = omega (arith, length-slice_range s i j (omega arith)) in
    ap words (take_split s i n (omega arith) ∙ ap (λ t. take i s ++ t) (slice_range_split s i j n (omega arith) le))
    ∙ words-between (take i s) (slice_range s i j) (slice_range s j n) some first word last

pub slice_range-front : (s : List ℕ) (n : ℕ) → slice_range s 0 n ≡ take n s
slice_range-front s n = let same : n - 0 ≡ n = omega arith in ap (λ k. take k s) same

pub nil_from_length : (s : List ℕ) → length s ≡ 0 → s ≡ []
nil_from_length s e = drop_all 0 s (omega arith)
