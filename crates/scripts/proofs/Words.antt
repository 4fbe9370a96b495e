-- The words of a text, one by one.
use Rattle.std.proofs.Common.{◌≡◌, ℕ, ◌<◌, ◌+◌, nat_lt, Bor, is_some, option_copied, length, arith, List, [], ◌∷◌, Bool, true, false, Option, Some, None, if◌then◌else◌, refl}
use Rattle.std.specs.List.{before_first, after_first}
use Rattle.std.proofs.lemmas.Bool.Decides.{nat_tests}
use Rattle.std.proofs.lemmas.List.Splits.{slice_split_first, slice_split_none, length-slice_split}
use Rattle.std.proofs.lemmas.List.Sums.{fails_before_first}
use Rattle.scripts.specs.Words.{is_space, has_space, split_word, words_of, words_left}

abbrev words_in : List ℕ → Option (List ℕ × List ℕ) → List (List ℕ)
words_in text None = text ∷ []
words_in text (Some at) = at.0 ∷ words_of at.1

split_by : (text : List ℕ) (h : Bool) → has_space text ≡ h → words_of text ≡ words_in text (if h then Some (before_first is_space text, after_first is_space text) else None)
split_by text true e = slice_split_first is_space text 0 (grind (arith, nat_tests, e))
split_by text false e = slice_split_none is_space text (λ k d lt. fails_before_first is_space text k d (grind (arith, nat_tests, e)))

-- the words of a text that is split
pub split_words : (text : List ℕ) (o : Option (List ℕ × List ℕ)) → o ≡ split_word text → words_of text ≡ words_in text o
split_words text o e = rw e (split_by text (has_space text) refl)

-- a text has a word
pub has_words : (text : List ℕ) → 0 < length (words_of text)
has_words text = omega (arith, length-slice_split is_space text)

-- whether words are left behind so many
pub goes_past : (n total : ℕ) (left : Option (Bor (List ℕ))) → n + length (words_left (option_copied left)) ≡ total → is_some left ≡ nat_lt n total
goes_past n total None e = grind (arith, nat_tests, e)
goes_past n total (Some text) e = grind (arith, nat_tests, e, has_words text.now)
