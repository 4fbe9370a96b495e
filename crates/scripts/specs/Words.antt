-- The words of a line, parted by one space.
use Rattle.std.specs.Prelude.{ℕ, Bool, ◌==◌, nat_lt, List, [], length, Option, Some, None, if◌then◌else◌}
use Rattle.std.specs.List.{position_or_len, before_first, after_first, slice_split}

abbrev pub is_space : ℕ → Bool
is_space b = b == 32

-- whether a text holds a space
abbrev pub has_space : List ℕ → Bool
has_space text = nat_lt (position_or_len is_space text) (length text)

-- the first word of a text and what stands after the space that follows it, where there is one
abbrev pub split_word : List ℕ → Option (List ℕ × List ℕ)
split_word text = if has_space text then Some (before_first is_space text, after_first is_space text) else None

-- the text, where it is one word
abbrev pub one_word : List ℕ → Option (List ℕ)
one_word text = if has_space text then None else Some text

-- all words of a text
abbrev pub words_of : List ℕ → List (List ℕ)
words_of text = slice_split is_space text

-- those of what is left of a text
abbrev pub words_left : Option (List ℕ) → List (List ℕ)
words_left None = []
words_left (Some text) = words_of text

-- the words of a text that has at most 100
abbrev pub few_words : List ℕ → Option (List (List ℕ))
few_words text = if nat_lt 100 (length (words_of text)) then None else Some (words_of text)
