use Rattle.std.proofs.Common.{◌≡◌, ℕ, List, length}
use Rattle.analysis.specs.Tokens.{tokens_of}
use Rattle.segment.specs.Places.{has_word}
use Rattle.segment.specs.Posted.{places_so_far, with_if}
use Rattle.segment.proofs.posting.post_words.Given as goal

-- the words that are left are still to get the place
abbrev pub invariant-words : goal.invariant-words
invariant-words l = (w : List ℕ) → with_if (has_word w l.words) l.at (places_so_far l.texts w) ≡ with_if (has_word w (tokens_of l.text)) l.at (places_so_far l.initial.texts w)

abbrev pub decreases-words : goal.decreases-words
decreases-words l = length l.words
