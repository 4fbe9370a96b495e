use Rattle.std.proofs.Common.{◌≡◌, length, option_copied}
use Rattle.doc.specs.Outcome.{try_map}
use Rattle.doc.proofs.Fronts.{with_front}
use Rattle.scripts.specs.Step.{put_of}
use Rattle.scripts.specs.Words.{words_left, words_of}
use Rattle.scripts.proofs.step.puts_of.Given as goal

-- the puts so far, and those of the words that are left
abbrev pub invariant-words : goal.invariant-words
invariant-words l = with_front l.puts.items (try_map (put_of l.mapping) (words_left (option_copied l.rest))) ≡ try_map (put_of l.mapping) (words_of l.words)

abbrev pub decreases-words : goal.decreases-words
decreases-words l = length (words_left (option_copied l.rest))
