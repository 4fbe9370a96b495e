use Rattle.std.proofs.Common.{◌≡◌, ◌+◌, length, option_copied}
use Rattle.scripts.specs.Words.{words_of, words_left}
use Rattle.scripts.proofs.ids.has_too_many.Given as goal

-- the words so far, and those that are left
abbrev pub invariant-words : goal.invariant-words
invariant-words l = l.counter + length (words_left (option_copied l.rest)) ≡ length (words_of l.text)
