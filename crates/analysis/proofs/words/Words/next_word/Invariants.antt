use Rattle.std.proofs.Common.{◌≡◌, ◌++◌, length}
use Rattle.unicode_segmentation.specs.Iter.{unicode_words_left}
use Rattle.unicode_segmentation.specs.Word.{words}
use Rattle.analysis.proofs.words.Words.next_word.Given as goal

abbrev pub invariant-loop-word : goal.invariant-loop-word
invariant-loop-word l =
    unicode_words_left l.self-inside.stretch ++ words l.self-inside.rest.now
    ≡ unicode_words_left l.initial.self-inside.stretch ++ words l.initial.self-inside.rest.now

abbrev pub decreases-loop-word : goal.decreases-loop-word
decreases-loop-word l = length l.self-inside.rest.now
