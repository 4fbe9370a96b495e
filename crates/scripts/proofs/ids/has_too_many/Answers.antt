use Rattle.std.proofs.Common.{◌≡◌, ◌+◌, ◌∙◌, arith, length, option_copied}
use Rattle.scripts.specs.Words.{words_left, words_of}
use Rattle.scripts.proofs.Words.{goes_past}
use Rattle.scripts.proofs.ids.has_too_many.Goals as goal

pub returns : goal.returns
returns c =
    let end : c.words.counter ≡ 100 = omega (arith, c.words-test.false, c.words.auto.counter-end) in
    let all : 100 + length (words_left (option_copied c.words.rest)) ≡ length (words_of c.args.text.now) = rw end at c.words.invariant in
    c.is_some.ensures ∙ goes_past 100 (length (words_of c.args.text.now)) c.words.rest all
