use Rattle.std.proofs.Common.{◌≡◌, ◌∷◌, option_copied}
use Rattle.std.proofs.lemmas.Result.{err_from_is_err_and}
use Rattle.doc.specs.Outcome.{try_map}
use Rattle.doc.proofs.Fronts.{with_front, goes_on, ends, is_done}
use Rattle.scripts.specs.Step.{put_of, puts_of}
use Rattle.scripts.specs.View.{refusal_of}
use Rattle.scripts.specs.Words.{words_left, words_of}
use Rattle.scripts.proofs.step.puts_of.Goals as goal

-- the first id that is refused refuses all
pub returns-in_err-put : goal.returns-in_err-put
returns-in_err-put c =
    let refused = err_from_is_err_and c.from_residual.result c.from_residual.ensures.1 in
    let one = put_of c.args.mapping.now in
    let total = puts_of c.args.mapping.now (words_of c.args.words.now) in
    let id = c.first_word.result.0.now in
    let left = words_left (option_copied c.first_word.result.1) in
    let here : with_front c.words.puts.items (try_map one (id ∷ left)) ≡ total = rw c.first_word.ensures at (rw c.in-Some.is at c.words.invariant) in
    rw (refused.1, refused.2) (ends refusal_of c.in_err-put.field-0.0 one c.words.puts.items id left total c.in_err-put.ensures here)

-- one put more
pub words-preserved : goal.words-preserved
words-preserved c =
    let one = put_of c.args.mapping.now in
    let total = puts_of c.args.mapping.now (words_of c.args.words.now) in
    let id = c.first_word.result.0.now in
    let left = words_left (option_copied c.first_word.result.1) in
    let here : with_front c.words.puts.items (try_map one (id ∷ left)) ≡ total = rw c.first_word.ensures at (rw c.in-Some.is at c.words.invariant) in
    rw c.in_ok-push.ensures.items (goes_on one c.words.puts.items id c.in_ok-put.put left total c.in_ok-put.ensures here)

-- no word is left
pub returns : goal.returns
returns c = is_done (put_of c.args.mapping.now) c.words.puts.items (puts_of c.args.mapping.now (words_of c.args.words.now)) (rw c.in_default.is at c.words.invariant)
