use Rattle.std.proofs.Common.{Some, None}
use Rattle.scripts.proofs.Words.{split_words}
use Rattle.scripts.proofs.ids.first_word.Goals as goal

pub returns-in-Some : goal.returns-in-Some
returns-in-Some c = split_words c.args.text.now (Some (c.in-Some.word.now, c.in-Some.rest.now)) (rw c.in-Some.is at c.split_word.ensures)

pub returns-in-None : goal.returns-in-None
returns-in-None c = split_words c.args.text.now None (rw c.in-None.is at c.split_word.ensures)
