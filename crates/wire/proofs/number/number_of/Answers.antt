use Rattle.std.proofs.Common.{◌≡◌, true, sym, ◌∙◌}
use Rattle.wire.specs.Number.{is_number}
use Rattle.wire.proofs.Numbers.{read_number-parse}
use Rattle.wire.proofs.number.number_of.Goals as goal

pub returns-in-Err : goal.returns-in-Err
returns-in-Err c =
    let word = c.args.word.now in
    let is : is_number word ≡ true = rw c.as_bytes.ensures.value at (sym c.is_number.ensures ∙ c.if-not-is_number.false) in
    rw c.in-Err.is at (read_number-parse word c.parse.result c.parse.ensures.value.0 is)
