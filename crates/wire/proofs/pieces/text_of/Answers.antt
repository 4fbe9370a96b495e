use Rattle.std.proofs.Common.{Some, ap, ◌∙◌}
use Rattle.wire.proofs.Texts.{text_of-utf8, text_of-other}
use Rattle.wire.proofs.pieces.text_of.Goals as goal

pub returns-in-Ok : goal.returns-in-Ok
returns-in-Ok c = let cases = c.in-Ok.ensures.cases in ap Some cases.0 ∙ text_of-utf8 c.args.bytes.now cases.1

pub returns-in-Err : goal.returns-in-Err
returns-in-Err c = text_of-other c.args.bytes.now c.in-Err.ensures.cases.0
