use Rattle.std.proofs.Common.{◌∙◌, ap, sym}
use Rattle.doc.specs.Id.{id_of}
use Rattle.op.specs.Reading.{or_malformed}
use Rattle.op.proofs.Texts.{utf8_text, other_text}
use Rattle.op.proofs.reading.id_from.Goals as goal

pub returns-in_default : goal.returns-in_default
returns-in_default c = other_text c.args.bytes.now _ c.in_default.ensures.cases.0

pub returns-in-Ok-new : goal.returns-in-Ok-new
returns-in-Ok-new c = utf8_text c.args.bytes.now (id_of c.args.bytes.now) c.in-Ok.ensures.cases.1 ∙ ap or_malformed (ap id_of (sym c.in-Ok.ensures.cases.0) ∙ c.in-Ok-new.ensures)
