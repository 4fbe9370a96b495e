use Rattle.std.proofs.Common.{arith}
use Rattle.std.proofs.lemmas.Map.Text.{text_keys}
use Rattle.segment.proofs.texts.post_in_order.Goals as goal

pub returns-clause-here : goal.returns-clause-here
returns-clause-here c = grind (arith, text_keys)

pub returns-clause-others : goal.returns-clause-others
returns-clause-others c = grind (arith, text_keys)
