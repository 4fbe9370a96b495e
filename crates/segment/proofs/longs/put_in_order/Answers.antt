use Rattle.std.proofs.Common.{◌∙◌}
use Rattle.segment.proofs.longs.put_in_order.Goals as goal

pub returns : goal.returns
returns c = λ z. c.in_ok-united.ensures z ∙ c.in_ok-pairs.ensures z
