use Rattle.scripts.proofs.Puts.{are_of_one_bulk}
use Rattle.scripts.proofs.step.writes_of.Goals as goal

pub unreachable-requires : goal.unreachable-requires
unreachable-requires c = c.in-None.ensures.none (are_of_one_bulk c.args.mapping.now c.as_str.result.now c.args.ids.now c.in_ok-puts.puts.items c.as_str.ensures.all c.as_str.ensures.few c.in_ok-puts.ensures)
