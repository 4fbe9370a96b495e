use Rattle.segment.proofs.HalvingLaws.{few-lower, few-upper, making-parts}
use Rattle.segment.proofs.halving.halves_of.Goals as goal

pub returns-clause-before : goal.returns-clause-before
returns-clause-before c = few-lower c.args._len c.args.makings c.split_off.new.self c.in_ok-upper.upper c.in_ok-upper.ensures.parts c.requires

pub returns-clause-from : goal.returns-clause-from
returns-clause-from c = few-upper c.args._len c.args.makings c.split_off.new.self c.in_ok-upper.upper c.len-ordered.ensures.ordered c.in_ok-upper.ensures.parts c.requires

pub returns-clause-all : goal.returns-clause-all
returns-clause-all c = making-parts c.args.makings c.split_off.new.self c.in_ok-upper.upper c.in_ok-upper.ensures.parts
