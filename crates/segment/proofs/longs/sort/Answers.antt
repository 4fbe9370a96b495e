use Rattle.segment.proofs.longs.sort.Goals as goal

pub returns : goal.returns
returns c = c.in_ok-sorted.ensures.same
