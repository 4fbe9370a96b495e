use Rattle.segment.proofs.longs.group.Goals as goal

pub returns : goal.returns
returns c = c.in_ok-grouped.ensures
