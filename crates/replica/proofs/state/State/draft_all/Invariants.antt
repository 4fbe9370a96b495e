use Rattle.std.specs.Vec.Iter.{into_iter_items, into_iter_len}
use Rattle.replica.proofs.Drafting.{IsUnderway}
use Rattle.replica.proofs.state.State.draft_all.Given as goal

-- the writes so far are done, and these are left
abbrev pub invariant-loop-write : goal.invariant-loop-write
invariant-loop-write l = IsUnderway l.self.copy l.initial.draft l.fn.writes l.draft (into_iter_items l.write-iterator) (into_iter_len l.write-iterator)
