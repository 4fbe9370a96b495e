use Rattle.std.proofs.Common.{◌≡◌, length}
use Rattle.translog.proofs.StretchLaws.{IsSoFar}
use Rattle.translog.proofs.stretches.together.Given as goal

-- the records of the stretches so far, and the stretches that are left
abbrev pub invariant-loop-stretch : goal.invariant-loop-stretch
invariant-loop-stretch g l = IsSoFar (λ v. v.now) l.contents l.size l.fn.groups l.records.items l.may_group l.stretch-iterator.rest.items × (l.stretch-iterator.rest.len ≡ length l.stretch-iterator.rest.items)
