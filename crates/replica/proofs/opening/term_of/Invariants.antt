use Rattle.std.proofs.Common.{◌≡◌, ◌<◌, ◌^◌, take}
use Rattle.std.specs.Prelude.{fold}
use Rattle.replica.specs.Copy.{term_after, first_term}
use Rattle.replica.proofs.opening.term_of.Given as goal

-- the term of the records so far
abbrev pub invariant-loop-kept : goal.invariant-loop-kept
invariant-loop-kept l = (l.term ≡ fold term_after (first_term l.fn.birth) (take l.kept-index l.records)) × (l.term < 2 ^ 63)
