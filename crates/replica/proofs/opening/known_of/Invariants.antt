use Rattle.std.proofs.Common.{◌≡◌, ◌≤◌, ◌^◌, take}
use Rattle.std.specs.Prelude.{fold}
use Rattle.replica.specs.Copy.{known_after}
use Rattle.replica.proofs.opening.known_of.Given as goal

-- what the records so far know
abbrev pub invariant-loop-kept : goal.invariant-loop-kept
invariant-loop-kept l = (l.known ≡ fold known_after 0 (take l.kept-index l.records)) × (l.known ≤ 2 ^ 63)
