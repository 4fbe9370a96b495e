use Rattle.std.proofs.Common.{◌≡◌, ◌<◌, ℕ, true}
use Rattle.node.specs.Gathered.{has_place, receipts_of}
use Rattle.node.proofs.gathering.covers.Given as goal

-- each place so far has its receipt
abbrev pub invariant-loop-place : goal.invariant-loop-place
invariant-loop-place g l = (place : ℕ) → place < l.place → has_place (receipts_of l.passes) place ≡ true
