use Rattle.std.proofs.Common.{◌≡◌, drop}
use Rattle.node.specs.Gathered.{has_place, receipts_of}
use Rattle.node.proofs.gathering.any_has.Given as goal

-- the passes that are left decide
abbrev pub invariant-loop-pass : goal.invariant-loop-pass
invariant-loop-pass g l = has_place (receipts_of (drop l.pass-index l.passes)) l.place ≡ has_place (receipts_of l.passes) l.place
