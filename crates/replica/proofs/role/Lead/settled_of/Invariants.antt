use Rattle.std.proofs.Common.{◌≡◌, drop}
use Rattle.std.specs.Prelude.{filter}
use Rattle.replica.specs.Step.{is_settled_by}
use Rattle.replica.proofs.Pending.{all_have}
use Rattle.replica.proofs.role.Lead.settled_of.Given as goal

-- the members that are left decide of those that are still there
abbrev pub invariant-loop-id : goal.invariant-loop-id
invariant-loop-id l = filter (all_have l.self.acks l.own (drop l.id-index l.id-items)) l.settled ≡ filter (is_settled_by l.own l.self) l.numbers
