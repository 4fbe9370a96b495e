use Rattle.std.proofs.Common.{◌≡◌, drop}
use Rattle.std.specs.List.{list_all}
use Rattle.op.specs.Rules.{is_of_group}
use Rattle.op.proofs.rules.are_of_group.Given as goal

abbrev pub invariant-loop-one : goal.invariant-loop-one
invariant-loop-one l = list_all is_of_group (drop l.one-index l.found) ≡ list_all is_of_group l.found
