use Rattle.std.proofs.Common.{All}
use Rattle.op.specs.Records.{IsRecord}
use Rattle.folder.proofs.salvage.salvage_of.Given as goal

-- what is taken so far keeps the rules
abbrev pub invariant-loop : goal.invariant-loop
invariant-loop l = All IsRecord l.salvage.salvaged.records.items
