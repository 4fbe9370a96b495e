use Rattle.std.specs.Prelude.{◌≡◌, None}
use Rattle.ruled.specs.Entries.{opened_after, rulings_in}
use Rattle.ruled.proofs.entry.journal_of.Given as goal

-- what the entries so far say
abbrev pub invariant-loop-entry : goal.invariant-loop-entry
invariant-loop-entry l = (l.opening ≡ opened_after None l.yielded) × (l.rulings.items ≡ rulings_in l.yielded)
