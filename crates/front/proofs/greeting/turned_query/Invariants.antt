use Rattle.std.proofs.Common.{◌≡◌, ◌++◌, length}
use Rattle.front.specs.Greeting.{turned_query}
use Rattle.front.proofs.greeting.turned_query.Given as goal

-- what was written, and the parameters that are left
abbrev pub invariant-parameters : goal.invariant-parameters
invariant-parameters l = l.out.items ++ turned_query l.rest ≡ turned_query l.query

abbrev pub decreases-parameters : goal.decreases-parameters
decreases-parameters l = length l.rest
