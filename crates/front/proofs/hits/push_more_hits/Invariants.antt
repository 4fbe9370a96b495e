use Rattle.std.proofs.Common.{◌≡◌, ◌++◌, drop}
use Rattle.front.specs.Page.{more_hits}
use Rattle.front.proofs.hits.push_more_hits.Given as goal

-- the text so far, and that of the hits that are left
abbrev pub invariant-loop-hit : goal.invariant-loop-hit
invariant-loop-hit l = l.body ++ more_hits l.middle (drop l.hit-index l.hits) ≡ l.fn.body ++ more_hits l.middle l.hits
