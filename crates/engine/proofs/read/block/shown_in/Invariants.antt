use Rattle.std.proofs.Common.{◌≡◌, map, take}
use Rattle.engine.specs.Shown.{shown_view}
use Rattle.engine.proofs.read.block.shown_in.Given as goal

-- the documents so far
abbrev pub invariant-loop-shown : goal.invariant-loop-shown
invariant-loop-shown l = map (λ r. shown_view r.now) l.all.items ≡ map shown_view (take l.shown-index l.documents)
