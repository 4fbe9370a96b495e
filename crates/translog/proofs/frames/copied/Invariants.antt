use Rattle.std.proofs.Common.{◌≡◌, map, take}
use Rattle.translog.proofs.frames.copied.Given as goal

-- the contents so far
abbrev pub invariant-loop-content : goal.invariant-loop-content
invariant-loop-content l = map (λ c. c.items) l.copies.items ≡ map (λ c. c.now) (take l.content-index l.contents)
