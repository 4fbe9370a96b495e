use Rattle.std.proofs.Common.{◌≡◌, take}
use Rattle.segment.specs.Woven.{moved_by}
use Rattle.segment.proofs.moving.moved.Given as goal

-- the places so far are there
abbrev pub invariant-loop-place : goal.invariant-loop-place
invariant-loop-place l = l.all.items ≡ moved_by l.to (take l.place-index l.places)
