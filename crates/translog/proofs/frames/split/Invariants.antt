use Rattle.std.proofs.Common.{◌≡◌, ◌++◌, map, length}
use Rattle.std.specs.List.{flat_map}
use Rattle.translog.specs.Frames.{framed, AreContents}
use Rattle.translog.proofs.frames.split.Given as goal

abbrev pub invariant-loop-content : goal.invariant-loop-content
invariant-loop-content l = record {
  parts : l.bytes ≡ flat_map framed (map (λ c. c.now) l.contents.items) ++ l.rest;
  small : AreContents (map (λ c. c.now) l.contents.items);
}

abbrev pub decreases-loop-content : goal.decreases-loop-content
decreases-loop-content l = length l.rest
