use Rattle.std.proofs.Common.{◌≡◌, ◌+◌, drop, length}
use Rattle.std.specs.Prelude.{map}
use Rattle.std.specs.List.{flat_map}
use Rattle.translog.specs.Frames.{framed}
use Rattle.master.specs.Log.{replayed}
use Rattle.master.specs.State.{IsSound}
use Rattle.master.proofs.replay.replayed.Given as goal

-- the frames that are left go on from the state so far
abbrev pub invariant-loop-content : goal.invariant-loop-content
invariant-loop-content l = record {
  state : replayed l.at l.state (map (λ c. c.items) (drop l.content-index l.contents)) ≡ replayed l.fn.offset l.fn.begun (map (λ c. c.items) l.contents);
  sound : IsSound l.state;
  offsets : l.at + length (flat_map framed (map (λ c. c.items) (drop l.content-index l.contents))) ≡ l.fn.offset + length (flat_map framed (map (λ c. c.items) l.contents));
}
