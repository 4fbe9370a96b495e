use Rattle.std.proofs.Common.{◌≡◌, ◌+◌, length, map, take, drop}
use Rattle.std.specs.List.{flat_map}
use Rattle.translog.specs.Frames.{framed}
use Rattle.translog.specs.Pieces.{piece_records, ArePieces}
use Rattle.translog.proofs.RecordsLaws.{with_front}
use Rattle.translog.proofs.pieces.records_of.Given as goal

abbrev pub invariant-loop-content : goal.invariant-loop-content
invariant-loop-content l = record {
  found : with_front l.records.items (piece_records l.may_group l.offset (map (λ c. c.now) (drop l.content-index l.contents))) ≡ piece_records l.groups 4 (map (λ c. c.now) l.contents);
  pieces : ArePieces l.groups (map (λ c. c.now) (take l.content-index l.contents)) l.records.items l.may_group;
  at : l.offset ≡ 4 + length (flat_map framed (map (λ c. c.now) (take l.content-index l.contents)));
}
