use Rattle.std.proofs.Common.{◌≡◌, ◌+◌, map, take}
use Rattle.doc.specs.Document.{all_values}
use Rattle.segment.specs.Joined.{behind, AreMakings}
use Rattle.segment.proofs.building.makings_of.Given as goal

-- the columns have the documents so far
abbrev pub invariant-loop-source : goal.invariant-loop-source
invariant-loop-source l = record {
  count : l.at ≡ l.begin + l.source-index;
  so_far : AreMakings l.mapping.fields (behind l.begin (map (all_values l.mapping) (take l.source-index l.sources))) l.len l.makings;
}
