use Rattle.std.proofs.Common.{◌≡◌, map, take}
use Rattle.engine.specs.Parts.{all_published, documents_of_parts, without}
use Rattle.engine.proofs.read.part_list.parts_without.Given as goal

-- what is left of the parts so far
abbrev pub invariant-loop-part : goal.invariant-loop-part
invariant-loop-part l = record {
  mappings : map (λ p. p.mapping) l.left.items ≡ map (λ p. p.mapping) (take l.part-index l.parts);
  documents : documents_of_parts l.left.items ≡ map (without l.ids) (documents_of_parts (take l.part-index l.parts));
  published : all_published l.left.items ≡ all_published (take l.part-index l.parts);
}
