use Rattle.std.proofs.Common.{◌∙◌, ap, List}
use Rattle.std.specs.Arc.{arc_value}
use Rattle.engine.specs.Parts.{PartData, all_published, documents_of_parts, is_living, woven}
use Rattle.engine.proofs.LivingLaws.{filter-parts, living-documents, living-published, living-woven}
use Rattle.engine.proofs.read.part_list.living.Goals as goal

-- parts in which nothing is live show nothing
pub invariant_of-result : goal.invariant_of-result
invariant_of-result c = rw (c.in_ok-mapping.ensures, c.in_ok-left.ensures) (filter-parts is_living (arc_value c.args.mapping.now) c.args.parts.now c.requires)

pub returns-clause-documents : goal.returns-clause-documents
returns-clause-documents c = ap (λ (ps : List PartData). woven (documents_of_parts ps)) c.in_ok-left.ensures ∙ living-woven c.args.parts.now c.requires.apart.sorted

pub returns-clause-published : goal.returns-clause-published
returns-clause-published c = ap all_published c.in_ok-left.ensures ∙ living-published c.args.parts.now

pub returns-clause-live : goal.returns-clause-live
returns-clause-live c = ap documents_of_parts c.in_ok-left.ensures ∙ living-documents c.args.parts.now
