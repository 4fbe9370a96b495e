use Rattle.std.proofs.Common.{◌≡◌, List, [], Some, Ok, refl, sym, ap, ◌∙◌}
use Rattle.std.specs.Prelude.{Result}
use Rattle.doc.specs.Mapping.{MappingData}
use Rattle.op.specs.declared.record.Record.{Record}
use Rattle.translog.specs.Fault.{Fault}
use Rattle.translog.specs.Frames.{contents_in, contents_of}
use Rattle.translog.specs.Kept.{kept}
use Rattle.translog.specs.Pieces.{piece_records}
use Rattle.replica.specs.Copy.{opened}
use Rattle.replica.specs.declared.role.Birth.TheVariants.{Added}
use Rattle.world.proofs.nodes.copies.added.Goals as goal

kept_empty : kept [] ≡ Ok []
unfolding kept contents_in contents_of piece_records
kept_empty = refl

no_records : (rs : List Record) → kept [] ≡ Ok rs → rs ≡ []
no_records rs is = let same : (let r : Result (List Record) Fault = Ok [] in r) ≡ Ok rs = sym kept_empty ∙ is in sym (cc same)

pub returns-in-Ok-clause-copy : goal.returns-in-Ok-clause-copy
returns-in-Ok-clause-copy c =
    let none : c.new-device.result.bytes.items ≡ [] = c.new-device.ensures.bytes ∙ c.new.ensures.items in
    let records : c.in-Ok.copy.copy.records ≡ [] = no_records c.in-Ok.copy.copy.records (sym (ap kept none) ∙ c.in-Ok.ensures.records) in
    let copy = c.in-Ok.ensures.copy ∙ ap (λ (m : MappingData). opened c.in-Some.id Added m c.in-Ok.copy.copy.records) c.in_ok-mapping.ensures ∙ ap (λ (rs : List Record). opened c.in-Some.id Added c.args.mapping.now rs) records in
    rw c.in-Some.is (ap Some copy)
