use Rattle.std.proofs.Common.{◌∙◌, ap, w64}
use Rattle.std.proofs.lemmas.Int.{to_z-of_z}
use Rattle.doc.specs.Scalar.{long}
use Rattle.segment.specs.Indexed.{has_term}
use Rattle.segment.specs.Places.{places_at_long}
use Rattle.segment.proofs.Columns.{places-of_sources, places-unmapped, none_text}
use Rattle.segment.proofs.segment.Segment.places_of_long.Goals as goal

pub returns-in-Some : goal.returns-in-Some
returns-in-Some c =
    let m = c.args.self.now.mapping in
    places-of_sources m c.args.self.now.sources (has_term m.fields c.args.name.now (long c.args.number)) c.places_of_long.result.now (c.places_of_long.ensures ∙ ap (λ z. places_at_long c.in-Some.column.now.longs z) (to_z-of_z w64 c.args.number c.ranges.number) ∙ c.in-Some.ensures.longs c.args.number)

pub returns-in-None : goal.returns-in-None
returns-in-None c =
    let m = c.args.self.now.mapping in
    places-unmapped m c.args.self.now.sources (has_term m.fields c.args.name.now (long c.args.number)) c.args.name.now (none_text m.fields c.args.name.now (long c.args.number)) c.in-None.ensures
