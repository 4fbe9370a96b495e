use Rattle.std.proofs.Common.{◌∙◌}
use Rattle.doc.specs.Scalar.{text}
use Rattle.segment.specs.Indexed.{has_term}
use Rattle.segment.proofs.Columns.{places-of_sources, places-unmapped, none_text}
use Rattle.segment.proofs.segment.Segment.places_of.Goals as goal

pub returns-in-Some : goal.returns-in-Some
returns-in-Some c =
    let m = c.args.self.now.mapping in
    places-of_sources m c.args.self.now.sources (has_term m.fields c.args.name.now (text c.args.text.now)) c.places_of.result.now (c.places_of.ensures ∙ c.in-Some.ensures.texts c.args.text.now)

pub returns-in-None : goal.returns-in-None
returns-in-None c =
    let m = c.args.self.now.mapping in
    places-unmapped m c.args.self.now.sources (has_term m.fields c.args.name.now (text c.args.text.now)) c.args.name.now (none_text m.fields c.args.name.now (text c.args.text.now)) c.in-None.ensures
