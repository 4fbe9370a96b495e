use Rattle.std.proofs.Common.{◌≡◌, drop}
use Rattle.std.specs.Prelude.{flat_map}
use Rattle.std.specs.List.{list_any}
use Rattle.doc.specs.ScalarView.{values_view}
use Rattle.doc.specs.Document.{values_at}
use Rattle.query.specs.Asked.{passes}
use Rattle.analysis.specs.Terms.{terms_of_value}
use Rattle.query.proofs.meaning.some_token.Given as goal

-- the fields that are left decide
abbrev pub invariant-loop-field : goal.invariant-loop-field
invariant-loop-field l = list_any (passes l.asked) (flat_map terms_of_value (values_at l.name (values_view (drop l.field-index l.fields)))) ≡ list_any (passes l.asked) (flat_map terms_of_value (values_at l.name (values_view l.fields)))
