use Rattle.std.proofs.Common.{◌≡◌, drop}
use Rattle.std.specs.Prelude.{flat_map}
use Rattle.std.specs.List.{list_any}
use Rattle.doc.specs.ScalarView.{scalars_view}
use Rattle.query.specs.Asked.{passes}
use Rattle.analysis.specs.Terms.{terms_of_value}
use Rattle.query.proofs.meaning.some_token_of.Given as goal

-- the values that are left decide
abbrev pub invariant-loop-value : goal.invariant-loop-value
invariant-loop-value l = list_any (passes l.asked) (flat_map terms_of_value (scalars_view (drop l.value-index l.values))) ≡ list_any (passes l.asked) (flat_map terms_of_value (scalars_view l.values))
