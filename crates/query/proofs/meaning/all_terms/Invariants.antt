use Rattle.std.proofs.Common.{◌≡◌, drop}
use Rattle.std.specs.List.{list_all}
use Rattle.doc.specs.ScalarView.{scalars_view}
use Rattle.analysis.specs.Terms.{has, terms_at}
use Rattle.query.proofs.meaning.all_terms.Given as goal

-- the values that are left decide
abbrev pub invariant-loop-value : goal.invariant-loop-value
invariant-loop-value l = list_all (has (terms_at l.mapping.fields l.doc.values l.name)) (scalars_view (drop l.value-index l.values)) ≡ list_all (has (terms_at l.mapping.fields l.doc.values l.name)) (scalars_view l.values)
