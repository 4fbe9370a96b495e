-- What a query is, variant by variant.
use Rattle.std.proofs.Common.{◌≡◌, ◌∙◌, ap, sym, map, String, Vec, Global, string_bytes, ℕ}
use Rattle.doc.specs.declared.scalar.Scalar.{Scalar}
use Rattle.doc.specs.ScalarView.{scalar_view, scalars_view}
use Rattle.query.specs.declared.query.Query.{Query, fold-roll-Query}
use Rattle.query.specs.declared.query.Query.TheVariants as V
use Rattle.query.specs.declared.query.Query.TheOpen.{Query-F}
use Rattle.query.specs.Query as spec
use Rattle.query.specs.Query.{queries_of}
use Rattle.query.specs.View.{query_view, view_step}
use Rattle.analysis.specs.BoundsView.{bounds_view}
use Rattle.analysis.specs.declared.bounds.Bounds.{Bounds}
use Rattle.query.specs.declared.query.Operator.{Operator}

pub view-all : query_view V.MatchAll ≡ spec.match_all
view-all = ap query_view (sym V.rolls-MatchAll) ∙ fold-roll-Query spec.Query view_step Query-F.MatchAll

pub view-nothing : query_view V.Nothing ≡ spec.nothing
view-nothing = ap query_view (sym V.rolls-Nothing) ∙ fold-roll-Query spec.Query view_step Query-F.Nothing

pub view-exists : (field : String Global) → query_view (V.Exists field) ≡ spec.exists (string_bytes field)
view-exists field = ap query_view (sym (V.rolls-Exists field)) ∙ fold-roll-Query spec.Query view_step (Query-F.Exists field)

pub view-term : (field : String Global) (v : Scalar) → query_view (V.Term field v) ≡ spec.term (string_bytes field) (scalar_view v)
view-term field v = ap query_view (sym (V.rolls-Term field v)) ∙ fold-roll-Query spec.Query view_step (Query-F.Term field v)

pub view-bool : (f mu mn sh : Vec Query Global) (n : ℕ) → query_view (V.Bool f mu mn sh n) ≡ spec.bool (queries_of (map query_view f.items)) (queries_of (map query_view mu.items)) (queries_of (map query_view mn.items)) (queries_of (map query_view sh.items)) n
view-bool f mu mn sh n = ap query_view (sym (V.rolls-Bool f mu mn sh n)) ∙ fold-roll-Query spec.Query view_step (Query-F.Bool f mu mn sh n)

pub view-terms : (field : String Global) (vs : Vec Scalar Global) → query_view (V.Terms field vs) ≡ spec.terms (string_bytes field) (scalars_view vs.items)
view-terms field vs = ap query_view (sym (V.rolls-Terms field vs)) ∙ fold-roll-Query spec.Query view_step (Query-F.Terms field vs)

pub view-match : (field : String Global) (o : Operator) (vs : Vec Scalar Global) → query_view (V.Match field o vs) ≡ spec.match_tokens (string_bytes field) o (scalars_view vs.items)
view-match field o vs = ap query_view (sym (V.rolls-Match field o vs)) ∙ fold-roll-Query spec.Query view_step (Query-F.Match field o vs)

pub view-prefix : (field text : String Global) → query_view (V.Prefix field text) ≡ spec.prefix (string_bytes field) (string_bytes text)
view-prefix field text = ap query_view (sym (V.rolls-Prefix field text)) ∙ fold-roll-Query spec.Query view_step (Query-F.Prefix field text)

pub view-range : (field : String Global) (b : Bounds) → query_view (V.Range field b) ≡ spec.range (string_bytes field) (bounds_view b)
view-range field b = ap query_view (sym (V.rolls-Range field b)) ∙ fold-roll-Query spec.Query view_step (Query-F.Range field b)
