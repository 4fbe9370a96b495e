-- Values, each once.
use Rattle.std.specs.Prelude.{List, [], ◌∷◌, ◌++◌, if◌then◌else◌}
use Rattle.doc.specs.Scalar.{Scalar}
use Rattle.analysis.specs.Terms.{has}

-- one more value, unless it is among them
abbrev pub with_value : List Scalar → Scalar → List Scalar
with_value found v = if has found v then found else found ++ v ∷ []

abbrev pub distinct_after : List Scalar → List Scalar → List Scalar
distinct_after found [] = found
distinct_after found (v ∷ vs) = distinct_after (with_value found v) vs

-- the values in their order, each once
abbrev pub distinct : List Scalar → List Scalar
distinct vs = distinct_after [] vs
