-- Which keys an object of a query may have, as it is handed on.
-- For proofs alone: no public contract rests on it.
use Rattle.std.specs.Prelude.{ℕ, Bool, false, List}
use Rattle.query.specs.declared.shape.Keys.{Keys}
use Rattle.query.specs.declared.shape.Keys.TheVariants.{MatchAll, Value, Field, Match, Range, Bool as Clauses}
use Rattle.query.specs.Shape.{is_value_key, is_field_key, is_match_key, is_range_key, is_bool_key}

abbrev pub is_key : Keys → List ℕ → Bool
is_key MatchAll k = false
is_key Value k = is_value_key k
is_key Field k = is_field_key k
is_key Match k = is_match_key k
is_key Range k = is_range_key k
is_key Clauses k = is_bool_key k
