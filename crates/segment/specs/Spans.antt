-- The span of a dictionary in which the keys within some bounds stand.
-- For proofs alone: no public contract rests on it.
use Rattle.std.specs.Prelude.{ℤ, Bool, Option, Some, None, String, string_bytes, if◌then◌else◌}
use Rattle.std.specs.declared.alloc.Global.{Global}
use Rattle.std.specs.Cmp.Lexicographic.{slice_cmp}
use Rattle.std.specs.Ordering.{is_lt, nat_cmp}
use Rattle.std.specs.declared.ops.Bound.{Bound}
use Rattle.std.specs.declared.ops.Bound.TheVariants.{Included, Unbounded}
use Rattle.doc.specs.declared.scalar.Scalar.{Scalar}
use Rattle.doc.specs.declared.scalar.Scalar.TheVariants.{Text, Long, Flag}

-- the number that a bound is, if it is one
abbrev pub number_in : Option Scalar → Option ℤ
number_in None = None
number_in (Some (Text s)) = None
number_in (Some (Long z)) = Some z
number_in (Some (Flag b)) = None

-- the text that a bound is, if it is one
abbrev pub text_in : Option Scalar → Option (String Global)
text_in None = None
text_in (Some (Text s)) = Some s
text_in (Some (Long z)) = None
text_in (Some (Flag b)) = None

-- whether a text stands before another
abbrev pub is_less_text : String Global → String Global → Bool
is_less_text s t = is_lt (slice_cmp nat_cmp (string_bytes s) (string_bytes t))

-- where a span begins and ends
abbrev pub span_start : {K : Type 0} → Option K → Bound K
span_start None = Unbounded
span_start (Some a) = Included a

abbrev pub span_end : {K : Type 0} → (K → K → Bool) → Option K → Option K → Bound K
span_end less None None = Unbounded
span_end less None (Some b) = Included b
span_end less (Some a) None = Unbounded
span_end less (Some a) (Some b) = Included (if less b a then a else b)
