-- The values that a set of the program has.
-- For proofs alone: no public contract rests on it.
use Rattle.std.specs.Prelude.{Bool, true, false}
use Rattle.std.specs.Ordering.{int_cmp}
use Rattle.std.specs.BTreeSet.{contains, contains_text}
use Rattle.doc.specs.Scalar.{Scalar, text, long, flag}
use Rattle.query.specs.declared.seen.Seen.{Seen}

abbrev pub has_seen : Seen → Scalar → Bool
has_seen s (text t) = contains_text s.texts t
has_seen s (long z) = contains int_cmp s.longs z
has_seen s (flag true) = s.truth
has_seen s (flag false) = s.untruth
