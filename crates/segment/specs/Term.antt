-- Terms where they stand, and their kinds.
use Rattle.std.specs.Prelude.{Bool, true, false}
use Rattle.doc.specs.Scalar.{Scalar, text, long, flag}
use Rattle.segment.specs.declared.term.Term.{Term}
use Rattle.segment.specs.declared.term.Term.TheVariants.{Text, Long, Flag}

-- the term, without where its text lies
abbrev pub term_view : Term → Scalar
term_view (Text s) = text s.now
term_view (Long z) = long z
term_view (Flag b) = flag b

-- whether a term is a text, a number or a truth value
abbrev pub is_text : Scalar → Bool
is_text (text s) = true
is_text (long z) = false
is_text (flag b) = false

abbrev pub is_long : Scalar → Bool
is_long (text s) = false
is_long (long z) = true
is_long (flag b) = false

abbrev pub is_truth : Scalar → Bool
is_truth (text s) = false
is_truth (long z) = false
is_truth (flag b) = true
