-- Texts that are read: those that are UTF-8, and those that aren't.
use Rattle.std.proofs.Common.{◌≡◌, ℕ, Bool, true, false, List, Result, Err, refl}
use Rattle.std.specs.Str.{IsUtf8, is_utf8}
use Rattle.std.proofs.lemmas.Str.{IsUtf8-from_is_utf8, is_utf8-from_IsUtf8}
use Rattle.doc.specs.Fault as doc
use Rattle.op.specs.FormatFault.{malformed}
use Rattle.op.specs.Reading.{or_malformed, text_or}

pub utf8_text : (bytes : List ℕ) (r : Result (List ℕ) doc.Fault) → IsUtf8 bytes → text_or (is_utf8 bytes) r ≡ or_malformed r
utf8_text bytes r h = rw (is_utf8-from_IsUtf8 bytes h) refl

refused_at : (b : Bool) (bytes : List ℕ) (r : Result (List ℕ) doc.Fault) → is_utf8 bytes ≡ b → (IsUtf8 bytes → ⊥) → text_or b r ≡ Err malformed
refused_at true bytes r e h = absurd (h (IsUtf8-from_is_utf8 bytes e))
refused_at false bytes r e h = refl

pub other_text : (bytes : List ℕ) (r : Result (List ℕ) doc.Fault) → (IsUtf8 bytes → ⊥) → text_or (is_utf8 bytes) r ≡ Err malformed
other_text bytes r h = refused_at (is_utf8 bytes) bytes r refl h
