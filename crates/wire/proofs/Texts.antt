-- Bytes that are text.
use Rattle.std.proofs.Common.{◌≡◌, ℕ, Bool, true, false, List, Some, None, refl, if◌then◌else◌}
use Rattle.std.specs.Str.{IsUtf8, is_utf8}
use Rattle.std.proofs.lemmas.Str.{IsUtf8-from_is_utf8, is_utf8-from_IsUtf8}
use Rattle.wire.specs.Pieces.{text_of}

pub text_of-utf8 : (bytes : List ℕ) → IsUtf8 bytes → Some bytes ≡ text_of bytes
text_of-utf8 bytes utf8 = rw (is_utf8-from_IsUtf8 bytes utf8) refl

none : (b : Bool) (bytes : List ℕ) → is_utf8 bytes ≡ b → ¬ (IsUtf8 bytes) → None ≡ (if b then Some bytes else None)
none true bytes e not = absurd (not (IsUtf8-from_is_utf8 bytes e))
none false bytes e not = refl

pub text_of-other : (bytes : List ℕ) → ¬ (IsUtf8 bytes) → None ≡ text_of bytes
text_of-other bytes not = none (is_utf8 bytes) bytes refl not
