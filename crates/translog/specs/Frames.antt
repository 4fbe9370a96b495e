-- A log is a header of four bytes and then frames. A frame is a length (four bytes, little-endian) and that many bytes, its content.
use Rattle.std.specs.Prelude.{◌≡◌, ℕ, zero, suc, ◌<◌, ◌^◌, Bool, false, List, [], ◌∷◌, ◌++◌, length, take, drop, Option, Some, None, Result, Ok, Err, nat_lt, if◌then◌else◌}
use Rattle.std.specs.List.{flat_map, AllByRecursion}
use Rattle.std.specs.Int.{w32, to_le_bytes, from_le_bytes}
use Rattle.std.specs.Str.{bytes_eq}
use Rattle.translog.specs.declared.frames.Torn.{Torn}
use Rattle.translog.specs.declared.frames.Torn.TheVariants.{Nothing, End, Header}
use Rattle.translog.specs.Device.{count_after}
use Rattle.translog.specs.Fault.{Fault, bad_magic, too_large}

-- the frame of a content
abbrev pub framed : List ℕ → List ℕ
framed content = to_le_bytes w32 (length content) ++ content

-- a content has less than 2 ^ 32 bytes
abbrev pub frame_of : List ℕ → Result (List ℕ) Fault
frame_of content = if nat_lt 4294967295 (length content) then Err too_large else Ok (framed content)

-- a header and whole frames
abbrev pub log_of : List ℕ → List (List ℕ) → List ℕ
log_of header contents = header ++ flat_map framed contents

-- the content of the frame in front, and the bytes after it; none where the frame isn't whole
abbrev pub first_frame : List ℕ → Option (List ℕ × List ℕ)
first_frame bytes = if nat_lt (length bytes) 4 then None else (if nat_lt (length (drop 4 bytes)) (from_le_bytes w32 (take 4 bytes)) then None
    else Some (take (from_le_bytes w32 (take 4 bytes)) (drop 4 bytes), drop (from_le_bytes w32 (take 4 bytes)) (drop 4 bytes)))

abbrev pub and_then : Option (List ℕ × List ℕ) → (List ℕ → List (List ℕ)) → List (List ℕ)
and_then None contents = []
and_then (Some frame) contents = frame.0 ∷ contents frame.1

-- the contents of the whole frames in front, at most so many
abbrev pub contents_within : ℕ → List ℕ → List (List ℕ)
contents_within zero bytes = []
contents_within (suc n) bytes = and_then (first_frame bytes) (contents_within n)

-- the contents of the whole frames in front; there are no more than bytes
unfoldable pub contents_of : List ℕ → List (List ℕ)
contents_of bytes = contents_within (length bytes) bytes

-- the contents of a log: its first four bytes, as far as they are there, begin the header, and a last frame that isn't whole doesn't count
unfoldable pub contents_in : List ℕ → List ℕ → Result (List (List ℕ)) Fault
contents_in header bytes = if bytes_eq (take 4 bytes) (take (length bytes) header) then Ok (contents_of (drop 4 bytes)) else Err bad_magic

abbrev pub AreContents : List (List ℕ) → Type 0
AreContents contents = AllByRecursion (λ c. length c < 2 ^ 32) contents

-- the bytes are the header and the frames of these contents
pub record IsLog (header bytes : List ℕ) (contents : List (List ℕ)) : Type 0 where
  pub whole : bytes ≡ log_of header contents
  pub small : AreContents contents

-- what becomes of a log's bytes where nothing of it is lost: they stay; or the end after the whole frames is gone; or in place of a header that was
-- torn there is another front of it, or all of it
pub data LosesNothing (header old new : List ℕ) : Type 0 where
  stays : new ≡ old → LosesNothing header old new
  ends : (contents : List (List ℕ)) (rest : List ℕ) → IsLog header new contents → old ≡ new ++ rest → first_frame rest ≡ None → LosesNothing header old new
  begins : (m n : ℕ) → m < 4 → old ≡ take m header → new ≡ take n header → LosesNothing header old new

-- the bytes of a log without what is torn of them
abbrev pub mended : List ℕ → List ℕ → Torn → List ℕ
mended header bytes Nothing = bytes
mended header bytes (End whole) = take whole bytes
mended header bytes Header = header

-- the bytes are a log of these contents, but for what is torn
pub record IsTorn (header bytes : List ℕ) (contents : List (List ℕ)) (torn : Torn) : Type 0 where
  pub log : IsLog header (mended header bytes torn) contents
  pub left : LosesNothing header bytes (mended header bytes torn)
  pub short : torn ≡ Header → (m : ℕ) × (m < 4) × (bytes ≡ take m header)

-- a log that was opened: it has whole frames of these contents, nothing is lost, and no failure is counted
pub record IsOpened (header old new : List ℕ) (contents : List (List ℕ)) (before now : ℕ) : Type 0 where
  pub whole : IsLog header new contents
  pub left : LosesNothing header old new
  pub counts : now ≡ before

-- a log that wasn't opened: its bytes are as they were, or, where the device failed, nothing of it is lost; and that failure is counted
pub record IsUnopened (failed : Bool) (header old new : List ℕ) (before now : ℕ) : Type 0 where
  pub same : failed ≡ false → new ≡ old
  pub left : LosesNothing header old new
  pub counts : now ≡ count_after failed before

-- a log as it is seen: its header, and the device that holds it
pub record Log (D : Type 0) : Type 0 where
  pub header : List ℕ
  pub device : D
