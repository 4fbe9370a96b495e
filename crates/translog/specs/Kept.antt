-- The records that a translog keeps, and what is appended for more of them.
use Rattle.std.specs.Prelude.{◌≡◌, ℕ, ◌<◌, ◌^◌, Bool, List, ◌++◌, length, map, take, nat_lt, Result, Ok, Err, if◌then◌else◌}
use Rattle.std.specs.List.{flat_map, AllByRecursion}
use Rattle.std.specs.Str.{bytes_eq}
use Rattle.doc.specs.Outcome.{◌>>=◌}
use Rattle.op.specs.declared.record.Record.{Record}
use Rattle.op.specs.Records.{IsRecord}
use Rattle.op.specs.Format.{frame_spelling, spelling}
use Rattle.op.specs.Reading.{record_of}
use Rattle.translog.specs.Fault.{Fault, too_large}
use Rattle.translog.specs.declared.frames.Torn.{Torn}
use Rattle.translog.specs.Frames.{framed, log_of, contents_in, mended, IsTorn}
use Rattle.translog.specs.Pieces.{Form, first, form_of, header_of, own_header, has_groups, Piece, some_records, upgrade, content, records_in, is_due, groups_behind, piece_records, AreInOrder, IsSpeltPiece}

-- the records that opening gives, or why it gives none
unfoldable pub kept : List ℕ → Result (List Record) Fault
kept bytes = do
  contents ← contents_in (own_header bytes) bytes
  piece_records (has_groups (form_of bytes)) 4 contents

-- the bytes are the header of this form and the frames of these pieces
pub record IsPieceLog (form : Form) (bytes : List ℕ) (ps : List Piece) : Type 0 where
  pub whole : bytes ≡ log_of (header_of form) (map content ps)
  pub order : AreInOrder (has_groups form) ps
  pub each : AllByRecursion IsSpeltPiece ps

-- the bytes are a translog with these records; and whether groups may stand after them
pub record IsTranslog (bytes : List ℕ) (rs : List Record) (groups : Bool) : Type 0 where
  pub pieces : List Piece
  pub log : IsPieceLog (form_of bytes) bytes pieces
  pub records : rs ≡ flat_map records_in pieces
  pub behind : groups ≡ groups_behind (has_groups (form_of bytes)) pieces

-- the bytes are a translog with these records, but for what is torn; and whether groups may stand after them
pub record IsTornLog (bytes : List ℕ) (rs : List Record) (torn : Torn) (groups : Bool) : Type 0 where
  pub pieces : List Piece
  pub torn_at : IsTorn (own_header bytes) bytes (map content pieces) torn
  pub log : IsPieceLog (form_of bytes) (mended (own_header bytes) bytes torn) pieces
  pub records : rs ≡ flat_map records_in pieces
  pub behind : groups ≡ groups_behind (has_groups (form_of bytes)) pieces

-- a translog as it is seen: the device that holds it, and whether groups may stand after what it holds
pub record Pieced (D : Type 0) : Type 0 where
  pub device : D
  pub groups : Bool

-- what is appended for records that one frame has: that frame, and before a first group the upgrade's
abbrev pub frames_of : Bool → List Record → List ℕ
frames_of groups rs = if is_due groups (some_records rs) then framed (frame_spelling rs) else framed (content upgrade) ++ framed (frame_spelling rs)

-- that, or that the frame is too large, as one record's may be
abbrev pub frames_or : Bool → List Record → Result (List ℕ) Fault
frames_or groups rs = if nat_lt 4294967295 (length (frame_spelling rs)) then Err too_large else Ok (frames_of groups rs)

-- whether an upgrade's frame stands in front
abbrev pub has_upgrade : List ℕ → Bool
has_upgrade bytes = bytes_eq (take 5 bytes) (framed (content upgrade))

-- a record that keeps the rules, and that its spelling reads as
pub record IsSpelt (r : Record) : Type 0 where
  pub rules : IsRecord r
  pub small : length (spelling r) < 2 ^ 32
  pub reads : record_of (spelling r) ≡ Ok r

-- the bytes are the header `RSX1` and the frames of these records, as the first form was written
pub record IsFirstLog (bytes : List ℕ) (rs : List Record) : Type 0 where
  pub whole : bytes ≡ log_of (header_of first) (map spelling rs)
  pub each : AllByRecursion IsSpelt rs
