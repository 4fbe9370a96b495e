-- The pieces that a translog is made of. Its header is `RSX1` or `RSX2`; each frame is a piece: one record, a group of records, or the upgrade, which has
-- none. A log that begins `RSX1` has groups only after an upgrade, and one that begins `RSX2` has no upgrade.
use Rattle.std.specs.Prelude.{◌≡◌, ℕ, ◌+◌, ◌<◌, ◌^◌, Bool, true, false, not, ◌||◌, nat_lt, List, [], ◌∷◌, ◌++◌, length, map, take, Result, Ok, Err, codes, if◌then◌else◌}
use Rattle.std.specs.List.{flat_map, AllByRecursion}
use Rattle.std.specs.Str.{bytes_eq}
use Rattle.doc.specs.Outcome.{◌>>=◌}
use Rattle.op.specs.declared.record.Record.{Record}
use Rattle.op.specs.Records.{AreOfOneFrame}
use Rattle.op.specs.FormatFault as op
use Rattle.op.specs.Format.{frame_spelling}
use Rattle.op.specs.Reading.{records_of}
use Rattle.translog.specs.Fault.{Fault, damaged}

-- the form of a log, the one that its header tells
pub data Form : Type 0 where
  first : Form
  second : Form

abbrev pub header_of : Form → List ℕ
header_of first = codes "RSX1"
header_of second = codes "RSX2"

-- whether groups may stand in a log of this form from its first frame on
abbrev pub has_groups : Form → Bool
has_groups first = false
has_groups second = true

-- the form of some bytes: the first where they begin with its header, else the second, also where less than a header is there
abbrev pub form_of : List ℕ → Form
form_of bytes = if bytes_eq (take 4 bytes) (header_of first) then first else second

-- the header of a log's own form
abbrev pub own_header : List ℕ → List ℕ
own_header bytes = header_of (form_of bytes)

-- what a frame is
pub data Piece : Type 0 where
  some_records : List Record → Piece
  upgrade : Piece

-- the content of a piece's frame
abbrev pub content : Piece → List ℕ
content (some_records rs) = frame_spelling rs
content upgrade = 5 ∷ []

abbrev pub records_in : Piece → List Record
records_in (some_records rs) = rs
records_in upgrade = []

-- the piece that a content is
unfoldable pub piece_of : List ℕ → Result Piece op.Fault
piece_of bytes = if bytes_eq bytes (5 ∷ []) then Ok upgrade else (records_of bytes >>= λ rs. Ok (some_records rs))

-- whether a piece may stand where groups may stand, or don't yet: a group where they may, an upgrade where they don't, and one record in either case
abbrev pub is_due : Bool → Piece → Bool
is_due groups upgrade = not groups
is_due groups (some_records rs) = groups || nat_lt (length rs) 2

-- whether groups may stand after a piece
abbrev pub groups_after : Bool → Piece → Bool
groups_after groups upgrade = true
groups_after groups (some_records rs) = groups

-- whether groups may stand after these pieces
abbrev pub groups_behind : Bool → List Piece → Bool
groups_behind groups [] = groups
groups_behind groups (p ∷ ps) = groups_behind (groups_after groups p) ps

-- a whole frame that is no piece, or one that may not stand there, is damaged
abbrev pub due_or_damaged : Bool → ℕ → Result Piece op.Fault → Result Piece Fault
due_or_damaged groups offset (Ok p) = if is_due groups p then Ok p else Err (damaged offset)
due_or_damaged groups offset (Err e) = Err (damaged offset)

-- the records of frames from an offset on, where groups may stand or don't yet
unfoldable pub piece_records : Bool → ℕ → List (List ℕ) → Result (List Record) Fault
piece_records groups offset [] = Ok []
piece_records groups offset (c ∷ cs) = do
  p ← due_or_damaged groups offset (piece_of c)
  rs ← piece_records (groups_after groups p) (offset + (4 + length c)) cs
  Ok (records_in p ++ rs)

-- each piece may stand after those before it
abbrev pub AreInOrder : Bool → List Piece → Type 0
AreInOrder groups [] = Unit {0}
AreInOrder groups (p ∷ ps) = (is_due groups p ≡ true) × AreInOrder (groups_after groups p) ps

-- the records of a piece keep the rules
abbrev pub HasRules : Piece → Type 0
HasRules (some_records rs) = AreOfOneFrame rs
HasRules upgrade = Unit {0}

-- a piece that keeps the rules, and that its content reads as
pub record IsSpeltPiece (p : Piece) : Type 0 where
  pub rules : HasRules p
  pub small : length (content p) < 2 ^ 32
  pub reads : piece_of (content p) ≡ Ok p

-- a content is a piece with these records, due where groups may stand or don't yet; and whether groups may stand after it
pub record IsPieceAt (groups : Bool) (bytes : List ℕ) (rs : List Record) (after : Bool) : Type 0 where
  pub piece : Piece
  pub reads : piece_of bytes ≡ Ok piece
  pub due : is_due groups piece ≡ true
  pub spelt : content piece ≡ bytes
  pub rules : HasRules piece
  pub records : rs ≡ records_in piece
  pub behind : after ≡ groups_after groups piece

-- the records of the piece that a content is stand after those that were there
pub record IsPieceAdded (groups : Bool) (bytes : List ℕ) (old new : List Record) (after : Bool) : Type 0 where
  pub records : List Record
  pub added : new ≡ old ++ records
  pub piece : IsPieceAt groups bytes records after

-- these contents are pieces with these records; and whether groups may stand after them
pub record ArePieces (groups : Bool) (contents : List (List ℕ)) (rs : List Record) (after : Bool) : Type 0 where
  pub pieces : List Piece
  pub spelt : map content pieces ≡ contents
  pub order : AreInOrder groups pieces
  pub each : AllByRecursion IsSpeltPiece pieces
  pub records : rs ≡ flat_map records_in pieces
  pub behind : after ≡ groups_behind groups pieces
