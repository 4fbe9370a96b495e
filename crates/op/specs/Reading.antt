-- Reading a record from left to right. A field is a value and the bytes after it.
use Rattle.std.specs.Prelude.{ℕ, ℤ, zero, suc, List, [], ◌∷◌, length, take, drop, Bool, false, ◌==◌, nat_lt, Result, Ok, Err, if◌then◌else◌}
use Rattle.std.specs.List.{list_all}
use Rattle.std.specs.Str.{is_utf8}
use Rattle.std.specs.Int.{Width, w16, w32, w64, byte_len, from_le_bytes, cast_signed}
use Rattle.doc.specs.Outcome.{◌>>=◌}
use Rattle.doc.specs.Fault as doc
use Rattle.doc.specs.Id.{id_of}
use Rattle.doc.specs.Source.{source_of}
use Rattle.op.specs.declared.operation.Op.{Op}
use Rattle.op.specs.declared.operation.Body.{Body}
use Rattle.op.specs.declared.operation.Body.TheVariants.{Index, Delete, NoOp}
use Rattle.op.specs.declared.record.Record.{Record}
use Rattle.op.specs.declared.record.Record.TheVariants.{Op as Kept, Resync, Recover}
use Rattle.op.specs.FormatFault.{Fault, malformed}
use Rattle.op.specs.Rules.{is_record, is_of_group, is_group_count}

abbrev pub number_at : Width → List ℕ → Result (ℕ × List ℕ) Fault
number_at w bytes = if nat_lt (length bytes) (byte_len w) then Err malformed else Ok (from_le_bytes w (take (byte_len w) bytes), drop (byte_len w) bytes)

unfoldable pub signed_at : List ℕ → Result (ℤ × List ℕ) Fault
signed_at bytes = do
  n ← number_at w64 bytes
  Ok (cast_signed w64 n.0, n.1)

-- a length, and that many bytes
unfoldable pub text_at : Width → List ℕ → Result (List ℕ × List ℕ) Fault
text_at w bytes = do
  n ← number_at w bytes
  if nat_lt (length n.1) n.0 then Err malformed else Ok (take n.0 n.1, drop n.0 n.1)

-- what isn't an id or a source is malformed
abbrev pub or_malformed : Result (List ℕ) doc.Fault → Result (List ℕ) Fault
or_malformed (Ok text) = Ok text
or_malformed (Err e) = Err malformed

abbrev pub text_or : Bool → Result (List ℕ) doc.Fault → Result (List ℕ) Fault
text_or utf8 text = if utf8 then or_malformed text else Err malformed

unfoldable pub id_at : List ℕ → Result (List ℕ × List ℕ) Fault
id_at bytes = do
  text ← text_at w16 bytes
  id ← text_or (is_utf8 text.0) (id_of text.0)
  Ok (id, text.1)

unfoldable pub source_at : List ℕ → Result (List ℕ × List ℕ) Fault
source_at bytes = do
  text ← text_at w32 bytes
  source ← text_or (is_utf8 text.0) (source_of text.0)
  Ok (source, text.1)

unfoldable pub body_at : List ℕ → Result (Body × List ℕ) Fault
body_at [] = Err malformed
body_at (zero ∷ rest) = Ok (NoOp, rest)
body_at (suc zero ∷ rest) = do
  id ← id_at rest
  source ← source_at id.1
  Ok (Index id.0 source.0, source.1)
body_at (suc (suc zero) ∷ rest) = do
  id ← id_at rest
  Ok (Delete id.0, id.1)
body_at (suc (suc (suc n)) ∷ rest) = Err malformed

unfoldable pub operation_at : List ℕ → Result (Op × List ℕ) Fault
operation_at bytes = do
  seq ← number_at w64 bytes
  term ← number_at w64 seq.1
  version ← number_at w64 term.1
  body ← body_at version.1
  Ok (record { seq = seq.0; term = term.0; version = version.0; body = body.0 }, body.1)

-- so many operations
unfoldable pub so_many_at : ℕ → List ℕ → Result (List Op × List ℕ) Fault
so_many_at zero bytes = Ok ([], bytes)
so_many_at (suc n) bytes = do
  first ← operation_at bytes
  others ← so_many_at n first.1
  Ok (first.0 ∷ others.0, others.1)

unfoldable pub operations_at : List ℕ → Result (List Op × List ℕ) Fault
operations_at bytes = do
  count ← number_at w32 bytes
  so_many_at count.0 count.1

-- the fields of each tag
unfoldable pub kept_at : List ℕ → Result (Record × List ℕ) Fault
kept_at bytes = do
  g ← signed_at bytes
  o ← operation_at g.1
  Ok (Kept g.0 o.0, o.1)

unfoldable pub resync_at : List ℕ → Result (Record × List ℕ) Fault
resync_at bytes = do
  term ← number_at w64 bytes
  g ← signed_at term.1
  os ← operations_at g.1
  Ok (Resync term.0 g.0 os.0, os.1)

unfoldable pub recover_at : List ℕ → Result (Record × List ℕ) Fault
recover_at bytes = do
  term ← number_at w64 bytes
  os ← operations_at term.1
  Ok (Recover term.0 os.0, os.1)

unfoldable pub record_at : List ℕ → Result (Record × List ℕ) Fault
record_at [] = Err malformed
record_at (zero ∷ rest) = Err malformed
record_at (suc zero ∷ rest) = kept_at rest
record_at (suc (suc zero) ∷ rest) = resync_at rest
record_at (suc (suc (suc zero)) ∷ rest) = recover_at rest
record_at (suc (suc (suc (suc n))) ∷ rest) = Err malformed

-- the content of a frame has at most 4,294,967,295 bytes
abbrev pub content_of : List ℕ → Result (List ℕ) Fault
content_of bytes = if nat_lt 4294967295 (length bytes) then Err malformed else Ok bytes

-- the record that some bytes are: they fit a frame, they are all read, and it keeps the rules
unfoldable pub record_of : List ℕ → Result Record Fault
record_of bytes = do
  content ← content_of bytes
  r ← record_at content
  if length r.1 == 0 then (if is_record r.0 then Ok r.0 else Err malformed) else Err malformed

-- the fields of so many operations' records
unfoldable pub so_many_kept_at : ℕ → List ℕ → Result (List Record × List ℕ) Fault
so_many_kept_at zero bytes = Ok ([], bytes)
so_many_kept_at (suc n) bytes = do
  first ← kept_at bytes
  others ← so_many_kept_at n first.1
  Ok (first.0 ∷ others.0, others.1)

-- a count of 2 to 1,024, and the fields of so many records
unfoldable pub group_at : List ℕ → Result (List Record × List ℕ) Fault
group_at bytes = do
  count ← number_at w32 bytes
  if is_group_count count.0 then so_many_kept_at count.0 count.1 else Err malformed

-- the group that some bytes are after its tag: they are all read, and each record keeps the rules
unfoldable pub group_of : List ℕ → Result (List Record) Fault
group_of bytes = do
  rs ← group_at bytes
  if length rs.1 == 0 then (if list_all is_of_group rs.0 then Ok rs.0 else Err malformed) else Err malformed

abbrev pub has_tag : ℕ → List ℕ → Bool
has_tag tag [] = false
has_tag tag (b ∷ rest) = b == tag

-- one record
unfoldable pub alone_of : List ℕ → Result (List Record) Fault
alone_of bytes = do
  r ← record_of bytes
  Ok (r ∷ [])

-- the records that the content of a frame is: a group, or one record
unfoldable pub records_of : List ℕ → Result (List Record) Fault
records_of bytes = if has_tag 4 bytes then group_of (drop 1 bytes) else alone_of bytes
