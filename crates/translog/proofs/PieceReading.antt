-- Pieces that are read one after the other, as a loop does.
use Rattle.std.proofs.Common.{◌≡◌, Bool, true, false, ℕ, ◌+◌, ◌^◌, ◌<◌, List, [], ◌∷◌, ◌++◌, length, take, Option, Result, Ok, Err, refl, sym, ap, subst, ◌∙◌, append_assoc}
use Rattle.std.specs.Prelude.{◌||◌, nat_lt}
use Rattle.std.specs.List.{flat_map}
use Rattle.std.specs.Str.{bytes_eq}
use Rattle.std.proofs.lemmas.List.{append-nil, map_push}
use Rattle.doc.specs.Outcome.{◌>>=◌, Fails}
use Rattle.doc.proofs.Fronts.{fault_ends}
use Rattle.op.specs.declared.record.Record.{Record}
use Rattle.op.specs.Records.{AreOfOneFrame, IsRecord}
use Rattle.op.specs.FormatFault as op
use Rattle.op.specs.Format.{frame_spelling, spelling}
use Rattle.op.specs.Reading.{alone_of, has_tag, record_of, records_of}
use Rattle.translog.specs.Fault.{Fault, damaged}
use Rattle.translog.specs.declared.frames.Torn.{Torn}
use Rattle.translog.specs.declared.frames.Torn.TheVariants.{Header}
use Rattle.translog.specs.Frames.{log_of, contents_in, mended, IsTorn, LosesNothing}
use Rattle.translog.specs.Kept.{kept, IsPieceLog, IsTornLog, IsTranslog}
use Rattle.translog.specs.Pieces.{Form, first, second, header_of, form_of, own_header, has_groups, some_records, upgrade, content, records_in, piece_of, is_due, groups_after, groups_behind, due_or_damaged, piece_records, IsSpeltPiece, IsPieceAdded, IsPieceAt, ArePieces}
use Rattle.translog.proofs.RecordsLaws.{with_front}
use Rattle.translog.proofs.PiecesLaws.{order_more, each_more, behind_more, records_more, form_of_short, form_stays}

-- ---- one content

pub upgrade_at : (groups : Bool) (bytes : List ℕ) → bytes ≡ 5 ∷ [] → groups ≡ false → IsPieceAt groups bytes [] true
unfolding piece_of
upgrade_at groups bytes is none =
    record { piece = upgrade; reads = ap piece_of is; due = rw none refl; spelt = sym is; rules = tt; records = refl; behind = refl }

pub upgrade_refused : (groups : Bool) (offset : ℕ) (bytes : List ℕ) → bytes ≡ 5 ∷ [] → groups ≡ true → due_or_damaged groups offset (piece_of bytes) ≡ Err (damaged offset)
unfolding piece_of
upgrade_refused groups offset bytes is some = ap (λ b. due_or_damaged groups offset (piece_of b)) is ∙ rw some refl

piece_records_of : (bytes : List ℕ) (read : Result (List Record) op.Fault) → bytes_eq bytes (5 ∷ []) ≡ false → records_of bytes ≡ read → piece_of bytes ≡ (read >>= λ rs. Ok (some_records rs))
unfolding piece_of
piece_records_of bytes read other e = rw (other, e) refl

pub records_at : (groups : Bool) (bytes : List ℕ) (rs : List Record) → bytes_eq bytes (5 ∷ []) ≡ false → records_of bytes ≡ Ok rs → frame_spelling rs ≡ bytes → AreOfOneFrame rs → (groups || nat_lt (length rs) 2) ≡ true
    → IsPieceAt groups bytes rs groups
records_at groups bytes rs other reads spelt rules due =
    record { piece = some_records rs; reads = piece_records_of bytes (Ok rs) other reads; due = due; spelt = spelt; rules = rules; records = refl; behind = refl }

pub group_refused : (groups : Bool) (offset : ℕ) (bytes : List ℕ) (rs : List Record) → bytes_eq bytes (5 ∷ []) ≡ false → records_of bytes ≡ Ok rs → (groups || nat_lt (length rs) 2) ≡ false
    → due_or_damaged groups offset (piece_of bytes) ≡ Err (damaged offset)
group_refused groups offset bytes rs other reads not_due = rw (piece_records_of bytes (Ok rs) other reads, not_due) refl

pub no_records_refused : (groups : Bool) (offset : ℕ) (bytes : List ℕ) (e : op.Fault) → bytes_eq bytes (5 ∷ []) ≡ false → records_of bytes ≡ Err e → due_or_damaged groups offset (piece_of bytes) ≡ Err (damaged offset)
no_records_refused groups offset bytes e other reads = ap (due_or_damaged groups offset) (piece_records_of bytes (Err e) other reads)

alone_read : (bytes : List ℕ) (read : Result Record op.Fault) → has_tag 4 bytes ≡ false → record_of bytes ≡ read → records_of bytes ≡ (read >>= λ r. Ok (r ∷ []))
unfolding records_of alone_of
alone_read bytes read alone e = rw (alone, e) refl

-- one record may stand anywhere
one_due : (groups : Bool) (r : Record) → (groups || nat_lt (length (r ∷ [])) 2) ≡ true
one_due true r = refl
one_due false r = refl

pub one_added : (groups : Bool) (bytes : List ℕ) (old : List Record) (r : Record) → bytes_eq bytes (5 ∷ []) ≡ false → has_tag 4 bytes ≡ false → record_of bytes ≡ Ok r → spelling r ≡ bytes → IsRecord r
    → IsPieceAdded groups bytes old (old ++ r ∷ []) groups
one_added groups bytes old r other alone reads spelt rules =
    record { records = r ∷ []; added = refl; piece = records_at groups bytes (r ∷ []) other (alone_read bytes (Ok r) alone reads) spelt rules (one_due groups r) }

pub no_record_refused : (groups : Bool) (offset : ℕ) (bytes : List ℕ) (e : op.Fault) → bytes_eq bytes (5 ∷ []) ≡ false → has_tag 4 bytes ≡ false → record_of bytes ≡ Err e → due_or_damaged groups offset (piece_of bytes) ≡ Err (damaged offset)
no_record_refused groups offset bytes e other alone reads = no_records_refused groups offset bytes e other (alone_read bytes (Err e) alone reads)

-- ---- one content after the other

regroup : (front rs : List Record) (read : Result (List Record) Fault) → with_front front (read >>= λ ss. Ok (rs ++ ss)) ≡ with_front (front ++ rs) read
regroup front rs (Ok ss) = ap (λ (l : List Record). Ok l) (sym (append_assoc front rs ss))
regroup front rs (Err f) = refl

pub goes_on : (front : List Record) (groups : Bool) (offset next : ℕ) (bytes : List ℕ) (contents : List (List ℕ)) (rs : List Record) (after : Bool) (total : Result (List Record) Fault) → IsPieceAt groups bytes rs after
    → next ≡ offset + (4 + length bytes) → with_front front (piece_records groups offset (bytes ∷ contents)) ≡ total → with_front (front ++ rs) (piece_records after next contents) ≡ total
unfolding piece_records
goes_on front groups offset next bytes contents rs after total is far so_far =
    let one : with_front front (piece_records groups offset (bytes ∷ contents)) ≡ with_front (front ++ records_in is.piece) (piece_records (groups_after groups is.piece) (offset + (4 + length bytes)) contents)
    = rw (is.reads, is.due) (regroup front (records_in is.piece) (piece_records (groups_after groups is.piece) (offset + (4 + length bytes)) contents)) in
    ap (λ l. with_front (front ++ l) (piece_records after next contents)) is.records ∙ ap (λ b. with_front (front ++ records_in is.piece) (piece_records b next contents)) is.behind
    ∙ ap (λ n. with_front (front ++ records_in is.piece) (piece_records (groups_after groups is.piece) n contents)) far ∙ sym one ∙ so_far

pub ends : {E : Type 0} (fault : E → Option Fault) (e : E) (front : List Record) (groups : Bool) (offset : ℕ) (bytes : List ℕ) (contents : List (List ℕ)) (total : Result (List Record) Fault) → Fails fault e (due_or_damaged groups offset (piece_of bytes))
    → with_front front (piece_records groups offset (bytes ∷ contents)) ≡ total → Fails fault e total
unfolding piece_records
ends fault e front groups offset bytes contents total fails so_far = fault_ends (fault e) (due_or_damaged groups offset (piece_of bytes)) total (λ d h. sym so_far ∙ rw h refl) fails

pub is_done : (front : List Record) (groups : Bool) (offset : ℕ) (total : Result (List Record) Fault) → with_front front (piece_records groups offset []) ≡ total → total ≡ Ok front
unfolding piece_records
is_done front groups offset total so_far = sym so_far ∙ ap (λ (l : List Record). Ok l) (append-nil front)

pub pieces_more : (groups now : Bool) (cs : List (List ℕ)) (c : List ℕ) (rs new : List Record) (after : Bool) → ArePieces groups cs rs now → IsPieceAt now c new after → length c < 2 ^ 32 → ArePieces groups (cs ++ c ∷ []) (rs ++ new) after
pieces_more groups now cs c rs new after are is small =
    let due : is_due (groups_behind groups are.pieces) is.piece ≡ true = subst (λ b. is_due b is.piece ≡ true) are.behind is.due in
    let spelt : IsSpeltPiece is.piece = record { rules = is.rules; small = subst (λ (l : List ℕ). length l < 2 ^ 32) (sym is.spelt) small; reads = ap piece_of is.spelt ∙ is.reads } in
    record {
      pieces = are.pieces ++ is.piece ∷ [];
      spelt = map_push content are.pieces is.piece ∙ ap (λ l. l ++ content is.piece ∷ []) are.spelt ∙ ap (λ l. cs ++ l ∷ []) is.spelt;
      order = order_more groups are.pieces is.piece are.order due;
      each = each_more are.pieces is.piece are.each spelt;
      records = ap (λ l. l ++ new) are.records ∙ ap (λ l. flat_map records_in are.pieces ++ l) is.records ∙ sym (records_more are.pieces is.piece);
      behind = is.behind ∙ ap (λ b. groups_after b is.piece) are.behind ∙ sym (behind_more groups are.pieces is.piece);
    }

-- ---- what a device holds

pub torn_log_of : (bytes : List ℕ) (cs : List (List ℕ)) (rs : List Record) (torn : Torn) (groups : Bool) → IsTorn (own_header bytes) bytes cs torn → ArePieces (has_groups (form_of bytes)) cs rs groups → IsTornLog bytes rs torn groups
torn_log_of bytes cs rs torn groups at are = record {
  pieces = are.pieces;
  torn_at = subst (λ l. IsTorn (own_header bytes) bytes l torn) (sym are.spelt) at;
  log = record { whole = at.log.whole ∙ ap (log_of (own_header bytes)) (sym are.spelt); order = are.order; each = are.each };
  records = are.records;
  behind = are.behind;
}

pub kept_of : (bytes : List ℕ) (cs : List (List ℕ)) → contents_in (own_header bytes) bytes ≡ Ok cs → kept bytes ≡ piece_records (has_groups (form_of bytes)) 4 cs
unfolding kept
kept_of bytes cs e = rw e refl

kept_none : (bytes : List ℕ) (d : Fault) → contents_in (own_header bytes) bytes ≡ Err d → kept bytes ≡ Err d
unfolding kept
kept_none bytes d e = rw e refl

pub fails_kept : {E : Type 0} (fault : E → Option Fault) (e : E) (h bytes : List ℕ) → h ≡ own_header bytes → Fails fault e (contents_in h bytes) → Fails fault e (kept bytes)
fails_kept fault e h bytes named fails =
    fault_ends (fault e) (contents_in (own_header bytes) bytes) (kept bytes) (λ d f. kept_none bytes d f) (subst (λ x. Fails fault e (contents_in x bytes)) named fails)

-- a header is torn in the second form alone
pub torn_second : (bytes : List ℕ) (m : ℕ) → m < 4 → bytes ≡ take m (own_header bytes) → form_of bytes ≡ second
torn_second bytes m lt is = short (form_of bytes) refl
  where
    short : (form : Form) → form_of bytes ≡ form → form_of bytes ≡ second
    short first told = ap form_of (is ∙ ap (λ f. take m (header_of f)) told) ∙ form_of_short m lt
    short second told = told

pub mended_log : (old new : List ℕ) (rs : List Record) (torn : Torn) (groups : Bool) → IsTornLog old rs torn groups → new ≡ mended (own_header old) old torn → IsTranslog new rs groups
mended_log old new rs torn groups log is =
    let whole : IsPieceLog (form_of old) new log.pieces = subst (λ (x : List ℕ). IsPieceLog (form_of old) x log.pieces) (sym is) log.log in
    let left : LosesNothing (own_header old) old new = subst (λ (x : List ℕ). LosesNothing (own_header old) old x) (sym is) log.torn_at.left in
    let told : form_of old ≡ form_of new = sym (form_stays (form_of old) old new refl left) in
    record {
      pieces = log.pieces;
      log = subst (λ f. IsPieceLog f new log.pieces) told whole;
      records = log.records;
      behind = log.behind ∙ ap (λ f. groups_behind (has_groups f) log.pieces) told;
    }

pub found_kept : (h bytes : List ℕ) (cs : List (List ℕ)) (groups : Bool) → h ≡ own_header bytes → contents_in h bytes ≡ Ok cs → groups ≡ has_groups (form_of bytes) → kept bytes ≡ piece_records groups 4 cs
found_kept h bytes cs groups named found told = kept_of bytes cs (subst (λ x. contents_in x bytes ≡ Ok cs) named found) ∙ ap (λ g. piece_records g 4 cs) (sym told)

-- a torn header is a front of that of the second form, which is its own
pub torn_front : (bytes : List ℕ) (cs : List (List ℕ)) (torn : Torn) → IsTorn (own_header bytes) bytes cs torn → torn ≡ Header → own_header bytes ≡ header_of second
torn_front bytes cs torn at is = let s = at.short is in ap header_of (torn_second bytes s.0 s.1 s.2)

pub torn_header_front : (bytes : List ℕ) (cs : List (List ℕ)) (torn : Torn) → IsTorn (own_header bytes) bytes cs torn → torn ≡ Header → (m : ℕ) × (m < 4) × (bytes ≡ take m (header_of second))
torn_header_front bytes cs torn at is = let s = at.short is in (s.0, s.1, s.2 ∙ ap (take s.0) (torn_front bytes cs torn at is))

pub torn_mended : (bytes : List ℕ) (cs : List (List ℕ)) (torn : Torn) → IsTorn (own_header bytes) bytes cs torn → torn ≡ Header → header_of second ≡ mended (own_header bytes) bytes torn
torn_mended bytes cs torn at is = sym (torn_front bytes cs torn at is) ∙ sym (ap (mended (own_header bytes) bytes) is)

pub reopened : (old mid new : List ℕ) (rs : List Record) (torn : Torn) (groups after : Bool) → mid ≡ old → IsTornLog old rs torn groups → new ≡ mended (own_header mid) mid torn → after ≡ groups → IsTranslog new rs after
reopened old mid new rs torn groups after held log made same =
    subst (λ b. IsTranslog new rs b) (sym same) (mended_log old new rs torn groups log (made ∙ ap (λ l. mended (own_header l) l torn) held))
