-- What a translog keeps, and what stays of it.
use Rattle.std.proofs.Common.{◌≡◌, refl, sym, ap, subst, ◌∙◌, ℕ, ◌+◌, Bool, true, false, List, [], ◌∷◌, ◌++◌, length, map, Result, Ok, Err, if◌then◌else◌}
use Rattle.std.specs.List.{flat_map, All, AllByRecursion}
use Rattle.std.proofs.lemmas.List.Elements.{All-from_recursion}
use Rattle.doc.specs.Outcome.{◌>>=◌}
use Rattle.op.specs.declared.record.Record.{Record}
use Rattle.op.specs.declared.record.Record.TheVariants.{Op as Kept, Resync, Recover}
use Rattle.op.specs.FormatFault as op
use Rattle.op.specs.Records.{AreOfOneFrame, IsOfGroup, IsRecord}
use Rattle.op.specs.Format.{spelling}
use Rattle.op.proofs.Groups.{alone_read}
use Rattle.translog.specs.Fault.{Fault, bad_magic, damaged, too_large}
use Rattle.translog.specs.declared.frames.Torn.{Torn}
use Rattle.translog.specs.Frames.{framed, log_of, contents_in, mended, IsLog, LosesNothing}
use Rattle.translog.specs.Kept.{kept, IsFirstLog, IsPieceLog, IsSpelt, IsTornLog, IsTranslog}
use Rattle.translog.specs.Pieces.{first, header_of, form_of, own_header, has_groups, Piece, some_records, upgrade, content, records_in, piece_of, is_due, groups_after, groups_behind, due_or_damaged, piece_records, AreInOrder, HasRules, IsSpeltPiece}
use Rattle.translog.proofs.FramesLaws.{contents_stay, whole_stays}
use Rattle.translog.proofs.PiecesLaws.{form_of_log, form_stays, four, not_upgrade, small_pieces, whole_pieces}
use Rattle.translog.proofs.PieceReading.{mended_log}

-- ---- what a translog keeps

pub whole_kept : (bytes : List ℕ) (rs : List Record) (groups : Bool) → IsTranslog bytes rs groups → kept bytes ≡ Ok rs
whole_kept bytes rs groups log = whole_pieces (form_of bytes) bytes log.pieces log.log ∙ ap (λ (l : List Record). Ok l) (sym log.records)

-- ---- opening finds no frame too large

bad_or_found : (b : Bool) (cs : List (List ℕ)) → (let r : Result (List (List ℕ)) Fault = if b then Ok cs else Err bad_magic in r) ≡ Err too_large → ⊥
bad_or_found true cs e = absurd cc
bad_or_found false cs e = absurd cc

contents_not_large : (header bytes : List ℕ) → contents_in header bytes ≡ Err too_large → ⊥
unfolding contents_in
contents_not_large header bytes e = bad_or_found _ _ e

due_not_large : (b : Bool) (p : Piece) (offset : ℕ) → (let r : Result Piece Fault = if b then Ok p else Err (damaged offset) in r) ≡ Err too_large → ⊥
due_not_large true p offset e = absurd cc
due_not_large false p offset e = absurd cc

piece_not_large : (groups : Bool) (offset : ℕ) (read : Result Piece op.Fault) → due_or_damaged groups offset read ≡ Err too_large → ⊥
piece_not_large groups offset (Ok p) e = due_not_large (is_due groups p) p offset e
piece_not_large groups offset (Err d) e = absurd cc

joined_not_large : (rs : List Record) (rest : Result (List Record) Fault) → (rest ≡ Err too_large → ⊥) → (rest >>= λ ss. Ok (rs ++ ss)) ≡ Err too_large → ⊥
joined_not_large rs (Ok ss) h e = absurd cc
joined_not_large rs (Err f) h e = h e

step_not_large : (found : Result Piece Fault) (rest : Piece → Result (List Record) Fault) → (found ≡ Err too_large → ⊥) → ((p : Piece) → rest p ≡ Err too_large → ⊥) → (found >>= λ p. rest p >>= λ ss. Ok (records_in p ++ ss)) ≡ Err too_large → ⊥
step_not_large (Ok p) rest h more e = joined_not_large (records_in p) (rest p) (more p) e
step_not_large (Err f) rest h more e = h (ap (λ (x : Fault). Err x) cc)

records_not_large : (groups : Bool) (offset : ℕ) (cs : List (List ℕ)) → piece_records groups offset cs ≡ Err too_large → ⊥
unfolding piece_records
records_not_large groups offset [] e = absurd cc
records_not_large groups offset (c ∷ cs) e =
    step_not_large (due_or_damaged groups offset (piece_of c)) (λ p. piece_records (groups_after groups p) (offset + (4 + length c)) cs) (piece_not_large groups offset (piece_of c)) (λ p. records_not_large (groups_after groups p) (offset + (4 + length c)) cs) e

from_contents : (groups : Bool) (found : Result (List (List ℕ)) Fault) → (found ≡ Err too_large → ⊥) → (found >>= λ cs. piece_records groups 4 cs) ≡ Err too_large → ⊥
from_contents groups (Ok cs) h e = records_not_large groups 4 cs e
from_contents groups (Err f) h e = h (ap (λ (x : Fault). Err x) cc)

pub kept_not_large : (bytes : List ℕ) → kept bytes ≡ Err too_large → ⊥
unfolding kept
kept_not_large bytes e = from_contents (has_groups (form_of bytes)) (contents_in (own_header bytes) bytes) (contents_not_large (own_header bytes) bytes) e

-- ---- the records keep the rules

of_group : (r : Record) → IsOfGroup r → IsRecord r
of_group (Kept g o) is = is
of_group (Resync term g os) is = absurd is
of_group (Recover term os) is = absurd is

pub each_of_group : (rs : List Record) → AllByRecursion IsOfGroup rs → AllByRecursion IsRecord rs
each_of_group [] each = tt
each_of_group (r ∷ rs) each = (of_group r each.0, each_of_group rs each.1)

frame_rules : (rs : List Record) → AreOfOneFrame rs → AllByRecursion IsRecord rs
frame_rules [] h = tt
frame_rules (r ∷ []) h = (h, tt)
frame_rules (r ∷ s ∷ rs) h = each_of_group (r ∷ s ∷ rs) h.each

piece_rules : (p : Piece) → HasRules p → AllByRecursion IsRecord (records_in p)
piece_rules (some_records rs) h = frame_rules rs h
piece_rules upgrade h = tt

both : (rs ss : List Record) → AllByRecursion IsRecord rs → AllByRecursion IsRecord ss → AllByRecursion IsRecord (rs ++ ss)
both [] ss one other = other
both (r ∷ rs) ss one other = (one.0, both rs ss one.1 other)

pub pieces_rules : (ps : List Piece) → AllByRecursion IsSpeltPiece ps → AllByRecursion IsRecord (flat_map records_in ps)
pieces_rules [] each = tt
pieces_rules (p ∷ ps) each = both (records_in p) (flat_map records_in ps) (piece_rules p each.0.rules) (pieces_rules ps each.1)

pub torn_rules : (bytes : List ℕ) (rs : List Record) (torn : Torn) (groups : Bool) → IsTornLog bytes rs torn groups → All IsRecord rs
torn_rules bytes rs torn groups log = All-from_recursion IsRecord rs (subst (λ (l : List Record). AllByRecursion IsRecord l) (sym log.records) (pieces_rules log.pieces log.log.each))

-- ---- what stays where nothing is lost

pub kept_stays : (old new : List ℕ) → LosesNothing (own_header old) old new → kept new ≡ kept old
unfolding kept
kept_stays old new left =
    let told : form_of new ≡ form_of old = form_stays (form_of old) old new refl left in
    let same : contents_in (header_of (form_of old)) new ≡ contents_in (header_of (form_of old)) old = contents_stay (header_of (form_of old)) old new (four (form_of old)) left in
    rw (told, same) refl

-- a translog is a log of the contents of its pieces
pub log_of_translog : (bytes : List ℕ) (rs : List Record) (groups : Bool) (log : IsTranslog bytes rs groups) → IsLog (own_header bytes) bytes (map content log.pieces)
log_of_translog bytes rs groups log = record { whole = log.log.whole; small = small_pieces log.pieces log.log.each }

pub translog_stays : (old new : List ℕ) (rs : List Record) (groups : Bool) → IsTranslog old rs groups → LosesNothing (own_header old) old new → new ≡ old
translog_stays old new rs groups log left = whole_stays (own_header old) old new (map content log.pieces) (four (form_of old)) (log_of_translog old rs groups log) left

-- what is left of a log that was read and mended
pub left_by : (old mid new : List ℕ) (rs : List Record) (torn : Torn) (groups : Bool) → mid ≡ old → IsTornLog old rs torn groups → new ≡ mended (own_header mid) mid torn → LosesNothing (own_header old) old new
left_by old mid new rs torn groups held log made =
    subst (λ (x : List ℕ). LosesNothing (own_header old) old x) (sym (made ∙ ap (λ l. mended (own_header l) l torn) held)) log.torn_at.left

-- a whole translog that was read is one, and nothing of it was torn
pub read_whole : (bytes : List ℕ) (rs found : List Record) (groups after : Bool) (torn : Torn) → IsTranslog bytes rs groups → IsTornLog bytes found torn after → IsTranslog bytes found after
read_whole bytes rs found groups after torn log read =
    let whole = mended_log bytes (mended (own_header bytes) bytes torn) found torn after read refl in
    subst (λ (x : List ℕ). IsTranslog x found after) (translog_stays bytes (mended (own_header bytes) bytes torn) rs groups log read.torn_at.left) whole

-- ---- the first form, one record a frame

abbrev alone : Record → Piece
alone r = some_records (r ∷ [])

alone_is_spelt : (r : Record) → IsSpelt r → IsSpeltPiece (alone r)
unfolding piece_of
alone_is_spelt r is = record { rules = is.rules; small = is.small; reads = rw (not_upgrade r, alone_read (spelling r) r is.reads) refl }

all_alone : (rs : List Record) → AllByRecursion IsSpelt rs → AllByRecursion IsSpeltPiece (map alone rs)
all_alone [] each = tt
all_alone (r ∷ rs) each = (alone_is_spelt r each.0, all_alone rs each.1)

order_alone : (rs : List Record) → AreInOrder false (map alone rs)
order_alone [] = tt
order_alone (r ∷ rs) = (refl, order_alone rs)

contents_alone : (rs : List Record) → map content (map alone rs) ≡ map spelling rs
contents_alone [] = refl
contents_alone (r ∷ rs) = ap (λ l. spelling r ∷ l) (contents_alone rs)

records_alone : (rs : List Record) → flat_map records_in (map alone rs) ≡ rs
records_alone [] = refl
records_alone (r ∷ rs) = ap (λ l. r ∷ l) (records_alone rs)

behind_alone : (rs : List Record) → groups_behind false (map alone rs) ≡ false
behind_alone [] = refl
behind_alone (r ∷ rs) = behind_alone rs

pub first_log_is : (bytes : List ℕ) (rs : List Record) → IsFirstLog bytes rs → IsTranslog bytes rs false
first_log_is bytes rs log =
    let told : form_of bytes ≡ first = ap form_of log.whole ∙ form_of_log first (flat_map framed (map spelling rs)) in
    let pieces : IsPieceLog first bytes (map alone rs) = record { whole = log.whole ∙ ap (log_of (header_of first)) (sym (contents_alone rs)); order = order_alone rs; each = all_alone rs log.each } in
    record {
      pieces = map alone rs;
      log = subst (λ f. IsPieceLog f bytes (map alone rs)) (sym told) pieces;
      records = sym (records_alone rs);
      behind = sym (ap (λ f. groups_behind (has_groups f) (map alone rs)) told ∙ behind_alone rs);
    }
