-- Records of one frame that are written, and the log with them.
use Rattle.std.proofs.Common.{◌≡◌, ◌≢◌, ◌⊎◌, append_assoc, map, if◌then◌else◌, Bool, true, false, cond, ltb, ℕ, ◌^◌, ◌<◌, ◌≤◌, List, [], ◌∷◌, ◌++◌, length, take, Result, Ok, Err, refl, sym, ap, subst, ◌∙◌, arith}
use Rattle.std.specs.Prelude.{◌||◌, IfErr, nat_lt}
use Rattle.std.specs.List.{flat_map, list_all, AllByRecursion}
use Rattle.std.specs.Str.{bytes_eq}
use Rattle.std.proofs.lemmas.Bool.{le-ltb, ltb-false}
use Rattle.std.proofs.lemmas.Bool.Decides.{nat_tests}
use Rattle.std.proofs.lemmas.Slice.Eq.{bytes_eq-Decides}
use Rattle.doc.specs.Outcome.{Fails, Gives}
use Rattle.doc.proofs.Fronts.{fault_ends}
use Rattle.op.specs.declared.record.Record.{Record}
use Rattle.op.specs.declared.record.Record.TheVariants.{Op as Kept, Resync, Recover}
use Rattle.op.specs.Records.{AreOfOneFrame}
use Rattle.op.specs.Rules.{is_group_count}
use Rattle.op.specs.FormatFault as op
use Rattle.op.specs.Format.{frame_spelling, frame_encoded, group_spelling, is_too_large, spelling, AreBytes}
use Rattle.op.proofs.Groups.{encoded_ok, encoded_large, frame_spelt, all_test}
use Rattle.op.specs.Reading.{records_of}
use Rattle.translog.specs.declared.fault.LogFault.{LogFault}
use Rattle.translog.specs.declared.fault.LogFault.TheVariants.{BadMagic, Damaged, Device, NoMemory, TooLarge}
use Rattle.translog.specs.Fault.{Fault, fault_of, is_device, too_large}
use Rattle.translog.specs.Frames.{framed, frame_of}
use Rattle.translog.specs.Kept.{kept, frames_of, frames_or, has_upgrade, IsPieceLog, IsTranslog}
use Rattle.translog.specs.Pieces.{form_of, header_of, has_groups, Piece, some_records, upgrade, content, records_in, piece_of, is_due, groups_behind, IsSpeltPiece}
use Rattle.translog.proofs.PiecesLaws.{not_upgrade, not_due, upgraded, group_due, no_records_more, records_more, behind_more, piece_more, form_of_log, frames_torn}

-- ---- the frames of records

-- the contents being spelt, one frame
pub one_frame : (groups : Bool) (rs : List Record) (spelt : List ℕ) → spelt ≡ frame_spelling rs → is_due groups (some_records rs) ≡ true → frame_of spelt ≡ frames_or groups rs
one_frame groups rs spelt is due = ap frame_of is ∙ rw due refl

pub two_frames : (groups : Bool) (rs : List Record) (spelt : List ℕ) → spelt ≡ frame_spelling rs → is_due groups (some_records rs) ≡ false
    → (cond (ltb 4294967295 (length spelt)) (Err too_large) (Ok (framed (5 ∷ []) ++ framed spelt))) ≡ frames_or groups rs
two_frames groups rs spelt is not_due = ap (λ l. cond (ltb 4294967295 (length l)) (Err too_large) (Ok (framed (5 ∷ []) ++ framed l))) is ∙ rw not_due refl

same_fault : {A : Type 0} (b : Bool) (x y : A) (d : Fault) → cond b (Err too_large) (Ok x) ≡ Err d → cond b (Err too_large) (Ok y) ≡ Err d
same_fault true x y d e = ap (λ (f : Fault). Err f) cc
same_fault false x y d e = absurd cc

pub none_spelt : (e : LogFault) (groups : Bool) (rs : List Record) → Fails fault_of e (frame_of (frame_spelling rs)) → Fails fault_of e (frames_or groups rs)
none_spelt e groups rs fails = fault_ends (fault_of e) (frame_of (frame_spelling rs)) (frames_or groups rs) (λ d h. same_fault (ltb 4294967295 (length (frame_spelling rs))) (framed (frame_spelling rs)) (frames_of groups rs) d h) fails

pub spelling_is : (rs : List Record) (spelt : List ℕ) → AreOfOneFrame rs → frame_encoded rs ≡ Ok spelt → spelt ≡ frame_spelling rs
spelling_is rs spelt rules e = encoded_ok rs spelt rules e

pub spelling_again : (rs : List Record) (spelt : List ℕ) → spelt ≡ frame_spelling rs → records_of spelt ≡ Ok rs → records_of (frame_spelling rs) ≡ Ok rs
spelling_again rs spelt is reads = ap records_of (sym is) ∙ reads

pub not_spelt : (rs : List Record) (d : op.Fault) → AreOfOneFrame rs → frame_encoded rs ≡ Err d → frame_of (frame_spelling rs) ≡ Err too_large
not_spelt rs d rules e = rw (encoded_large rs d rules e) refl

-- ---- one record alone may be too large

count_test : (n : ℕ) → 2 ≤ n → n ≤ 1024 → is_group_count n ≡ true
count_test n several few = grind (arith, nat_tests)

no_fault : (x : List ℕ) (d : op.Fault) → (let y : Result (List ℕ) op.Fault = Ok x in y) ≡ Err d → ⊥
no_fault x d e = absurd cc

pub large_alone : (rs : List Record) (d : op.Fault) → AreOfOneFrame rs → frame_encoded rs ≡ Err d → (r : Record) × (rs ≡ r ∷ []) × (is_too_large r ≡ true)
large_alone [] d h e = absurd h
large_alone (r ∷ []) d h e = (r, refl, encoded_large (r ∷ []) d h e)
large_alone (r ∷ s ∷ rs) d h e = absurd (no_fault (group_spelling (r ∷ s ∷ rs)) d (rw (count_test (length (r ∷ s ∷ rs)) h.several h.few, all_test (r ∷ s ∷ rs) h.each) at e))

pub small_content : (rs : List Record) (content : List ℕ) → AreBytes content → records_of content ≡ Ok rs → length content < 2 ^ 32
small_content rs content fits reads = (frame_spelt content rs fits reads).3

no_memory : (b : Bool) (x : List ℕ) (e : LogFault) → b ≡ false → Fails fault_of e (let r : Result (List ℕ) Fault = if b then Err too_large else Ok x in r) → is_device e ≡ false → e ≡ NoMemory
no_memory true x e few fails other = absurd cc
no_memory false x BadMagic few fails other = absurd cc
no_memory false x (Damaged offset) few fails other = absurd cc
no_memory false x Device few fails other = absurd cc
no_memory false x NoMemory few fails other = refl
no_memory false x TooLarge few fails other = absurd cc

-- what fits is refused for want of memory alone
pub memory_alone : (content frames : List ℕ) (r : Result (List ℕ) LogFault) → length content < 2 ^ 32 → Gives fault_of (λ f. f) r (let made : Result (List ℕ) Fault = if nat_lt 4294967295 (length content) then Err too_large else Ok frames in made)
    → IfErr r (λ e. is_device e ≡ false) → IfErr r (λ e. e ≡ NoMemory)
memory_alone content frames (Ok f) few gives other = tt
memory_alone content frames (Err e) few gives other = no_memory (nat_lt 4294967295 (length content)) frames e (le-ltb _ _ (omega arith)) gives other

-- ---- records that were written are a piece that is spelt

other_content : (rs : List Record) → AreOfOneFrame rs → bytes_eq (frame_spelling rs) (5 ∷ []) ≡ false
other_content [] h = absurd h
other_content (r ∷ []) h = not_upgrade r
other_content (r ∷ s ∷ rs) h = refl

fits : {A : Type 0} (b : Bool) (x y : A) → cond b (Err too_large) (Ok x) ≡ Ok y → b ≡ false
fits true x y e = absurd cc
fits false x y e = refl

pub piece_spelt : (groups : Bool) (rs : List Record) (frame : List ℕ) → AreOfOneFrame rs → records_of (frame_spelling rs) ≡ Ok rs → frames_or groups rs ≡ Ok frame → IsSpeltPiece (some_records rs)
unfolding piece_of
piece_spelt groups rs frame rules reads made =
    let few : length (frame_spelling rs) ≤ 4294967295 = ltb-false _ _ (fits (ltb 4294967295 (length (frame_spelling rs))) (frames_of groups rs) frame made) in
    record { rules = rules; small = omega arith; reads = rw (other_content rs rules, reads) refl }

-- ---- the log with the frames behind it

not_true : (b : Bool) → (b ≡ true → ⊥) → b ≡ false
not_true true h = absurd (h refl)
not_true false h = refl

other_tag : (a b c d : ℕ) (tag : ℕ) → tag ≢ 5 → (a ∷ b ∷ c ∷ d ∷ tag ∷ []) ≡ (1 ∷ 0 ∷ 0 ∷ 0 ∷ 5 ∷ []) → ⊥
other_tag a b c d tag h e = h cc

unmarked : (r : Record) → has_upgrade (framed (spelling r)) ≡ false
unmarked (Kept g o) = not_true _ (λ e. other_tag _ _ _ _ 1 (λ n. absurd cc) ((bytes_eq-Decides (take 5 (framed (spelling (Kept g o)))) (framed (content upgrade))).0 e))
unmarked (Resync term g os) = not_true _ (λ e. other_tag _ _ _ _ 2 (λ n. absurd cc) ((bytes_eq-Decides (take 5 (framed (spelling (Resync term g os)))) (framed (content upgrade))).0 e))
unmarked (Recover term os) = not_true _ (λ e. other_tag _ _ _ _ 3 (λ n. absurd cc) ((bytes_eq-Decides (take 5 (framed (spelling (Recover term os)))) (framed (content upgrade))).0 e))

several_not_due : (rs : List Record) → 2 ≤ length rs → (false || nat_lt (length rs) 2) ≡ true → ⊥
several_not_due rs le e = grind (arith, nat_tests)

one_due : (groups : Bool) (rs : List Record) → AreOfOneFrame rs → is_due groups (some_records rs) ≡ true → groups ≡ (groups || has_upgrade (framed (frame_spelling rs)))
one_due true rs h due = refl
one_due false [] h due = absurd h
one_due false (r ∷ []) h due = sym (unmarked r)
one_due false (r ∷ s ∷ rs) h due = absurd (several_not_due (r ∷ s ∷ rs) (omega arith) due)

same_form : (bytes tail : List ℕ) (ps : List Piece) → IsPieceLog (form_of bytes) bytes ps → form_of bytes ≡ form_of (bytes ++ tail)
same_form bytes tail ps log =
    sym (ap form_of (ap (λ l. l ++ tail) log.whole ∙ append_assoc (header_of (form_of bytes)) (flat_map framed (map content ps)) tail) ∙ form_of_log (form_of bytes) (flat_map framed (map content ps) ++ tail))

-- pieces that stand behind the header of some bytes
of_pieces : (old new : List ℕ) (qs : List Piece) (rs : List Record) (groups : Bool) → form_of old ≡ form_of new → IsPieceLog (form_of old) new qs → rs ≡ flat_map records_in qs → groups ≡ groups_behind (has_groups (form_of old)) qs
    → IsTranslog new rs groups
of_pieces old new qs rs groups told log records behind = record {
  pieces = qs;
  log = subst (λ f. IsPieceLog f new qs) told log;
  records = records;
  behind = behind ∙ ap (λ f. groups_behind (has_groups f) qs) told;
}

pub more_together : (bytes : List ℕ) (rs : List Record) (groups : Bool) (new : List Record) → IsTranslog bytes rs groups → IsSpeltPiece (some_records new)
    → IsTranslog (bytes ++ frames_of groups new) (rs ++ new) (groups || has_upgrade (frames_of groups new))
more_together bytes rs groups new log is = by_due (is_due groups (some_records new)) refl
  where
    by_due : (b : Bool) → is_due groups (some_records new) ≡ b
        → IsTranslog (bytes ++ (if b then framed (frame_spelling new) else framed (content upgrade) ++ framed (frame_spelling new))) (rs ++ new) (groups || has_upgrade (if b then framed (frame_spelling new) else framed (content upgrade) ++ framed (frame_spelling new)))
    by_due true due =
        let due_there : is_due (groups_behind (has_groups (form_of bytes)) log.pieces) (some_records new) ≡ true = subst (λ b. is_due b (some_records new) ≡ true) log.behind due in
        of_pieces bytes (bytes ++ framed (frame_spelling new)) (log.pieces ++ some_records new ∷ []) (rs ++ new) _ (same_form bytes (framed (frame_spelling new)) log.pieces log.log)
        (piece_more (form_of bytes) bytes log.pieces (some_records new) log.log is due_there)
        (ap (λ l. l ++ new) log.records ∙ sym (records_more log.pieces (some_records new)))
        (sym (one_due groups new is.rules due) ∙ log.behind ∙ sym (behind_more (has_groups (form_of bytes)) log.pieces (some_records new)))
    by_due false due =
        let none : groups ≡ false = not_due groups new due in
        let begun = upgraded (form_of bytes) bytes log.pieces log.log (sym log.behind ∙ none) in
        let ended = piece_more (form_of bytes) (bytes ++ framed (content upgrade)) (log.pieces ++ upgrade ∷ []) (some_records new) begun is (group_due (form_of bytes) log.pieces new) in
        let qs = (log.pieces ++ upgrade ∷ []) ++ some_records new ∷ [] in
        of_pieces bytes (bytes ++ (framed (content upgrade) ++ framed (frame_spelling new))) qs (rs ++ new) _ (same_form bytes (framed (content upgrade) ++ framed (frame_spelling new)) log.pieces log.log)
        (subst (λ l. IsPieceLog (form_of bytes) l qs) (append_assoc bytes (framed (content upgrade)) (framed (frame_spelling new))) ended)
        (ap (λ l. l ++ new) log.records ∙ sym (records_more (log.pieces ++ upgrade ∷ []) (some_records new) ∙ ap (λ (l : List Record). l ++ new) (no_records_more log.pieces)))
        (rw none refl ∙ sym (behind_more (has_groups (form_of bytes)) (log.pieces ++ upgrade ∷ []) (some_records new) ∙ behind_more (has_groups (form_of bytes)) log.pieces upgrade))

pub torn_more : (bytes : List ℕ) (rs : List Record) (groups : Bool) (new : List Record) (k : ℕ) → IsTranslog bytes rs groups → IsSpeltPiece (some_records new)
    → (kept (bytes ++ take k (frames_of groups new)) ≡ Ok rs) ⊎ (kept (bytes ++ take k (frames_of groups new)) ≡ Ok (rs ++ new))
torn_more bytes rs groups new k log is =
    let there = groups_behind (has_groups (form_of bytes)) log.pieces in
    subst (λ g. (kept (bytes ++ take k (frames_of g new)) ≡ Ok rs) ⊎ (kept (bytes ++ take k (frames_of g new)) ≡ Ok (rs ++ new))) (sym log.behind)
    (subst (λ (l : List Record). (kept (bytes ++ take k (frames_of there new)) ≡ Ok l) ⊎ (kept (bytes ++ take k (frames_of there new)) ≡ Ok (l ++ new))) (sym log.records)
    (frames_torn (form_of bytes) bytes log.pieces new k log.log is))
