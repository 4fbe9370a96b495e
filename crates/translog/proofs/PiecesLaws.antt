-- What a log of pieces keeps, with one piece more, and with a front of one.
use Rattle.std.proofs.Common.{◌≡◌, Bool, true, false, ◌⊎◌, inl, inr, ℕ, suc, ◌+◌, ◌-◌, ◌<◌, List, [], ◌∷◌, ◌++◌, length, take, map, zero, None, Ok, refl, sym, ap, subst, ◌∙◌, append_assoc, arith, if◌then◌else◌}
use Rattle.std.specs.Str.{bytes_eq}
use Rattle.std.specs.List.{flat_map, AllByRecursion}
use Rattle.std.proofs.lemmas.List.{append-nil, map_push, take_all, take-append-le}
use Rattle.std.proofs.Math.Seq.{take-append-add}
use Rattle.std.proofs.lemmas.Bool.{cases_lt}
use Rattle.std.proofs.lemmas.Grind.{flat_map-append}
use Rattle.op.specs.declared.record.Record.{Record}
use Rattle.op.specs.declared.record.Record.TheVariants.{Op as Kept, Resync, Recover}
use Rattle.op.specs.Format.{frame_spelling, spelling}
use Rattle.translog.specs.Frames.{framed, log_of, first_frame, contents_in, AreContents, LosesNothing, stays, ends, begins}
use Rattle.translog.specs.Kept.{kept, IsPieceLog, frames_of}
use Rattle.translog.specs.Pieces.{Form, first, second, header_of, has_groups, form_of, Piece, some_records, upgrade, content, records_in, piece_of, is_due, groups_after, groups_behind, piece_records, AreInOrder, IsSpeltPiece}
use Rattle.translog.proofs.FramesLaws.{contents_in_log, torn_frame}

-- ---- whole pieces

pub spelt_pieces : (groups : Bool) (offset : ℕ) (ps : List Piece) → AreInOrder groups ps → AllByRecursion IsSpeltPiece ps → piece_records groups offset (map content ps) ≡ Ok (flat_map records_in ps)
unfolding piece_records
spelt_pieces groups offset [] order each = refl
spelt_pieces groups offset (p ∷ ps) order each = rw (each.0.reads, order.0, spelt_pieces (groups_after groups p) (offset + (4 + length (content p))) ps order.1 each.1) refl

pub small_pieces : (ps : List Piece) → AllByRecursion IsSpeltPiece ps → AreContents (map content ps)
small_pieces [] each = tt
small_pieces (p ∷ ps) each = (each.0.small, small_pieces ps each.1)

pub form_of_log : (form : Form) (tail : List ℕ) → form_of (header_of form ++ tail) ≡ form
form_of_log first tail = refl
form_of_log second tail = refl

pub four : (form : Form) → length (header_of form) ≡ 4
four first = refl
four second = refl

-- a log of pieces, and less than a frame behind it
pub torn_pieces : (form : Form) (bytes rest : List ℕ) (ps : List Piece) → IsPieceLog form bytes ps → first_frame rest ≡ None → kept (bytes ++ rest) ≡ Ok (flat_map records_in ps)
unfolding kept
torn_pieces form bytes rest ps log none =
    let cs = map content ps in
    let held : bytes ++ rest ≡ header_of form ++ (flat_map framed cs ++ rest) = ap (λ l. l ++ rest) log.whole ∙ append_assoc (header_of form) (flat_map framed cs) rest in
    let told : form_of (bytes ++ rest) ≡ form = ap form_of held ∙ form_of_log form (flat_map framed cs ++ rest) in
    let found : contents_in (header_of form) (bytes ++ rest) ≡ Ok cs = ap (λ l. contents_in (header_of form) (l ++ rest)) log.whole ∙ contents_in_log (header_of form) cs rest (four form) (small_pieces ps log.each) none in
    rw (told, found) (spelt_pieces (has_groups form) 4 ps log.order log.each)

pub whole_pieces : (form : Form) (bytes : List ℕ) (ps : List Piece) → IsPieceLog form bytes ps → kept bytes ≡ Ok (flat_map records_in ps)
whole_pieces form bytes ps log = ap kept (sym (append-nil bytes)) ∙ torn_pieces form bytes [] ps log refl

-- ---- one piece more

pub order_more : (groups : Bool) (ps : List Piece) (p : Piece) → AreInOrder groups ps → is_due (groups_behind groups ps) p ≡ true → AreInOrder groups (ps ++ p ∷ [])
order_more groups [] p order due = (due, tt)
order_more groups (q ∷ ps) p order due = (order.0, order_more (groups_after groups q) ps p order.1 due)

pub each_more : (ps : List Piece) (p : Piece) → AllByRecursion IsSpeltPiece ps → IsSpeltPiece p → AllByRecursion IsSpeltPiece (ps ++ p ∷ [])
each_more [] p each one = (one, tt)
each_more (q ∷ ps) p each one = (each.0, each_more ps p each.1 one)

pub behind_more : (groups : Bool) (ps : List Piece) (p : Piece) → groups_behind groups (ps ++ p ∷ []) ≡ groups_after (groups_behind groups ps) p
behind_more groups [] p = refl
behind_more groups (q ∷ ps) p = behind_more (groups_after groups q) ps p

pub records_more : (ps : List Piece) (p : Piece) → flat_map records_in (ps ++ p ∷ []) ≡ flat_map records_in ps ++ records_in p
records_more ps p = flat_map-append records_in ps (p ∷ []) ∙ ap (λ l. flat_map records_in ps ++ l) (append-nil (records_in p))

pub piece_more : (form : Form) (bytes : List ℕ) (ps : List Piece) (p : Piece) → IsPieceLog form bytes ps → IsSpeltPiece p → is_due (groups_behind (has_groups form) ps) p ≡ true
    → IsPieceLog form (bytes ++ framed (content p)) (ps ++ p ∷ [])
piece_more form bytes ps p log is due =
    let contents : map content (ps ++ p ∷ []) ≡ map content ps ++ content p ∷ [] = map_push content ps p in
    let frames : flat_map framed (map content ps ++ content p ∷ []) ≡ flat_map framed (map content ps) ++ framed (content p) = flat_map-append framed (map content ps) (content p ∷ []) ∙ ap (λ l. flat_map framed (map content ps) ++ l) (append-nil (framed (content p))) in
    record {
      whole = ap (λ l. l ++ framed (content p)) log.whole ∙ append_assoc (header_of form) (flat_map framed (map content ps)) (framed (content p)) ∙ ap (λ l. header_of form ++ l) (sym frames) ∙ ap (log_of (header_of form)) (sym contents);
      order = order_more (has_groups form) ps p log.order due;
      each = each_more ps p log.each is;
    }

-- ---- a front of a piece, and of an upgrade with a group

pub piece_torn : (form : Form) (bytes : List ℕ) (ps : List Piece) (p : Piece) (k : ℕ) → IsPieceLog form bytes ps → IsSpeltPiece p → is_due (groups_behind (has_groups form) ps) p ≡ true
    → (kept (bytes ++ take k (framed (content p))) ≡ Ok (flat_map records_in ps)) ⊎ (kept (bytes ++ take k (framed (content p))) ≡ Ok (flat_map records_in ps ++ records_in p))
piece_torn form bytes ps p k log is due =
    elim (cases_lt k (4 + length (content p))) [
      | inl lt ↦ inl (torn_pieces form bytes (take k (framed (content p))) ps log (torn_frame (content p) k is.small lt))
      | inr le ↦ inr (ap (λ l. kept (bytes ++ l)) (take_all k (framed (content p)) (omega arith)) ∙ whole_pieces form (bytes ++ framed (content p)) (ps ++ p ∷ []) (piece_more form bytes ps p log is due) ∙ ap (λ (l : List Record). Ok l) (records_more ps p))
    ]

pub upgrade_is_spelt : IsSpeltPiece upgrade
unfolding piece_of
upgrade_is_spelt = record { rules = tt; small = omega arith; reads = refl }

pub not_due : (groups : Bool) (rs : List Record) → is_due groups (some_records rs) ≡ false → groups ≡ false
not_due true rs e = absurd cc
not_due false rs e = refl

pub upgraded : (form : Form) (bytes : List ℕ) (ps : List Piece) → IsPieceLog form bytes ps → groups_behind (has_groups form) ps ≡ false → IsPieceLog form (bytes ++ framed (content upgrade)) (ps ++ upgrade ∷ [])
upgraded form bytes ps log none = piece_more form bytes ps upgrade log upgrade_is_spelt (rw none refl)

pub group_due : (form : Form) (ps : List Piece) (rs : List Record) → is_due (groups_behind (has_groups form) (ps ++ upgrade ∷ [])) (some_records rs) ≡ true
group_due form ps rs = subst (λ (b : Bool). is_due b (some_records rs) ≡ true) (sym (behind_more (has_groups form) ps upgrade)) refl

pub no_records_more : (ps : List Piece) → flat_map records_in (ps ++ upgrade ∷ []) ≡ flat_map records_in ps
no_records_more ps = records_more ps upgrade ∙ append-nil (flat_map records_in ps)

-- an upgrade and what is behind it
upgrade_and_group : (form : Form) (bytes : List ℕ) (ps : List Piece) (rs : List Record) (k : ℕ) → IsPieceLog form bytes ps → IsSpeltPiece (some_records rs) → groups_behind (has_groups form) ps ≡ false
    → (kept (bytes ++ take k (framed (content upgrade) ++ framed (frame_spelling rs))) ≡ Ok (flat_map records_in ps)) ⊎ (kept (bytes ++ take k (framed (content upgrade) ++ framed (frame_spelling rs))) ≡ Ok (flat_map records_in ps ++ rs))
upgrade_and_group form bytes ps rs k log is none =
    let mark = framed (content upgrade) in
    let group = framed (frame_spelling rs) in
    elim (cases_lt k 5) [
      | inl lt ↦ inl (ap (λ l. kept (bytes ++ l)) (take-append-le k mark group (omega arith)) ∙ torn_pieces form bytes (take k mark) ps log (torn_frame (content upgrade) k (omega arith) (omega arith)))
      | inr le ↦
          let same : k ≡ 5 + (k - 5) = omega arith in
          let parts : bytes ++ take k (mark ++ group) ≡ (bytes ++ mark) ++ take (k - 5) group = ap (λ n. bytes ++ take n (mark ++ group)) same ∙ ap (λ l. bytes ++ l) (take-append-add mark group (k - 5)) ∙ sym (append_assoc bytes mark (take (k - 5) group)) in
          let either = piece_torn form (bytes ++ mark) (ps ++ upgrade ∷ []) (some_records rs) (k - 5) (upgraded form bytes ps log none) is (group_due form ps rs) in
          elim either [
            | inl e ↦ inl (ap kept parts ∙ e ∙ ap (λ (l : List Record). Ok l) (no_records_more ps))
            | inr e ↦ inr (ap kept parts ∙ e ∙ ap (λ (l : List Record). Ok (l ++ rs)) (no_records_more ps))
          ]
    ]

pub frames_torn : (form : Form) (bytes : List ℕ) (ps : List Piece) (rs : List Record) (k : ℕ) → IsPieceLog form bytes ps → IsSpeltPiece (some_records rs)
    → (kept (bytes ++ take k (frames_of (groups_behind (has_groups form) ps) rs)) ≡ Ok (flat_map records_in ps)) ⊎ (kept (bytes ++ take k (frames_of (groups_behind (has_groups form) ps) rs)) ≡ Ok (flat_map records_in ps ++ rs))
frames_torn form bytes ps rs k log is = by_due (is_due (groups_behind (has_groups form) ps) (some_records rs)) refl
  where
    by_due : (b : Bool) → is_due (groups_behind (has_groups form) ps) (some_records rs) ≡ b
        → (kept (bytes ++ take k (if b then framed (frame_spelling rs) else framed (content upgrade) ++ framed (frame_spelling rs))) ≡ Ok (flat_map records_in ps))
        ⊎ (kept (bytes ++ take k (if b then framed (frame_spelling rs) else framed (content upgrade) ++ framed (frame_spelling rs))) ≡ Ok (flat_map records_in ps ++ rs))
    by_due true due = piece_torn form bytes ps (some_records rs) k log is due
    by_due false due = upgrade_and_group form bytes ps rs k log is (not_due (groups_behind (has_groups form) ps) rs due)

-- ---- what is appended for some records is a log of pieces with those records more

pub frames_more : (form : Form) (bytes : List ℕ) (ps : List Piece) (rs : List Record) → IsPieceLog form bytes ps → IsSpeltPiece (some_records rs)
    → (qs : List Piece) × IsPieceLog form (bytes ++ frames_of (groups_behind (has_groups form) ps) rs) qs × (flat_map records_in qs ≡ flat_map records_in ps ++ rs)
frames_more form bytes ps rs log is = by_due (is_due (groups_behind (has_groups form) ps) (some_records rs)) refl
  where
    by_due : (b : Bool) → is_due (groups_behind (has_groups form) ps) (some_records rs) ≡ b
        → (qs : List Piece) × IsPieceLog form (bytes ++ (if b then framed (frame_spelling rs) else framed (content upgrade) ++ framed (frame_spelling rs))) qs × (flat_map records_in qs ≡ flat_map records_in ps ++ rs)
    by_due true due = (ps ++ some_records rs ∷ [], piece_more form bytes ps (some_records rs) log is due, records_more ps (some_records rs))
    by_due false due =
        let mark = framed (content upgrade) in
        let begun = upgraded form bytes ps log (not_due (groups_behind (has_groups form) ps) rs due) in
        let ended = piece_more form (bytes ++ mark) (ps ++ upgrade ∷ []) (some_records rs) begun is (group_due form ps rs) in (
          (ps ++ upgrade ∷ []) ++ some_records rs ∷ [],
          subst (λ l. IsPieceLog form l ((ps ++ upgrade ∷ []) ++ some_records rs ∷ [])) (append_assoc bytes mark (framed (frame_spelling rs))) ended,
          records_more (ps ++ upgrade ∷ []) (some_records rs) ∙ ap (λ (l : List Record). l ++ rs) (no_records_more ps),
        )

-- ---- the first byte of a record is no upgrade's

pub not_upgrade : (r : Record) → bytes_eq (spelling r) (5 ∷ []) ≡ false
not_upgrade (Kept g o) = refl
not_upgrade (Resync term g os) = refl
not_upgrade (Recover term os) = refl

-- ---- what stays where nothing is lost

form_of_front : (n : ℕ) → form_of (take n (header_of second)) ≡ second
form_of_front zero = refl
form_of_front (suc zero) = refl
form_of_front (suc (suc zero)) = refl
form_of_front (suc (suc (suc zero))) = refl
form_of_front (suc (suc (suc (suc n)))) = refl

pub form_of_short : (m : ℕ) → m < 4 → form_of (take m (header_of first)) ≡ second
form_of_short zero lt = refl
form_of_short (suc zero) lt = refl
form_of_short (suc (suc zero)) lt = refl
form_of_short (suc (suc (suc zero))) lt = refl
form_of_short (suc (suc (suc (suc n)))) lt = absurd (omega (arith, lt))

other_form : first ≡ second → ⊥
other_form e = absurd cc

pub form_stays : (form : Form) (old new : List ℕ) → form_of old ≡ form → LosesNothing (header_of form) old new → form_of new ≡ form
form_stays form old new told (stays e) = ap form_of e ∙ told
form_stays form old new told (ends cs rest log is none) = ap form_of log.whole ∙ form_of_log form (flat_map framed cs)
form_stays first old new told (begins m n lt was is) = absurd (other_form (sym told ∙ ap form_of was ∙ form_of_short m lt))
form_stays second old new told (begins m n lt was is) = ap form_of is ∙ form_of_front n
