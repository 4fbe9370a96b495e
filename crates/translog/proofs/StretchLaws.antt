-- The pieces of stretches that follow one another.
use mathlib.Core.Bool.{beq, not}
use native.Mathlib.Nat.{add-mul, mul-le-mul_right, one-mul}
use Rattle.std.proofs.Common.{◌≡◌, Bool, true, false, ◌<◌, ◌≤◌, ◌+◌, ◌*◌, min, ℕ, zero, suc, List, [], ◌∷◌, ◌++◌, length, map, take, drop, refl, sym, ap, ◌∙◌, subst, arith, Some, Result, Ok, Err}
use Rattle.std.specs.Result.{result_ok}
use Rattle.std.specs.List.{flat_map, range_with_len, AllByRecursion, AllZip}
use Rattle.std.specs.Prelude.{IfOk}
use Rattle.std.proofs.lemmas.List.{take_all, take-take, drop-take, take-append-drop, take_min, map-append, length-append}
use Rattle.std.proofs.lemmas.Grind.{flat_map-append}
use Rattle.op.specs.declared.record.Record.{Record}
use Rattle.translog.specs.declared.fault.LogFault.{LogFault}
use Rattle.translog.specs.declared.stretches.Stretch.{Stretch}
use Rattle.translog.specs.Frames.{framed, AreContents}
use Rattle.translog.specs.Pieces.{Piece, content, records_in, groups_after, groups_behind, piece_records, AreInOrder, IsSpeltPiece, ArePieces}
use Rattle.translog.proofs.PiecesLaws.{spelt_pieces}

-- ---- pieces behind other pieces

orders_join : (groups : Bool) (ps qs : List Piece) → AreInOrder groups ps → AreInOrder (groups_behind groups ps) qs → AreInOrder groups (ps ++ qs)
orders_join groups [] qs order later = later
orders_join groups (p ∷ ps) qs order later = (order.0, orders_join (groups_after groups p) ps qs order.1 later)

eaches_join : (ps qs : List Piece) → AllByRecursion IsSpeltPiece ps → AllByRecursion IsSpeltPiece qs → AllByRecursion IsSpeltPiece (ps ++ qs)
eaches_join [] qs each later = later
eaches_join (p ∷ ps) qs each later = (each.0, eaches_join ps qs each.1 later)

behind_both : (groups : Bool) (ps qs : List Piece) → groups_behind groups (ps ++ qs) ≡ groups_behind (groups_behind groups ps) qs
behind_both groups [] qs = refl
behind_both groups (p ∷ ps) qs = behind_both (groups_after groups p) ps qs

pub pieces_join : (groups now after : Bool) (cs ds : List (List ℕ)) (rs ss : List Record) → ArePieces groups cs rs now → ArePieces now ds ss after → ArePieces groups (cs ++ ds) (rs ++ ss) after
pieces_join groups now after cs ds rs ss are later =
    let ps = are.pieces in
    let qs = later.pieces in
    record {
      pieces = ps ++ qs;
      spelt = map-append content ps qs ∙ ap (λ l. l ++ map content qs) are.spelt ∙ ap (λ l. cs ++ l) later.spelt;
      order = orders_join groups ps qs are.order (subst (λ b. AreInOrder b qs) are.behind later.order);
      each = eaches_join ps qs are.each later.each;
      records = ap (λ l. l ++ ss) are.records ∙ ap (λ l. flat_map records_in ps ++ l) later.records ∙ sym (flat_map-append records_in ps qs);
      behind = later.behind ∙ ap (λ b. groups_behind b qs) are.behind ∙ sym (behind_both groups ps qs);
    }

pub same_flag : (a b : Bool) → not (beq a b) ≡ false → a ≡ b
same_flag true true e = refl
same_flag true false e = absurd cc
same_flag false true e = absurd cc
same_flag false false e = refl

pub was_ok : {T E : Type 0} (r : Result T E) (x : T) → Some x ≡ result_ok r → r ≡ Ok x
was_ok (Ok y) x e = cc
was_ok (Err f) x e = absurd cc

-- contents that are pieces are read as these
pub pieces_read : (groups : Bool) (offset : ℕ) (cs : List (List ℕ)) (rs : List Record) (after : Bool) → ArePieces groups cs rs after → piece_records groups offset cs ≡ Ok rs
pieces_read groups offset cs rs after are =
    ap (piece_records groups offset) (sym are.spelt) ∙ spelt_pieces groups offset are.pieces are.order are.each ∙ ap (λ (l : List Record). Ok l) (sym are.records)

-- ---- one stretch of many contents

-- what is cut off at a place and then behind so many
pub cut_at : {X : Type 0} (xs rest part : List X) (begin size n : ℕ) → part ≡ take n rest → n ≡ min size (length rest) → rest ≡ drop begin xs → part ≡ take size (drop begin xs)
cut_at xs rest part begin size n is least back = is ∙ ap (λ k. take k rest) least ∙ take_min size rest ∙ ap (take size) back

smalls_part : (cs ds : List (List ℕ)) → AreContents (cs ++ ds) → AreContents cs × AreContents ds
smalls_part [] ds small = (tt, small)
smalls_part (c ∷ cs) ds small = let parts = smalls_part cs ds small.1 in ((small.0, parts.0), parts.1)

module _ {X : Type 0} (f : X → List ℕ) (xs : List X) (size : ℕ) where
  -- the contents that begin at a place, as many as a stretch has
  abbrev pub stretch : ℕ → List (List ℕ)
  stretch b = map f (take size (drop b xs))

  parts : (b : ℕ) → map f xs ≡ map f (take b xs) ++ (stretch b ++ map f (drop size (drop b xs)))
  parts b =
      let rest = drop b xs in
      ap (map f) (sym (take-append-drop b xs)) ∙ map-append f (take b xs) rest ∙ ap (λ l. map f (take b xs) ++ l) (ap (map f) (sym (take-append-drop size rest)) ∙ map-append f (take size rest) (drop size rest))

  pub stretch-small : (b : ℕ) → AreContents (map f xs) → AreContents (stretch b)
  stretch-small b small =
      let later = map f (drop size (drop b xs)) in
      (smalls_part (stretch b) later (smalls_part (map f (take b xs)) (stretch b ++ later) (subst AreContents (parts b) small)).1).0

  pub stretch-room : (b : ℕ) → length (flat_map framed (stretch b)) ≤ length (flat_map framed (map f xs))
  stretch-room b =
      let front = map f (take b xs) in
      let later = map f (drop size (drop b xs)) in
      let whole : flat_map framed (map f xs) ≡ flat_map framed front ++ (flat_map framed (stretch b) ++ flat_map framed later)
      = ap (flat_map framed) (parts b) ∙ flat_map-append framed front (stretch b ++ later) ∙ ap (λ l. flat_map framed front ++ l) (flat_map-append framed (stretch b) later) in
      let outer = length-append (flat_map framed front) (flat_map framed (stretch b) ++ flat_map framed later) in
      let inner = length-append (flat_map framed (stretch b)) (flat_map framed later) in
      let same = ap length whole in
      omega arith

  -- ---- all stretches

  -- what was read of the stretches from a place on to the end
  abbrev pub AreStretches : ℕ → List (Result Stretch LogFault) → Type 0
  AreStretches b [] = length xs ≤ b
  AreStretches b (r ∷ rs) = IfOk r (λ s. ArePieces s.before (stretch b) s.records.items s.after) × AreStretches (b + size) rs

  -- the records of the contents before a place, behind which these stretches stand
  pub record IsSoFar (groups : Bool) (rs : List Record) (now : Bool) (left : List (Result Stretch LogFault)) : Type 0 where
    pub begin : ℕ
    pub pieces : ArePieces groups (map f (take begin xs)) rs now
    pub rest : AreStretches begin left

  -- what stands beside each number of a range, one by one
  pub in_turn : (k count : ℕ) (rs : List (Result Stretch LogFault)) → length xs ≤ (k + count) * size
      → AllZip (λ i r. IfOk r (λ s. ArePieces s.before (stretch (i * size)) s.records.items s.after)) (range_with_len k count) rs → AreStretches (k * size) rs
  in_turn k zero [] last each = subst (λ (j : ℕ). length xs ≤ j * size) (omega arith) last
  in_turn k zero (r ∷ rs) last each = absurd each
  in_turn k (suc count) [] last each = absurd each
  in_turn k (suc count) (r ∷ rs) last each =
      let on : k + suc count ≡ (k + 1) + count = omega arith in
      let next : (k + 1) * size ≡ k * size + size = add-mul k 1 size ∙ omega (arith, one-mul size) in (
        each.0,
        subst (λ (b : ℕ). AreStretches b rs) next (in_turn (k + 1) count rs (subst (λ (j : ℕ). length xs ≤ j * size) on last) each.1),
      )

  take-more : (b : ℕ) → take b xs ++ take size (drop b xs) ≡ take (b + size) xs
  take-more b =
      let all = take (b + size) xs in
      ap (λ ys. ys ++ take size (drop b xs)) (sym (take-take b (b + size) xs (omega arith)))
      ∙ ap (λ ys. take b all ++ ys) (sym (drop-take b size xs))
      ∙ take-append-drop b all

  -- no stretch yet
  pub none-read : (groups : Bool) (left : List (Result Stretch LogFault)) → AreStretches 0 left → IsSoFar groups [] groups left
  none-read groups left rest = record {
    begin = 0;
    pieces = record { pieces = []; spelt = refl; order = tt; each = tt; records = refl; behind = refl };
    rest = rest;
  }

  -- one stretch more
  pub stretch-more : (groups now : Bool) (rs new : List Record) (next : Stretch) (left : List (Result Stretch LogFault)) → IsSoFar groups rs now (Ok next ∷ left) → next.before ≡ now → new ≡ rs ++ next.records.items
      → IsSoFar groups new next.after left
  stretch-more groups now rs new next left so_far follows added =
      let b = so_far.begin in
      let joined = pieces_join groups now next.after (map f (take b xs)) (stretch b) rs next.records.items so_far.pieces (subst (λ g. ArePieces g (stretch b) next.records.items next.after) follows so_far.rest.0) in
      let taken : map f (take b xs) ++ stretch b ≡ map f (take (b + size) xs) = sym (map-append f (take b xs) (take size (drop b xs))) ∙ ap (map f) (take-more b) in
      record {
        begin = b + size;
        pieces = subst (λ l. ArePieces groups (map f (take (b + size) xs)) l next.after) (sym added) (subst (λ cs. ArePieces groups cs (rs ++ next.records.items) next.after) taken joined);
        rest = so_far.rest.1;
      }

  -- all stretches
  pub all-read : (groups now : Bool) (rs : List Record) → IsSoFar groups rs now [] → ArePieces groups (map f xs) rs now
  all-read groups now rs so_far = subst (λ ys. ArePieces groups (map f ys) rs now) (take_all so_far.begin xs so_far.rest) so_far.pieces

-- each of as many stretches as it takes begins within the contents
pub begins : (i count len size : ℕ) → i < count → count * size < len + size → i * size < len
begins i count len size lt room =
    let up : i + 1 ≤ count = omega arith in
    omega (arith, mul-le-mul_right size up, add-mul i 1 size, one-mul size)
