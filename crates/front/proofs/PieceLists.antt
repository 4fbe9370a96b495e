-- Pieces of pages.
use Rattle.std.proofs.Common.{◌≡◌, ℕ, ◌+◌, ◌-◌, ◌≤◌, List, [], ◌∷◌, ◌++◌, length, take, drop, length-append, take-append-drop, arith, Option, refl, sym, ap, ◌∙◌, append_assoc, append-nil}
use Rattle.std.specs.Io.KnownBytes.{Appends, Keeps}
use Rattle.std.proofs.lemmas.List.{length-drop, length-take-le, drop-drop}
use Rattle.std.proofs.Math.Seq.{take-length}
use Rattle.front.specs.Sending.{Sent}
use Rattle.std.proofs.KnownBytes.{Appends-nil, Appends-trans, Appends-kept}
use Rattle.wire.specs.Bytes.{AppendsFront}
use Rattle.wire.proofs.Bytes.{front_front}
use Rattle.front.specs.PieceView.{joined, piece_bytes}
use Rattle.front.specs.declared.pieces.Piece.{Piece}

-- one piece more
pub joined_more : (ps : List Piece) (p : Piece) → joined (ps ++ p ∷ []) ≡ joined ps ++ piece_bytes p
joined_more [] p = append-nil (piece_bytes p)
joined_more (q ∷ ps) p = ap (λ l. piece_bytes q ++ l) (joined_more ps p) ∙ sym (append_assoc (piece_bytes q) (joined ps) (piece_bytes p))

-- two pieces more
pub joined_two : (ps qs rs : List Piece) (p q : Piece) → qs ≡ ps ++ p ∷ [] → rs ≡ qs ++ q ∷ [] → joined rs ≡ (joined ps ++ piece_bytes p) ++ piece_bytes q
joined_two ps qs rs p q e f = ap joined f ∙ joined_more qs q ∙ ap (λ l. l ++ piece_bytes q) (ap joined e ∙ joined_more ps p)

-- some bytes of a page were written, and these pieces are left
pub record WrittenTo (old new : Option (List ℕ)) (left : List Piece) (all : List ℕ) : Type 0 where
  pub done : List ℕ
  pub split : all ≡ done ++ joined left
  pub appended : Appends old new done

pub first_written : (old new : Option (List ℕ)) (first all : List ℕ) (left : List Piece) → all ≡ first ++ joined left → Appends old new first → WrittenTo old new left all
first_written old new first all left e h = record { done = first; split = e; appended = h }

pub piece_written : (old mid new : Option (List ℕ)) (p : Piece) (left after : List Piece) (all : List ℕ) → WrittenTo old mid left all → left ≡ p ∷ after → Appends mid new (piece_bytes p) → WrittenTo old new after all
piece_written old mid new p left after all w e h = record {
  done = w.done ++ piece_bytes p;
  split = w.split ∙ ap (λ l. w.done ++ joined l) e ∙ sym (append_assoc w.done (piece_bytes p) (joined after));
  appended = Appends-trans old mid new w.done (piece_bytes p) w.appended h;
}

pub piece_refused : (old mid new : Option (List ℕ)) (p : Piece) (left after : List Piece) (all : List ℕ) → WrittenTo old mid left all → left ≡ p ∷ after → AppendsFront mid new (piece_bytes p) → AppendsFront old new all
piece_refused old mid new p left after all w e h = front_front old mid new w.done (piece_bytes p) all w.appended h (joined after) (w.split ∙ ap (λ l. w.done ++ joined l) e)

pub first_refused : (old new : Option (List ℕ)) (first all : List ℕ) (left : List Piece) → all ≡ first ++ joined left → AppendsFront old new first → AppendsFront old new all
first_refused old new first all left e h = front_front old old new [] first all (Appends-nil old) h (joined left) e

pub all_written : (old mid : Option (List ℕ)) (left : List Piece) (all : List ℕ) → WrittenTo old mid left all → left ≡ [] → Appends old mid all
all_written old mid left all w e = rw (w.split ∙ ap (λ l. w.done ++ joined l) e ∙ append-nil w.done) w.appended

pub all_kept : (old mid new : Option (List ℕ)) (left : List Piece) (all : List ℕ) → WrittenTo old mid left all → left ≡ [] → Keeps mid new → Appends old new all
all_kept old mid new left all w e k = Appends-kept old mid new all (all_written old mid left all w e) k

pub not_flushed : (old mid new : Option (List ℕ)) (left : List Piece) (all : List ℕ) → WrittenTo old mid left all → left ≡ [] → Keeps mid new → AppendsFront old new all
not_flushed old mid new left all w e k = (all, ([], sym (append-nil all)), all_kept old mid new left all w e k)

-- nothing is left of a piece and of those after it
pub is_nothing : (xs ys : List ℕ) (s : ℕ) → (length ys ≡ 0 → length xs ≤ s → drop s xs ++ ys ≡ []) × (drop s xs ++ ys ≡ [] → (length ys ≡ 0) × (length xs ≤ s))
is_nothing xs ys s = (λ e h. empty (drop s xs ++ ys) (omega (arith, e, h, sizes)), λ e. (omega (arith, ap length e, sizes), omega (arith, ap length e, sizes)))
  where
    empty : (zs : List ℕ) → length zs ≡ 0 → zs ≡ []
    empty [] h = refl
    empty (z ∷ zs) h = absurd (omega (arith, h))

    sizes : length (drop s xs ++ ys) ≡ (length xs - s) + length ys
    sizes = length-append (drop s xs) ys ∙ ap (λ n. n + length ys) (length-drop s xs)

pub length_more : (ps qs : List Piece) (p : Piece) → qs ≡ ps ++ p ∷ [] → length (joined qs) ≡ length (joined ps) + length (piece_bytes p)
length_more ps qs p e = ap (λ l. length (joined l)) e ∙ ap length (joined_more ps p) ∙ length-append (joined ps) (piece_bytes p)

-- the first bytes of a piece were written
pub is_sent : (piece rest : List ℕ) (sent n : ℕ) (before after : Option (List ℕ)) → Appends before after (take n (drop sent piece)) → n ≤ length (drop sent piece)
    → Sent n before after (drop sent piece ++ rest) (drop (sent + n) piece ++ rest)
is_sent piece rest sent n before after h le = record {
  bytes = take n (drop sent piece);
  count = length-take-le n (drop sent piece) le;
  written = h;
  split = ap (λ l. l ++ rest) (sym (take-append-drop n (drop sent piece))) ∙ append_assoc (take n (drop sent piece)) (drop n (drop sent piece)) rest ∙ ap (λ l. take n (drop sent piece) ++ (l ++ rest)) (drop-drop n sent piece);
}

pub rest_of : (xs : List ℕ) (s : ℕ) → take (length xs - s) (drop s xs) ≡ drop s xs
rest_of xs s = ap (λ n. take n (drop s xs)) (sym (length-drop s xs)) ∙ take-length (drop s xs)
