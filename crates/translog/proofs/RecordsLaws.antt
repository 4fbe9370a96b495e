-- One content after the other, as a loop takes them, and what was read before.
use Rattle.std.proofs.Common.{◌≡◌, ℕ, zero, suc, ◌+◌, ◌^◌, ◌<◌, ◌≤◌, List, [], ◌∷◌, ◌++◌, length, take, drop, get_or, map, add-one, length-append, Result, Ok, sym, ap, subst, ◌∙◌, arith}
use Rattle.std.specs.List.{flat_map}
use Rattle.std.proofs.lemmas.List.{append-nil}
use Rattle.std.proofs.lemmas.Grind.{flat_map-append}
use Rattle.doc.specs.Outcome.{◌>>=◌}
use Rattle.op.specs.declared.record.Record.{Record}
use Rattle.translog.specs.Fault.{Fault}
use Rattle.translog.specs.Frames.{framed, AreContents}

abbrev pub with_front : List Record → Result (List Record) Fault → Result (List Record) Fault
with_front front read = read >>= λ rs. Ok (front ++ rs)

pub drop_next : {X : Type 0} (f : X → List ℕ) (xs : List X) (i : ℕ) (x : X) → i < length xs → x ≡ get_or xs i x → map f (drop i xs) ≡ f x ∷ map f (drop (i + 1) xs)
drop_next f [] i x lt is = absurd (omega arith)
drop_next f (y ∷ ys) zero x lt is = ap (λ z. f z ∷ map f ys) (sym is)
drop_next f (y ∷ ys) (suc i) x lt is = rw add-one (rw add-one at (drop_next f ys i x (omega arith) is))

pub take_next : {X : Type 0} (f : X → List ℕ) (xs : List X) (i : ℕ) (x : X) → i < length xs → x ≡ get_or xs i x → map f (take (i + 1) xs) ≡ map f (take i xs) ++ f x ∷ []
take_next f [] i x lt is = absurd (omega arith)
take_next f (y ∷ ys) zero x lt is = ap (λ z. f z ∷ []) (sym is)
take_next f (y ∷ ys) (suc i) x lt is = rw add-one (ap (λ l. f y ∷ l) (rw add-one at (take_next f ys i x (omega arith) is)))

pub small_at : {X : Type 0} (f : X → List ℕ) (xs : List X) (i : ℕ) (x : X) → i < length xs → x ≡ get_or xs i x → AreContents (map f xs) → length (f x) < 2 ^ 32
small_at f [] i x lt is small = absurd (omega arith)
small_at f (y ∷ ys) zero x lt is small = subst (λ z. length (f z) < 2 ^ 32) (sym is) small.0
small_at f (y ∷ ys) (suc i) x lt is small = small_at f ys i x (omega arith) is small.1

pub room_left : {X : Type 0} (f : X → List ℕ) (xs : List X) (i : ℕ) (x : X) → i < length xs → x ≡ get_or xs i x → length (flat_map framed (map f (take i xs))) + (4 + length (f x)) ≤ length (flat_map framed (map f xs))
room_left f [] i x lt is = absurd (omega arith)
room_left f (y ∷ ys) zero x lt is = let joined = length-append (f y) (flat_map framed (map f ys)) in let same : length (f x) ≡ length (f y) = ap (λ z. length (f z)) is in omega arith
room_left f (y ∷ ys) (suc i) x lt is =
    let whole = length-append (f y) (flat_map framed (map f ys)) in
    let front = length-append (f y) (flat_map framed (map f (take i ys))) in
    let rest = room_left f ys i x (omega arith) is in
    omega arith

pub next_offset : {X : Type 0} (f : X → List ℕ) (xs : List X) (i : ℕ) (x : X) → i < length xs → x ≡ get_or xs i x → length (flat_map framed (map f (take (i + 1) xs))) ≡ length (flat_map framed (map f (take i xs))) + (4 + length (f x))
next_offset f xs i x lt is =
    let more : flat_map framed (map f (take (i + 1) xs)) ≡ flat_map framed (map f (take i xs)) ++ framed (f x) = ap (flat_map framed) (take_next f xs i x lt is) ∙ flat_map-append framed (map f (take i xs)) (f x ∷ []) ∙ ap (λ l. flat_map framed (map f (take i xs)) ++ l) (append-nil (framed (f x))) in
    let joined = length-append (flat_map framed (map f (take i xs))) (framed (f x)) in
    ap length more ∙ joined ∙ omega arith
