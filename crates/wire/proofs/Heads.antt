-- A head that is read byte by byte.
use Rattle.std.proofs.Common.{◌≡◌, ℕ, zero, suc, ◌+◌, ◌<◌, List, [], ◌∷◌, ◌++◌, Option, Some, None, IfSome, refl, sym, ap, ◌∙◌, arith}
use Rattle.wire.specs.declared.place.Place.{Place}
use Rattle.wire.specs.declared.place.Place.TheVariants.{Blank}
use Rattle.wire.specs.Cut.{Cut, short, long, whole, onto, next, cut_at, cut_from, cut, IsFirst}
use Rattle.wire.specs.Scanning.{fronts, Scanning}

fronts-snoc : (bs : List ℕ) (b : ℕ) (c : Cut) → fronts (bs ++ b ∷ []) c ≡ fronts bs (onto b c)
fronts-snoc [] b c = refl
fronts-snoc (x ∷ bs) b c = ap (onto x) (fronts-snoc bs b c)

fronts-short : (bs : List ℕ) → fronts bs short ≡ short
fronts-short [] = refl
fronts-short (x ∷ bs) = ap (onto x) (fronts-short bs)

fronts-long : (bs : List ℕ) → fronts bs long ≡ long
fronts-long [] = refl
fronts-long (x ∷ bs) = ap (onto x) (fronts-long bs)

fronts-whole : (bs head rest : List ℕ) → fronts bs (whole head rest) ≡ whole (bs ++ head) rest
fronts-whole [] head rest = refl
fronts-whole (x ∷ bs) head rest = ap (onto x) (fronts-whole bs head rest)

pub begins : (o : Option (List ℕ)) → IfSome o (Scanning o [] Blank 0)
unfolding cut
begins None = tt
begins (Some bytes) = record { rest = bytes; is_left = refl; room = 16384; in_room = refl; same = refl }

pub at_rest : (P : List ℕ → Type 0) (o : Option (List ℕ)) (rest : List ℕ) → o ≡ Some rest → IfSome o P → P rest
at_rest P o rest e h = rw e at h

-- the room has a byte more
one_more : (room count : ℕ) → room + count ≡ 16384 → count < 16384 → (more : ℕ) × (room ≡ suc more)
one_more zero count e lt = absurd (omega arith)
one_more (suc more) count e lt = (more, refl)

cut_cons : (room : ℕ) (p : Place) (b : ℕ) (bs : List ℕ) (o : Option Place) → next p b ≡ o → cut_from (suc room) p (b ∷ bs) ≡ cut_at b bs (λ q. cut_from room q bs) o
cut_cons room p b bs o e = ap (cut_at b bs (λ q. cut_from room q bs)) e

-- the byte is read, and the head goes on or ends
pub reads : (left after : Option (List ℕ)) (read : List ℕ) (p : Place) (count b : ℕ) (bytes : List ℕ) (o : Option Place) → next p b ≡ o → count < 16384
    → Scanning left read p count bytes → IfSome left (λ bs. IsFirst bs (Some b) after)
    → (rest : List ℕ) × (room : ℕ) × (after ≡ Some rest) × (room + (count + 1) ≡ 16384) × (fronts read (cut_at b rest (λ q. cut_from room q rest) o) ≡ cut bytes)
reads left after read p count b bytes o e lt s first =
    let f = at_rest (λ bs. IsFirst bs (Some b) after) left s.rest s.is_left first in
    let r = one_more s.room count s.in_room lt in
    let k : fronts read (cut_from (suc r.0) p (b ∷ f.0)) ≡ cut bytes = rw (r.1, f.1) at s.same in
    (f.0, r.0, f.2, omega (arith, s.in_room, r.1), sym (ap (fronts read) (cut_cons r.0 p b f.0 o e)) ∙ k)

pub goes_on : (start left after : Option (List ℕ)) (read : List ℕ) (p q : Place) (count b : ℕ) → next p b ≡ Some q → count < 16384
    → IfSome start (Scanning left read p count) → IfSome left (λ bs. IsFirst bs (Some b) after)
    → IfSome start (Scanning after (read ++ b ∷ []) q (count + 1))
goes_on None left after read p q count b e lt s first = tt
goes_on (Some bytes) left after read p q count b e lt s first =
    let f = reads left after read p count b bytes (Some q) e lt s first in
    record { rest = f.0; is_left = f.2; room = f.1; in_room = f.3; same = fronts-snoc read b (cut_from f.1 q f.0) ∙ f.4 }

pub ends : (start left after : Option (List ℕ)) (read : List ℕ) (p : Place) (count b : ℕ) → next p b ≡ None → count < 16384
    → IfSome start (Scanning left read p count) → IfSome left (λ bs. IsFirst bs (Some b) after)
    → IfSome start (λ bytes. (rest : List ℕ) × (after ≡ Some rest) × (cut bytes ≡ whole (read ++ b ∷ []) rest))
ends None left after read p count b e lt s first = tt
ends (Some bytes) left after read p count b e lt s first =
    let f = reads left after read p count b bytes None e lt s first in
    (f.0, f.2, sym f.4 ∙ fronts-whole read (b ∷ []) f.0)

pub stops : (start left after : Option (List ℕ)) (read : List ℕ) (p : Place) (count : ℕ) → count < 16384
    → IfSome start (Scanning left read p count) → IfSome left (λ bs. IsFirst bs None after)
    → IfSome start (λ bytes. cut bytes ≡ short)
stops None left after read p count lt s first = tt
stops (Some bytes) left after read p count lt s first =
    let f = at_rest (λ bs. IsFirst bs None after) left s.rest s.is_left first in
    let r = one_more s.room count s.in_room lt in
    let k : fronts read (cut_from (suc r.0) p []) ≡ cut bytes = rw (r.1, f.0) at s.same in
    sym k ∙ fronts-short read

pub is_long : (start left : Option (List ℕ)) (read : List ℕ) (p : Place) (count : ℕ) → 16384 ≡ count
    → IfSome start (Scanning left read p count) → IfSome start (λ bytes. cut bytes ≡ long)
is_long None left read p count e s = tt
is_long (Some bytes) left read p count e s =
    let none : s.room ≡ 0 = omega (arith, s.in_room) in
    let k : fronts read (cut_from 0 p s.rest) ≡ cut bytes = rw none at s.same in
    sym k ∙ fronts-long read
