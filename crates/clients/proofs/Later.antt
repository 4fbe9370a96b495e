-- The first request stays the first, whatever comes behind it.
use Rattle.std.proofs.Common.{◌≡◌, ℕ, zero, suc, ◌≤◌, Bool, true, false, List, [], ◌∷◌, ◌++◌, length, take, drop, Option, Some, None, Result, Ok, Err, if◌then◌else◌, nat_le, refl, sym, ap, ◌∙◌, arith, length-append}
use Rattle.wire.specs.Cut.{Cut, short, long, whole, onto, next, cut_at, cut_from, cut}
use Rattle.wire.specs.Fault.{Fault}
use Rattle.wire.specs.Framing.{First, none, broken, asked, Framed, framed, with_body, after_cut, first}
use Rattle.wire.specs.Requests.{Standing, requests_after, requests}
use Rattle.wire.proofs.Standings.{requests_step, true_if}
use Rattle.clients.specs.Steps.{IsNext}

-- a head that was cut off stays the same
abbrev Behind : List ℕ → Cut → Cut → Type 0
Behind more short c = Unit {0}
Behind more long c = c ≡ long
Behind more (whole head rest) c = c ≡ whole head (rest ++ more)

behind_onto : (more : List ℕ) (b : ℕ) (c d : Cut) → Behind more c d → Behind more (onto b c) (onto b d)
behind_onto more b short d h = tt
behind_onto more b long d h = ap (onto b) h
behind_onto more b (whole head rest) d h = ap (onto b) h

behind_at : (more : List ℕ) (b : ℕ) (bs : List ℕ) (f g : _ → Cut) (o : Option _) → ((p : _) → Behind more (f p) (g p)) → Behind more (cut_at b bs f o) (cut_at b (bs ++ more) g o)
behind_at more b bs f g None h = refl
behind_at more b bs f g (Some p) h = behind_onto more b (f p) (g p) (h p)

behind_from : (more : List ℕ) (room : ℕ) (p : _) (bs : List ℕ) → Behind more (cut_from room p bs) (cut_from room p (bs ++ more))
behind_from more zero p bs = refl
behind_from more (suc room) p [] = tt
behind_from more (suc room) p (b ∷ bs) = behind_at more b bs (λ q. cut_from room q bs) (λ q. cut_from room q (bs ++ more)) (next p b) (λ q. behind_from more room q bs)

-- what stands first stays the same
abbrev Later : List ℕ → First → First → Type 0
Later more none f = Unit {0}
Later more (broken x) f = f ≡ broken x
Later more (asked r closes rest) f = f ≡ asked r closes (rest ++ more)

take_in : (n : ℕ) (xs ys : List ℕ) → n ≤ length xs → take n (xs ++ ys) ≡ take n xs
take_in zero xs ys h = refl
take_in (suc n) [] ys h = absurd (omega arith)
take_in (suc n) (x ∷ xs) ys h = ap (λ l. x ∷ l) (take_in n xs ys (omega arith))

drop_in : (n : ℕ) (xs ys : List ℕ) → n ≤ length xs → drop n (xs ++ ys) ≡ drop n xs ++ ys
drop_in zero xs ys h = refl
drop_in (suc n) [] ys h = absurd (omega arith)
drop_in (suc n) (x ∷ xs) ys h = drop_in n xs ys (omega arith)

le_true : (n m : ℕ) → n ≤ m → nat_le n m ≡ true
le_true n m h = grind arith

true_le : (n m : ℕ) → nat_le n m ≡ true → n ≤ m
true_le n m h = grind arith

later_if : (more rest : List ℕ) (x : Framed) (b : Bool) → nat_le x.frame.length (length rest) ≡ b
    → Later more (if b then asked (record { method = x.method; target = x.target; body = take x.frame.length rest; encoded = x.frame.encoded; sender = x.sender }) x.frame.closes (drop x.frame.length rest) else none) (with_body (rest ++ more) (Ok x))
later_if more rest x false e = tt
later_if more rest x true e =
    let fits : x.frame.length ≤ length rest = true_le x.frame.length (length rest) e in
    let still : nat_le x.frame.length (length (rest ++ more)) ≡ true = le_true x.frame.length (length (rest ++ more)) (omega (arith, fits, length-append rest more)) in
    true_if (nat_le x.frame.length (length (rest ++ more))) (asked (record { method = x.method; target = x.target; body = take x.frame.length (rest ++ more); encoded = x.frame.encoded; sender = x.sender }) x.frame.closes (drop x.frame.length (rest ++ more))) none still
    ∙ ap (λ body. asked (record { method = x.method; target = x.target; body = body; encoded = x.frame.encoded; sender = x.sender }) x.frame.closes (drop x.frame.length (rest ++ more))) (take_in x.frame.length rest more fits)
    ∙ ap (λ behind. asked (record { method = x.method; target = x.target; body = take x.frame.length rest; encoded = x.frame.encoded; sender = x.sender }) x.frame.closes behind) (drop_in x.frame.length rest more fits)

later_body : (more rest : List ℕ) (f : Result Framed Fault) → Later more (with_body rest f) (with_body (rest ++ more) f)
later_body more rest (Err x) = refl
later_body more rest (Ok x) = later_if more rest x (nat_le x.frame.length (length rest)) refl

later_cut : (most : ℕ) (more : List ℕ) (c d : Cut) → Behind more c d → Later more (after_cut most c) (after_cut most d)
later_cut most more short d h = tt
later_cut most more long d h = ap (after_cut most) h
later_cut most more (whole head rest) d h = let same : d ≡ whole head (rest ++ more) = h in rw same (later_body more rest (framed most head))

behind : (bs more : List ℕ) → Behind more (cut bs) (cut (bs ++ more))
unfolding cut
behind bs more = search behind_from

later : (most : ℕ) (bs more : List ℕ) → Later more (first most bs) (first most (bs ++ more))
unfolding first
later most bs more = later_cut most more (cut bs) (cut (bs ++ more)) (behind bs more)

later_of : (most : ℕ) (more rest : List ℕ) (f g : First) (q : Standing) (ended : Bool) → Later more f g → IsNext f q rest ended
    → requests_after g (requests most) ≡ q ∷ (if ended then [] else requests most (rest ++ more))
later_of most more rest none g q ended l h = absurd h
later_of most more rest (broken x) g q ended l h = ap (λ f. requests_after f (requests most)) l ∙ ap (λ p. p ∷ []) (sym h.0) ∙ ap (λ e. q ∷ (if e then [] else requests most (rest ++ more))) (sym h.1)
later_of most more rest (asked r closes bytes) g q ended l h =
    ap (λ f. requests_after f (requests most)) l
    ∙ ap (λ p. p ∷ (if closes then [] else requests most (bytes ++ more))) (sym h.0)
    ∙ ap (λ b. q ∷ (if closes then [] else requests most (b ++ more))) (sym h.1)
    ∙ ap (λ e. q ∷ (if e then [] else requests most (rest ++ more))) (sym h.2)

-- the first request, and then those of the bytes behind it and of what comes later
pub next_later : (most : ℕ) (bs more rest : List ℕ) (q : Standing) (ended : Bool) → IsNext (first most bs) q rest ended
    → requests most (bs ++ more) ≡ q ∷ (if ended then [] else requests most (rest ++ more))
next_later most bs more rest q ended h = requests_step most (bs ++ more) ∙ later_of most more rest (first most bs) (first most (bs ++ more)) q ended (later most bs more) h
