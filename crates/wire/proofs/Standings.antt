-- The requests that stand whole, one after another.
use Rattle.std.proofs.Common.{◌≡◌, ℕ, zero, suc, ◌<◌, Bool, true, false, List, [], ◌∷◌, length, take, drop, Option, Some, None, Result, Ok, Err, if◌then◌else◌, nat_le, refl, ap, ◌∙◌, arith, length-drop}
use Rattle.wire.specs.declared.place.Place.{Place}
use Rattle.wire.specs.declared.place.Place.TheVariants.{Blank}
use Rattle.wire.specs.declared.reading.Whole.{Whole}
use Rattle.wire.specs.declared.reading.Whole.TheVariants.{Broken, Asked}
use Rattle.wire.specs.Cut.{Cut, short, long, whole, onto, next, cut_at, cut_from, cut}
use Rattle.wire.specs.Fault.{Fault}
use Rattle.wire.specs.Framing.{Request, First, none, broken, asked, Framed, framed, with_body, after_cut, first}
use Rattle.wire.specs.Reading.{IsRead, IsStanding, ends, request_view}
use Rattle.wire.specs.Requests.{Standing, bad, good, requests_after, requests_in, requests}

-- what is left after a head is shorter
abbrev Shorter : ℕ → Cut → Type 0
Shorter n short = Unit {0}
Shorter n long = Unit {0}
Shorter n (whole head rest) = length rest < n

shorter_onto : (b n : ℕ) (c : Cut) → Shorter n c → Shorter (suc n) (onto b c)
shorter_onto b n short h = tt
shorter_onto b n long h = tt
shorter_onto b n (whole head rest) h = omega arith

shorter_at : (b : ℕ) (bs : List ℕ) (more : Place → Cut) (o : Option Place) → ((p : Place) → Shorter (length bs) (more p)) → Shorter (suc (length bs)) (cut_at b bs more o)
shorter_at b bs more None h = omega arith
shorter_at b bs more (Some p) h = shorter_onto b (length bs) (more p) (h p)

shorter_from : (room : ℕ) (p : Place) (bs : List ℕ) → Shorter (length bs) (cut_from room p bs)
shorter_from zero p bs = tt
shorter_from (suc room) p [] = tt
shorter_from (suc room) p (b ∷ bs) = shorter_at b bs (λ q. cut_from room q bs) (next p b) (λ q. shorter_from room q bs)

-- what is left after a request is shorter
abbrev Ahead : ℕ → First → Type 0
Ahead n none = Unit {0}
Ahead n (broken f) = Unit {0}
Ahead n (asked r closes rest) = length rest < n

ahead_if : (b : Bool) (n m : ℕ) (r : Request) (closes : Bool) (rest : List ℕ) → length rest < n → Ahead n (if b then asked r closes (drop m rest) else none)
ahead_if true n m r closes rest h = omega (arith, length-drop m rest)
ahead_if false n m r closes rest h = tt

ahead_body : (n : ℕ) (rest : List ℕ) (f : Result Framed Fault) → length rest < n → Ahead n (with_body rest f)
ahead_body n rest (Err f) h = tt
ahead_body n rest (Ok x) h = ahead_if (nat_le x.frame.length (length rest)) n x.frame.length (record { method = x.method; target = x.target; body = take x.frame.length rest; encoded = x.frame.encoded; sender = x.sender }) x.frame.closes rest h

ahead_cut : (most n : ℕ) (c : Cut) → Shorter n c → Ahead n (after_cut most c)
ahead_cut most n short h = tt
ahead_cut most n long h = tt
ahead_cut most n (whole head rest) h = ahead_body n rest (framed most head) h

pub ahead : (most : ℕ) (bs : List ℕ) → Ahead (length bs) (first most bs)
unfolding first cut
ahead most bs = ahead_cut most (length bs) (cut bs) (shorter_from 16384 Blank bs)

-- with enough room the number doesn't matter
same_after : (f : First) (n : ℕ) (g h : List ℕ → List Standing) → Ahead n f → ((rest : List ℕ) → length rest < n → g rest ≡ h rest) → requests_after f g ≡ requests_after f h
same_after none n g h a e = refl
same_after (broken f) n g h a e = refl
same_after (asked r true rest) n g h a e = refl
same_after (asked r false rest) n g h a e = ap (λ l. good r ∷ l) (e rest a)

same_in : (most n m : ℕ) (bs : List ℕ) → length bs < n → length bs < m → requests_in most n bs ≡ requests_in most m bs
same_in most zero m bs x y = absurd (omega arith)
same_in most (suc n) zero bs x y = absurd (omega arith)
same_in most (suc n) (suc m) bs x y = same_after (first most bs) (length bs) (requests_in most n) (requests_in most m) (ahead most bs) (λ rest s. same_in most n m rest (omega arith) (omega arith))

-- the first, and then the others
pub requests_step : (most : ℕ) (bs : List ℕ) → requests most bs ≡ requests_after (first most bs) (requests most)
unfolding requests
requests_step most bs = same_after (first most bs) (length bs) (requests_in most (length bs)) (λ rest. requests_in most (suc (length rest)) rest) (ahead most bs) (λ rest s. same_in most (length bs) (suc (length rest)) rest s (omega arith))

-- a request that was read is the first that stands, and what is left has the others
pub record Reads (most : ℕ) (w : Whole) (left : Option (List ℕ)) (all : List Standing) : Type 0 where
  pub one : Standing
  pub is_one : IsStanding w one
  pub others : List Standing
  pub split : all ≡ one ∷ others
  pub last : ends w ≡ true → others ≡ []
  pub goes_on : ends w ≡ false → (rest : List ℕ) × (left ≡ Some rest) × (others ≡ requests most rest)

false_if : {A : Type 0} (b : Bool) (x y : A) → b ≡ false → (if b then x else y) ≡ y
false_if true x y e = absurd (cc e)
false_if false x y e = refl

pub true_if : {A : Type 0} (b : Bool) (x y : A) → b ≡ true → (if b then x else y) ≡ x
true_if true x y e = refl
true_if false x y e = absurd (cc e)

pub read_one : (most : ℕ) (w : Whole) (left : Option (List ℕ)) (bs : List ℕ) → IsRead (first most bs) (Some w) left → Reads most w left (requests most bs)
read_one most (Broken e) left bs h = record {
  one = bad h.0;
  is_one = (h.0, h.1, refl);
  others = [];
  split = requests_step most bs ∙ ap (λ f. requests_after f (requests most)) h.2;
  last = λ _. refl;
  goes_on = λ e. absurd (cc e);
}
read_one most (Asked r) left bs h = record {
  one = good (request_view r);
  is_one = refl;
  others = if r.closes then [] else requests most h.0;
  split = requests_step most bs ∙ ap (λ f. requests_after f (requests most)) h.2;
  last = λ e. true_if r.closes [] (requests most h.0) e;
  goes_on = λ e. (h.0, h.1, false_if r.closes [] (requests most h.0) e);
}

pub read_none : (most : ℕ) (left : Option (List ℕ)) (bs : List ℕ) → IsRead (first most bs) None left → requests most bs ≡ []
read_none most left bs h = requests_step most bs ∙ ap (λ f. requests_after f (requests most)) h
