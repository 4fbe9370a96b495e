-- The puts of a bulk.
use Rattle.std.proofs.Common.{◌≡◌, ◌≤◌, ℕ, suc, List, [], ◌∷◌, length, Result, Ok, Err, arith, refl, ap}
use Rattle.doc.specs.Mapping.{MappingData}
use Rattle.doc.specs.Outcome.{◌>>=◌, try_map}
use Rattle.replica.specs.declared.input.Write.{Write}
use Rattle.replica.specs.Writes.{AreOfOneBulk}
use Rattle.scripts.specs.Step.{put_of, puts_of}
use Rattle.scripts.specs.Words.{words_of}
use Rattle.scripts.proofs.Words.{has_words}

one_more : {B F : Type 0} (one : Result B F) (rest : Result (List B) F) (n : ℕ) (ys : List B) → ((zs : List B) → rest ≡ Ok zs → length zs ≡ n) → (one >>= λ y. rest >>= λ zs. Ok (y ∷ zs)) ≡ Ok ys → length ys ≡ suc n
one_more {F = F} (Ok y) (Ok zs) n ys all e =
    let same : ys ≡ y ∷ zs = cc e in
    rw same (ap suc (all zs refl))
one_more (Ok y) (Err f) n ys all e = absurd (cc e)
one_more (Err f) rest n ys all e = absurd (cc e)

-- of each element there is one
one_each : {A B F : Type 0} (f : A → Result B F) (xs : List A) (ys : List B) → try_map f xs ≡ Ok ys → length ys ≡ length xs
one_each {B = B} f [] ys e =
    let same : ys ≡ [] = cc e in
    rw same refl
one_each f (x ∷ xs) ys e = one_more (f x) (try_map f xs) (length xs) ys (one_each f xs) e

-- the puts of at most 100 ids are a bulk
pub are_of_one_bulk : (m : MappingData) (text : List ℕ) (ids : List (List ℕ)) (ws : List Write) → words_of text ≡ ids → length ids ≤ 100 → puts_of m (words_of text) ≡ Ok ws → AreOfOneBulk ws
are_of_one_bulk m text ids ws same few e =
    let count : length ws ≡ length (words_of text) = one_each (put_of m) (words_of text) ws e in
    let short : length (words_of text) ≡ length ids = ap length same in
    record { some = omega (arith, count, has_words text); few = omega (arith, count, short, few) }
