-- Beginnings of one history.
use Rattle.std.proofs.Common.{◌≡◌, ℕ, Bool, Option, None, ◌≤◌, List, [], ◌∷◌, ◌++◌, length, Some, refl, ap, sym, subst, ◌∙◌, arith}
use mathlib.Core.List.{IsPrefix}
use Rattle.published.specs.declared.listing.Listing.{Listing}
use Rattle.logbook.specs.Pages.{Book}
use Rattle.published.specs.Showing.{cell_of}
use Rattle.published.specs.declared.listing.Published.{Published}
use Rattle.published.specs.Listings.{GoesOn, ComesAfterAll}
use Rattle.published.specs.Told.{IsAt, IsOf, IsTold, IsOne}
use Rattle.published.specs.Chain.{last_of, RunsOn, IsChain, IsLast, MayFollow}
use Rattle.published.proofs.Orders.{self-GoesOn, trans-GoesOn}

-- of two beginnings of one list the shorter begins the longer

pub prefix_whole : {A : Type 0} (xs ys : List A) → IsPrefix xs ys → length ys ≤ length xs → xs ≡ ys
prefix_whole [] [] p le = refl
prefix_whole [] (y ∷ ys) p le = absurd (omega arith)
prefix_whole (x ∷ xs) [] p le = absurd (cc (p.1))
prefix_whole (x ∷ xs) (y ∷ ys) p le =
    let rest = prefix_whole xs ys (p.0, cc (p.1)) (omega arith) in cc (p.1, rest)

-- the last goes on from the first
pub last-GoesOn : (a : Listing) (log : List Listing) → RunsOn a log → GoesOn (last_of a log) a
last-GoesOn a [] h = self-GoesOn a
last-GoesOn a (b ∷ log) h = trans-GoesOn a b (last_of b log) h.0 (last-GoesOn b log h.1)

-- the last of a longer history goes on from the last of its beginning
pub later-GoesOn : (a : Listing) (log more : List Listing) → RunsOn a (log ++ more) → GoesOn (last_of a (log ++ more)) (last_of a log)
later-GoesOn a [] more h = last-GoesOn a more h
later-GoesOn a (b ∷ log) more h = later-GoesOn b log more h.1

pub prefix-GoesOn : (xs ys : List Listing) (x y : Listing) → IsPrefix xs ys → IsChain ys → IsLast xs x → IsLast ys y → GoesOn y x
prefix-GoesOn [] ys x y p chain a b = absurd (cc a)
prefix-GoesOn (x' ∷ xs) [] x y p chain a b = absurd (cc b)
prefix-GoesOn (x' ∷ xs) (y' ∷ ys) x y p chain a b =
    let heads : x' ≡ y' = cc (p.1) in
    let tails : xs ++ p.0 ≡ ys = cc (p.1) in
    let runs : RunsOn x' (xs ++ p.0) = rw (tails, heads) chain in
    let on : GoesOn (last_of x' (xs ++ p.0)) (last_of x' xs) = later-GoesOn x' xs p.0 runs in
    let first : last_of x' xs ≡ x = cc a in
    let same : last_of x' (xs ++ p.0) ≡ y = rw (tails, heads) (cc b) in
    subst (λ (z : Listing). GoesOn z x) same (subst (λ (z : Listing). GoesOn (last_of x' (xs ++ p.0)) z) first on)

-- a history with a listing that may follow
runs-snoc : (a : Listing) (log : List Listing) (x : Listing) → RunsOn a log → GoesOn x (last_of a log) → RunsOn a (log ++ x ∷ [])
runs-snoc a [] x h on = (on, tt)
runs-snoc a (b ∷ log) x h on = (h.0, runs-snoc b log x h.1 on)

pub chain-snoc : (log : List Listing) (x : Listing) → IsChain log → MayFollow log x → IsChain (log ++ x ∷ [])
chain-snoc [] x h may = tt
chain-snoc (a ∷ log) x h may = runs-snoc a log x h may

pub last_of-snoc : (a : Listing) (log : List Listing) (x : Listing) → last_of a (log ++ x ∷ []) ≡ x
last_of-snoc a [] x = refl
last_of-snoc a (b ∷ log) x = last_of-snoc b log x

pub last-snoc : (log : List Listing) (x : Listing) → IsLast (log ++ x ∷ []) x
last-snoc [] x = refl
last-snoc (a ∷ log) x = ap Some (last_of-snoc a log x)

-- a cell's numbers name its book
pub same-book : (a b : Book) → cell_of a ≡ cell_of b → a ≡ b
same-book a b e = λ i. record { number = (e i).0; log_name = (e i).1; cells_name = (e i).2 }

pub at-cell : (taken : Published) (known : List Published) (named : Bool) (cell : ℕ × ℕ × ℕ) → ComesAfterAll taken known → IsAt named cell known → IsOf named cell taken
at-cell taken [] named cell on at = absurd at
at-cell taken (a ∷ known) named cell on at = λ is. on.0.listing.cell ∙ at is

pub at-one : (taken : Published) (known : List Published) (named : Bool) (cell : ℕ × ℕ × ℕ) (told : Option Published) → ComesAfterAll taken known → IsAt named cell known → IsTold named cell told → IsOne taken told
at-one taken known named cell None on at t = tt
at-one taken known named cell (Some p) on at t = at-cell taken known named cell on at t.0 ∙ sym t.1
