-- Merges of what searches look through.
use Rattle.std.proofs.Common.{◌≡◌, ◌≤◌, Bool, true, false, List, [], ◌∷◌, All, length, refl, ap, sym, subst, arith, if◌then◌else◌}
use Rattle.std.specs.Prelude.{Contains}
use Rattle.std.proofs.lemmas.List.Elements.{All-contains_itself, All-filter}
use Rattle.engine.specs.Published.{Published, Segments, MergeData, are_taken, is_numbered, mergeable_count, numbered, AreGone}
use Rattle.replica.specs.Searched.{Searched, HasMergedNext, IsNextMerge, IsSwapOf}

some_there : (all ss : List Published) → 1 ≤ length ss → All (Contains all) ss → AreGone all ss → ⊥
some_there all [] some there gone = absurd (omega (arith, some))
some_there all (s ∷ ss) some there gone = gone 0 s (omega arith) (there 0 s (omega arith))

taken_there : (all ss : List Published) (b : Bool) → 1 ≤ length ss → All (Contains all) ss → (let taken = if b then ss else [] in AreGone all taken → taken ≡ [])
taken_there all ss true some there gone = absurd (some_there all ss some there gone)
taken_there all ss false some there gone = refl

-- the next merge takes segments that are there
next-there : (s : Segments) (m : MergeData) → IsNextMerge 16 s m → AreGone s.published m.taken → m.taken ≡ []
next-there s m next =
    let ss = numbered next.numbers s.published in
    subst (λ (ts : List Published). AreGone s.published ts → ts ≡ []) (sym (ap (λ (x : MergeData). x.taken) next.is))
    (taken_there s.published ss (are_taken ss) (omega (arith, next.some)) (All-filter (is_numbered next.numbers) (Contains s.published) s.published (All-contains_itself s.published)))

-- so it is put in place
pub next-swapped : (old new : Searched) (m : MergeData) (b : Bool) → IsNextMerge 16 old.segments m → IsSwapOf m old new b → b ≡ true
next-swapped old new m b next swap = swap.answer.1 (next-there old.segments m next)

pub has-merged : (old new : Searched) (m : MergeData) (b : Bool) → IsNextMerge 16 old.segments m → IsSwapOf m old new b → HasMergedNext old new
has-merged old new m b next swap = record { merge = m; is_next = next; swap = subst (λ x. IsSwapOf m old new x) (next-swapped old new m b next swap) swap }

clash : (b : Bool) → b ≡ true → b ≡ false → ⊥
clash b made left = cc

pub few-left : (old new : Searched) (m : MergeData) (b : Bool) → IsNextMerge 16 old.segments m → IsSwapOf m old new b → b ≡ false → mergeable_count old.segments.published ≤ 16
few-left old new m b next swap left = absurd (clash b (next-swapped old new m b next swap) left)
