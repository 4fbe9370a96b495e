-- How far a merge has come, after one move more.
use Rattle.std.proofs.Common.{◌≡◌, ℕ, zero, suc, ◌<◌, ◌≤◌, ◌+◌, true, false, List, [], ◌∷◌, ◌++◌, if◌then◌else◌, Option, Some, None, length, map, get_or, refl, sym, ap, subst, ◌∙◌, arith}
use Rattle.std.specs.Prelude.{◌==◌, nat_lt, slice_get, slice_index_or, slice_set}
use Rattle.std.specs.Option.{option_map}
use Rattle.std.proofs.lemmas.Bool.Decides.{nat_tests}
use Rattle.std.proofs.lemmas.Option.{slice_get_read, slice_get_within, slice_get-map}
use Rattle.std.proofs.lemmas.List.{length-map, get_or-set_same, get_or-set_other, length-set}
use Rattle.world.specs.declared.event.Event.{Event}
use Rattle.journal.specs.declared.moves.Move.{Move}
use Rattle.journal.specs.declared.moves.Placed.{Placed}
use Rattle.world.specs.World.{World, world_step, world_after}
use Rattle.audit.specs.Moves.{Moves, Counts, more, event_of, IsNext, Leads}
use Rattle.audit.specs.Merge.{part_of, moves_in, count_of, left_of, IsReached, IsWithin, HasNext}

abbrev what_of : Placed → Move
what_of p = p.what

pub there_at : (ps : List Placed) (count : ℕ) (x : Placed) → true ≡ nat_lt count (length ps) → x ≡ slice_index_or ps count x → slice_get ps count ≡ Some x
there_at ps count x lt e = slice_get_read ps (length ps) count x refl (grind (arith, nat_tests, lt)) e

one_what : (x : Placed) (m : Move) → Some x.what ≡ Some m → x.what ≡ m
one_what x m e = cc

-- the move at a place
pub at_place : (ps : List Placed) (count : ℕ) (x : Placed) (m : Move) → slice_get ps count ≡ Some x → slice_get (map what_of ps) count ≡ Some m → x.what ≡ m
at_place ps count x m e f = one_what x m (sym (slice_get-map what_of ps count ∙ ap (option_map what_of) e) ∙ f)

pub past_all : (ps : List Placed) (count : ℕ) (m : Move) → false ≡ nat_lt count (length ps) → slice_get (map what_of ps) count ≡ Some m → ⊥
past_all ps count m none e = let lt = slice_get_within (map what_of ps) count m e in let len = length-map ps what_of in absurd (grind (arith, nat_tests, none, lt, len))

-- ---- what is left

pub smaller : (parts : List (List Placed)) (cs : List ℕ) (i : ℕ) (ps : List Placed) → slice_get parts i ≡ Some ps → i < length cs → get_or cs i 0 < length ps → left_of parts (slice_set cs i (get_or cs i 0 + 1)) < left_of parts cs
smaller [] cs i ps there lt more = absurd cc
smaller (q ∷ parts) [] i ps there lt more = absurd (omega arith)
smaller (q ∷ parts) (c ∷ cs) zero ps there lt more = let same : q ≡ ps = cc in let len : length q ≡ length ps = ap (λ (l : List Placed). length l) same in omega arith
smaller (q ∷ parts) (c ∷ cs) (suc i) ps there lt more = let rest = smaller parts cs i ps there (omega arith) more in omega arith

-- ---- one event more

after_push : (es : List Event) (w : World) (e : Event) → world_after w (es ++ e ∷ []) ≡ (world_step (world_after w es) e).world
after_push [] w e = refl
after_push (x ∷ es) w e = after_push es (world_step w x).world e

more_same : (p q : Counts) (i j : ℕ) → p j ≡ q j → more p i j ≡ more q i j
more_same p q i j e = elim (i == j) as (λ b. (if b then suc (p j) else p j) ≡ (if b then suc (q j) else q j)) [ true ↦ ap suc e | false ↦ e ]

leads_push : (moves : Moves) (es : List Event) (w : World) (p q r : Counts) → Leads moves w p es q → (i k : ℕ) (m : Move) → IsNext moves (world_after w es) q i k m → ((j : ℕ) → more q i j ≡ r j) → Leads moves w p (es ++ event_of i k m ∷ []) r
leads_push moves [] w p q r leads i k m next ends = (i, k, m, (ap (λ (c : ℕ). slice_get (moves i) c) (leads i) ∙ next.0, next.1), refl, (λ j. more_same p q i j (leads j) ∙ ends j))
leads_push moves (e ∷ es) w p q r (j, l, n, first, is, rest) i k m next ends = (j, l, n, first, is, leads_push moves es (world_step w e).world (more p j) q r rest i k m next ends)

counted : (cs : List ℕ) (i : ℕ) → i < length cs → (j : ℕ) → more (count_of cs) i j ≡ count_of (slice_set cs i (get_or cs i 0 + 1)) j
counted cs i lt j = (elim (i == j) as (λ b. (i == j) ≡ b → (if b then suc (get_or cs j 0) else get_or cs j 0) ≡ count_of (slice_set cs i (get_or cs i 0 + 1)) j) [
  | true ↦ λ is. let same : i ≡ j = grind (arith, nat_tests) in subst (λ (k : ℕ). suc (get_or cs k 0) ≡ count_of (slice_set cs i (get_or cs i 0 + 1)) k) same (let at = get_or-set_same cs i (get_or cs i 0 + 1) 0 lt in omega arith)
  | false ↦ λ is. sym (get_or-set_other cs i j (get_or cs i 0 + 1) 0 (grind (arith, nat_tests, is)))
]) refl

pub within_more : (parts : List (List Placed)) (cs : List ℕ) (i : ℕ) (ps : List Placed) → slice_get parts i ≡ Some ps → i < length cs → get_or cs i 0 < length ps → IsWithin parts cs → IsWithin parts (slice_set cs i (get_or cs i 0 + 1))
within_more parts cs i ps there lt few within = (length-set cs i _ ∙ within.0, each)
  where
    each : (j : ℕ) → count_of (slice_set cs i (get_or cs i 0 + 1)) j ≤ length (part_of (slice_get parts j))
    each j = subst (λ (n : ℕ). n ≤ length (part_of (slice_get parts j))) (counted cs i lt j) ((elim (i == j) as (λ b. (i == j) ≡ b → (if b then suc (get_or cs j 0) else get_or cs j 0) ≤ length (part_of (slice_get parts j))) [
      | true ↦ λ is. let same : i ≡ j = grind (arith, nat_tests) in subst (λ (k : ℕ). suc (get_or cs k 0) ≤ length (part_of (slice_get parts k))) same (rw there (omega arith))
      | false ↦ λ is. within.1 j
    ]) refl)

pub reached_more : (start w w' : World) (parts : List (List Placed)) (cs : List ℕ) (i k : ℕ) (m : Move) → i < length cs → IsReached start parts w cs → IsNext (moves_in parts) w (count_of cs) i k m → w' ≡ (world_step w (event_of i k m)).world →
    IsReached start parts w' (slice_set cs i (get_or cs i 0 + 1))
reached_more start w w' parts cs i k m lt reached next is =
    let next' : IsNext (moves_in parts) (world_after start reached.0) (count_of cs) i k m = subst (λ (x : World). IsNext (moves_in parts) x (count_of cs) i k m) reached.2 next in (
      reached.0 ++ event_of i k m ∷ [],
      leads_push (moves_in parts) reached.0 start (λ j. 0) (count_of cs) _ reached.1 i k m next' (counted cs i lt),
      is ∙ ap (λ (x : World). (world_step x (event_of i k m)).world) reached.2 ∙ sym (after_push reached.0 start (event_of i k m)),
    )

-- the next move of a node is that at its count
pub next_is : (parts : List (List Placed)) (cs : List ℕ) (w : World) (i k : ℕ) (m : Move) (ps : List Placed) (x : Placed) → slice_get parts i ≡ Some ps → slice_get ps (get_or cs i 0) ≡ Some x → IsNext (moves_in parts) w (count_of cs) i k m → x.what ≡ m
next_is parts cs w i k m ps x there at next = at_place ps (get_or cs i 0) x m at (ap (λ (o : Option (List Placed)). slice_get (map what_of (part_of o)) (get_or cs i 0)) (sym there) ∙ next.0)

-- a node with a next move has a part
next_part : (parts : List (List Placed)) (cs : List ℕ) (w : World) (i k : ℕ) (m : Move) → IsNext (moves_in parts) w (count_of cs) i k m → (ps : List Placed) × (slice_get parts i ≡ Some ps) × (get_or cs i 0 < length ps)
next_part parts cs w i k m next = found (slice_get parts i) refl next.0
  where
    found : (o : Option (List Placed)) → slice_get parts i ≡ o → slice_get (map what_of (part_of o)) (get_or cs i 0) ≡ Some m → (ps : List Placed) × (slice_get parts i ≡ Some ps) × (get_or cs i 0 < length ps)
    found None is e = absurd cc
    found (Some ps) is e = let lt = slice_get_within (map what_of ps) (get_or cs i 0) m e in let len = length-map ps what_of in (ps, is, omega arith)

-- what one turn of the merge leaves
pub taken : (start w w' : World) (parts : List (List Placed)) (cs : List ℕ) (i k : ℕ) (ps qs : List Placed) (x : Placed) → ps ≡ slice_index_or parts i ps → qs ≡ ps → x ≡ slice_index_or qs (get_or cs i 0) x →
    (next : HasNext parts w cs i k) →
    w' ≡ (world_step w (event_of i k (slice_index_or qs (get_or cs i 0) x).what)).world → IsWithin parts cs → IsReached start parts w cs →
    (IsWithin parts (slice_set cs i (get_or cs i 0 + 1)) × IsReached start parts w' (slice_set cs i (get_or cs i 0 + 1))) × (left_of parts (slice_set cs i (get_or cs i 0 + 1)) < left_of parts cs) × (i < length cs)
taken start w w' parts cs i k ps qs x at same there next is within reached =
    let m = next.0 in
    let part = next_part parts cs w i k m next.1 in
    let lt : i < length parts = slice_get_within parts i part.0 part.1 in
    let own : slice_get parts i ≡ Some ps = slice_get_read parts (length parts) i ps refl lt at in
    let one : part.0 ≡ ps = some_one part.0 ps (sym part.1 ∙ own) in
    let few : get_or cs i 0 < length ps = subst (λ (l : List Placed). get_or cs i 0 < length l) one part.2 in
    let there' : x ≡ slice_index_or ps (get_or cs i 0) x = there ∙ ap (λ (l : List Placed). slice_index_or l (get_or cs i 0) x) same in
    let placed : slice_get ps (get_or cs i 0) ≡ Some x = slice_get_read ps (length ps) (get_or cs i 0) x refl few there' in
    let what : (slice_index_or qs (get_or cs i 0) x).what ≡ m = ap what_of (sym there) ∙ next_is parts cs w i k m ps x own placed next.1 in
    let event : w' ≡ (world_step w (event_of i k m)).world = is ∙ ap (λ (y : Move). (world_step w (event_of i k y)).world) what in
    let len = within.0 in
    let small : i < length cs = omega arith in
    ((within_more parts cs i ps own small few within, reached_more start w w' parts cs i k m small reached next.1 event), smaller parts cs i ps own small few, small)
  where
    some_one : (p q : List Placed) → Some p ≡ Some q → p ≡ q
    some_one p q e = cc

-- one zero more
pub zeros_more : (xs : List ℕ) → ((i : ℕ) → get_or xs i 0 ≡ 0) → (i : ℕ) → get_or (xs ++ 0 ∷ []) i 0 ≡ 0
zeros_more [] all zero = refl
zeros_more [] all (suc i) = refl
zeros_more (x ∷ xs) all zero = all 0
zeros_more (x ∷ xs) all (suc i) = zeros_more xs (λ j. all (suc j)) i
