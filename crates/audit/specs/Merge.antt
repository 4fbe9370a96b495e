-- Moves as lists, and how far a merge has come.
use Rattle.std.specs.Prelude.{◌≡◌, ℕ, ◌<◌, ◌≤◌, ◌+◌, ◌-◌, List, [], ◌∷◌, map, length, slice_get, get_or, Option, Some, None}
use Rattle.world.specs.declared.event.Event.{Event}
use Rattle.audit.specs.declared.merge.Halt.{Halt}
use Rattle.audit.specs.declared.merge.Halt.TheVariants.{At, NoMemory}
use Rattle.journal.specs.declared.moves.Move.{Move}
use Rattle.journal.specs.declared.moves.Placed.{Placed}
use Rattle.world.specs.World.{World, world_after}
use Rattle.audit.specs.Moves.{Moves, Counts, CanGo, IsNext, Leads, IsHaltedFrom}

abbrev pub part_of : Option (List Placed) → List Placed
part_of None = []
part_of (Some ps) = ps

abbrev pub moves_in : List (List Placed) → Moves
moves_in parts i = map (λ p. p.what) (part_of (slice_get parts i))

abbrev pub count_of : List ℕ → Counts
count_of cs i = get_or cs i 0

-- the world is that after a list of events, which leads to these counts
abbrev pub IsReached : World → List (List Placed) → World → List ℕ → Type 0
IsReached start parts w cs = (es : List Event) × Leads (moves_in parts) start (λ i. 0) es (count_of cs) × (w ≡ world_after start es)

-- no node has more moves than its part
abbrev pub IsWithin : List (List Placed) → List ℕ → Type 0
IsWithin parts cs = (length cs ≡ length parts) × ((i : ℕ) → count_of cs i ≤ length (part_of (slice_get parts i)))

-- the next move of some node, with message k
abbrev pub HasNext : List (List Placed) → World → List ℕ → ℕ → ℕ → Type 0
HasNext parts w cs i k = (m : Move) × IsNext (moves_in parts) w (count_of cs) i k m

-- the world is that of a list of events that is made of the parts
abbrev pub IsMerged : World → List (List Placed) → World → Type 0
IsMerged start parts w = (es : List Event) × Leads (moves_in parts) start (λ i. 0) es (λ i. length (moves_in parts i)) × (w ≡ world_after start es)

-- the least node that isn't at its end, and the place of its next move
pub record IsOpenAt (parts : List (List Placed)) (cs : List ℕ) (node place : ℕ) : Type 0 where
  pub unfinished : count_of cs node < length (part_of (slice_get parts node))
  pub least : (j : ℕ) → j < node → count_of cs j ≡ length (part_of (slice_get parts j))
  pub move : Placed
  pub there : slice_get (part_of (slice_get parts node)) (count_of cs node) ≡ Some move
  pub at : move.place ≡ place

-- the merge halts at this node, at the place of its next move
pub record HaltsAt (start : World) (parts : List (List Placed)) (node place : ℕ) : Type 0 where
  pub count : ℕ
  pub halted : IsHaltedFrom start (moves_in parts) node count
  pub move : Placed
  pub there : slice_get (part_of (slice_get parts node)) count ≡ Some move
  pub at : move.place ≡ place

-- the next of these moves of a node, after `count` of them
abbrev pub IsNextOf : List Placed → World → ℕ → ℕ → ℕ → Move → Type 0
IsNextOf ps w count i k m = (slice_get (map (λ p. p.what) ps) count ≡ Some m) × CanGo w i k m

-- these moves have a next one, after `count` of them
abbrev pub HasNextOf : List Placed → World → ℕ → ℕ → ℕ → Type 0
HasNextOf ps w count i k = (m : Move) × IsNextOf ps w count i k m

-- how many moves are left
abbrev pub left_of : List (List Placed) → List ℕ → ℕ
left_of [] cs = 0
left_of (ps ∷ parts) [] = 0
left_of (ps ∷ parts) (c ∷ cs) = (length ps - c) + left_of parts cs

-- what a merge that isn't done tells
abbrev pub HaltsIn : World → List (List Placed) → Halt → Type 0
HaltsIn start parts (At node place) = HaltsAt start parts node place
HaltsIn start parts NoMemory = Unit {0}
