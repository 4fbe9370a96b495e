-- Which lists of events are made of journals, and what an audit answers.
use Rattle.std.specs.Prelude.{◌≡◌, ◌⊎◌, ℕ, zero, suc, ◌<◌, ◌≤◌, List, [], ◌∷◌, map, length, slice_get, Option, Some, None, Result, Ok, Err}
use Rattle.doc.specs.Mapping.{MappingData}
use Rattle.world.specs.declared.event.Event.{Event}
use Rattle.audit.specs.declared.fault.AuditFault.{AuditFault}
use Rattle.audit.specs.declared.fault.AuditFault.TheVariants.{Uncaused, Differs, NoMemory}
use Rattle.journal.specs.declared.journal.Deed.{Deed}
use Rattle.journal.specs.declared.journal.Journal.{Journal}
use Rattle.journal.specs.declared.journal.Journal.TheVariants.{OfMaster as of_master, OfCopy as of_copy}
use Rattle.journal.specs.declared.journal.Ruling.{Ruling}
use Rattle.journal.specs.declared.moves.Placed.{Placed}
use Rattle.journal.specs.Opening.{born}
use Rattle.world.specs.Nodes.{WorldData}
use Rattle.world.specs.World.{World, new_world, world_of}
use Rattle.audit.specs.Moves.{Moves, IsMade, IsHalted}
use Rattle.audit.specs.Given.{AreAll}
use Rattle.journal.specs.Journal.{Standing, open_at, next, IsLegalAt, moves}
use Rattle.journal.specs.Rulings.{Ruler, next_ruler, IsLegalRuling, rulings}
use Rattle.journal.specs.Lawful.{begins_open, IsLawful}

-- the journal of node i begins as node i does in a world of n copies
abbrev pub IsOpening : MappingData → ℕ → ℕ → Journal → Type 0
IsOpening mapping n zero (of_master s rs) = s ≡ (new_world mapping n).master
IsOpening mapping n (suc i) (of_copy c ds) = c ≡ born mapping n (suc i)
IsOpening mapping n zero (of_copy c ds) = ⊥
IsOpening mapping n (suc i) (of_master s rs) = ⊥

-- the first entry that isn't legal stands at this place
abbrev pub FailsAt : Standing → ℕ → List Deed → ℕ → Type 0
FailsAt s place [] at = ⊥
FailsAt s place (d ∷ ds) at = ((at ≡ place) × (IsLegalAt s d → ⊥)) ⊎ (IsLegalAt s d × FailsAt (next s place d) (suc place) ds at)

abbrev pub RulingFailsAt : Ruler → ℕ → List Ruling → ℕ → Type 0
RulingFailsAt s place [] at = ⊥
RulingFailsAt s place (r ∷ rs) at = ((at ≡ place) × (IsLegalRuling s r → ⊥)) ⊎ (IsLegalRuling s r × RulingFailsAt (next_ruler s r) (suc place) rs at)

abbrev pub IsFirstWrong : Journal → ℕ → Type 0
IsFirstWrong (of_master s rs) at = RulingFailsAt (begins_open s) 0 rs at
IsFirstWrong (of_copy c ds) at = FailsAt (open_at c) 0 ds at

-- what the nodes did, each with the place of its first entry
abbrev pub placed_in : Journal → List Placed
placed_in (of_master s rs) = rulings (begins_open s) 0 rs
placed_in (of_copy c ds) = moves (open_at c) 0 ds

abbrev pub placed_of : Option Journal → List Placed
placed_of None = []
placed_of (Some j) = placed_in j

abbrev pub moves_of : List Journal → Moves
moves_of js i = map (λ p. p.what) (placed_of (slice_get js i))

-- a new index has 1 to 5 copies
abbrev pub IsSize : ℕ → Type 0
IsSize n = (1 ≤ n) × (n ≤ 5)

-- the journals below this node begin as the nodes of a new world of n copies, and are legal
abbrev pub PassBelow : MappingData → ℕ → List Journal → ℕ → Type 0
PassBelow mapping n js node = (i : ℕ) (j : Journal) → i < node → slice_get js i ≡ Some j → IsOpening mapping n i j × IsLawful j

-- all of them do
abbrev pub Pass : MappingData → ℕ → List Journal → Type 0
Pass mapping n js = (i : ℕ) (j : Journal) → slice_get js i ≡ Some j → IsOpening mapping n i j × IsLawful j

-- the list of events is made of the journals, one of each node, in a new world of n copies
pub record IsMadeOf (mapping : MappingData) (n : ℕ) (js : List Journal) (es : List Event) : Type 0 where
  pub size : IsSize n
  pub pass : Pass mapping n js
  pub all : AreAll js
  pub made : IsMade mapping n (moves_of js) es

-- the journals pass, and each node has one, but their moves halt at this node, at the place of its next move
pub record IsUncaused (mapping : MappingData) (js : List Journal) (node place : ℕ) : Type 0 where
  pub copies : ℕ
  pub size : IsSize copies
  pub pass : Pass mapping copies js
  pub all : AreAll js
  pub count : ℕ
  pub halted : IsHalted mapping copies (moves_of js) node count
  pub move : Placed
  pub there : slice_get (placed_of (slice_get js node)) count ≡ Some move
  pub at : move.place ≡ place

-- the journal of a node doesn't begin as in a new world, or its entry at this place is the first that isn't legal; those below pass
pub record IsDiffering (mapping : MappingData) (js : List Journal) (node place : ℕ) : Type 0 where
  pub journal : Journal
  pub there : slice_get js node ≡ Some journal
  pub copies : ℕ
  pub below : PassBelow mapping copies js node
  pub wrong : (((n : ℕ) → IsSize n → PassBelow mapping n js node → IsOpening mapping n node journal → ⊥) × (place ≡ 0)) ⊎ (IsSize copies × IsOpening mapping copies node journal × IsFirstWrong journal place)

-- the journals that are there pass, and that of this node is the first that is missing
pub record IsMissing (mapping : MappingData) (js : List Journal) (node place : ℕ) : Type 0 where
  pub copies : ℕ
  pub size : IsSize copies
  pub pass : Pass mapping copies js
  pub lacking : AreAll js → ⊥
  pub next : node ≡ length js
  pub at : place ≡ 0

-- the world of an answer, without the segments of its copies
abbrev pub world_in : Result WorldData AuditFault → Result World AuditFault
world_in (Ok w) = Ok w.world
world_in (Err e) = Err e

-- what an audit of journals of one mapping answers
abbrev pub IsAudited : MappingData → List Journal → Result World AuditFault → Type 0
IsAudited mapping js (Ok w) = (n : ℕ) × (es : List Event) × IsMadeOf mapping n js es × (w ≡ world_of mapping n es)
IsAudited mapping js (Err (Uncaused node place)) = IsUncaused mapping js node place
IsAudited mapping js (Err (Differs node place)) = IsDiffering mapping js node place ⊎ IsMissing mapping js node place
IsAudited mapping js (Err NoMemory) = Unit {0}
