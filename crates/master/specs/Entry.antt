-- The entries of the master's log as bytes.
use Rattle.std.specs.Prelude.{◌≤◌, ℕ, ◌==◌, ◌&&◌, nat_le, List, [], ◌∷◌, Option, Some, None, if◌then◌else◌}
use Rattle.std.specs.Int.{w32, to_le_bytes, from_le_bytes}
use Rattle.master.specs.declared.entry.Entry.{Entry}
use Rattle.master.specs.declared.entry.Entry.TheVariants.{Begin, Promote, Allocate, Add, Remove}
use Rattle.master.specs.declared.state.Request.{Request}
use Rattle.master.specs.declared.state.Request.TheVariants as request

-- a tag, and the number of copies or the id
abbrev pub spelled : Entry → List ℕ
spelled (Begin copies) = 1 ∷ copies ∷ []
spelled (Promote id) = 2 ∷ to_le_bytes w32 id
spelled Allocate = 3 ∷ []
spelled (Add id) = 4 ∷ to_le_bytes w32 id
spelled (Remove id) = 5 ∷ to_le_bytes w32 id

-- an index begins with one copy to five
abbrev pub begin_of : ℕ → Option Entry
begin_of copies = if nat_le 1 copies && nat_le copies 5 then Some (Begin copies) else None

-- the entry of a tag and an id
abbrev pub named : ℕ → ℕ → Option Entry
named tag id = if tag == 2 then Some (Promote id) else (if tag == 4 then Some (Add id) else (if tag == 5 then Some (Remove id) else None))

-- the entry that some bytes are, if they are one
abbrev pub entry_of : List ℕ → Option Entry
entry_of [] = None
entry_of (tag ∷ []) = if tag == 3 then Some Allocate else None
entry_of (tag ∷ copies ∷ []) = if tag == 1 then begin_of copies else None
entry_of (tag ∷ a ∷ b ∷ []) = None
entry_of (tag ∷ a ∷ b ∷ c ∷ []) = None
entry_of (tag ∷ a ∷ b ∷ c ∷ d ∷ []) = named tag (from_le_bytes w32 (a ∷ b ∷ c ∷ d ∷ []))
entry_of (tag ∷ a ∷ b ∷ c ∷ d ∷ e ∷ more) = None

-- an entry that may stand in a log: an index begins with one copy to five
abbrev pub IsEntry : Entry → Type 0
IsEntry (Begin copies) = (1 ≤ copies) × (copies ≤ 5)
IsEntry (Promote id) = Unit {0}
IsEntry Allocate = Unit {0}
IsEntry (Add id) = Unit {0}
IsEntry (Remove id) = Unit {0}

-- the entry of a request that is accepted
abbrev pub entry_for : Request → Entry
entry_for (request.Promote id) = Promote id
entry_for request.Allocate = Allocate
entry_for (request.Synced term id) = Add id
entry_for (request.Fail term id) = Remove id
