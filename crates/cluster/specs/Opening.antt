-- What devices hold when a cluster is opened.
use Rattle.std.specs.Prelude.{◌≡◌, ℕ, max, nat_le, ◌==◌, ◌&&◌, ◌||◌, Bool, true, false, if◌then◌else◌, List, [], ◌∷◌, Option, Some, None, Ok}
use Rattle.doc.specs.Mapping.{MappingData}
use Rattle.master.specs.declared.entry.Entry.TheVariants.{Begin}
use Rattle.master.specs.Entry.{entry_of}
use Rattle.master.specs.Log.{header}
use Rattle.cluster.specs.declared.opening.Journals.{Journals}
use Rattle.cluster.specs.declared.opening.Journals.TheVariants.{Kept, Unkept}
use Rattle.cluster.specs.declared.opening.Opened.{Opened}
use Rattle.op.specs.declared.record.Record.{Record}
use Rattle.replica.specs.declared.role.Birth.{Birth}
use Rattle.replica.specs.declared.role.Birth.TheVariants.{First, Added}
use Rattle.replica.specs.Copy.{Copy, opened}
use Rattle.translog.specs.Frames.{contents_in}
use Rattle.translog.specs.Kept.{kept}

-- the first frame of a master's log begins an index of this many copies; nothing where there is no frame
abbrev pub IsFirst : List (List ℕ) → Option ℕ → Type 0
IsFirst [] None = Unit {0}
IsFirst [] (Some n) = ⊥
IsFirst (content ∷ contents) None = ⊥
IsFirst (content ∷ contents) (Some n) = entry_of content ≡ Some (Begin n)

-- the index of a master's log began with this many copies
pub record BeganWith (bytes : List ℕ) (count : Option ℕ) : Type 0 where
  pub contents : List (List ℕ)
  pub read : contents_in header bytes ≡ Ok contents
  pub first : IsFirst contents count

-- an index begins with the copies up to this one
abbrev pub birth_of : ℕ → ℕ → Birth
birth_of id count = if nat_le id count then First else Added

-- the greatest number after the last operation of a copy
abbrev pub most_of : List Opened → ℕ
most_of [] = 0
most_of (o ∷ os) = max o.next (most_of os)

-- the first copy that has the operations up to a number
abbrev pub first_with : ℕ → List Opened → Option ℕ
first_with n [] = None
first_with n (o ∷ os) = if o.next == n then Some o.copy else first_with n os

-- whether a copy is there that has the operations up to a number
abbrev pub is_with : ℕ → ℕ → List Opened → Bool
is_with copy n [] = false
is_with copy n (o ∷ os) = ((o.copy == copy) && (o.next == n)) || is_with copy n os

-- the copy that is to lead, of those that opened: the old primary, unless another one has an operation after its last; else the first of those that have most
abbrev pub leader_of : ℕ → List Opened → Option ℕ
leader_of primary os = if is_with primary (most_of os) os then Some primary else first_with (most_of os) os

-- whether memory has the journals
abbrev pub keeps : Journals → Bool
keeps Kept = true
keeps Unkept = false

-- a copy that is to be served, and whether memory is to have its journal, which begins as it does
pub record ReadyData : Type 0 where
  pub kept : Bool
  pub copy : Copy

abbrev pub ready : Bool → Copy → ReadyData
ready kept copy = record { kept = kept; copy = copy }

-- a copy that a log held has the log's records
pub record IsKept (id : ℕ) (birth : Birth) (mapping : MappingData) (bytes : List ℕ) (has : Bool) (r : ReadyData) : Type 0 where
  pub kept_is : r.kept ≡ has
  pub records : List Record
  pub read : kept bytes ≡ Ok records
  pub copy_is : r.copy ≡ opened id birth mapping records
