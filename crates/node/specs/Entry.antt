-- An entry of a journal.
use Rattle.std.specs.Prelude.{◌≡◌, ℕ, ◌+◌, false, List, [], ◌∷◌, length, Some, slice_get}
use Rattle.std.specs.List.{AllByRecursion}
use Rattle.op.specs.Records.{IsRecord}
use Rattle.replica.specs.Copy.{Copy, begun}
use Rattle.journal.specs.declared.journal.Deed.{Deed}
use Rattle.journal.specs.Journal.{IsLegal, open_at}

-- what a call leaves with its caller: the node and the place of its entry, the entry, and all entries of the journal up to it
pub record Receipt : Type 0 where
  pub node : ℕ
  pub place : ℕ
  pub deed : Deed
  pub deeds : List Deed

-- the records of the copy keep their rules
abbrev pub HasSoundRecords : Copy → Type 0
HasSoundRecords c = AllByRecursion IsRecord c.records

-- the first of some copies (a held copy has noted one, as it was at the beginning)
abbrev pub opening_of : List Copy → Copy
opening_of [] = begun 0 0 (record { strict = false; fields = [] })
opening_of (c ∷ cs) = c

-- they are those of a legal journal of the copy with this id
pub record IsJournalOf (node : ℕ) (deeds : List Deed) : Type 0 where
  pub opening : Copy
  pub sound : HasSoundRecords opening
  pub legal : IsLegal (open_at opening) 0 deeds
  pub node_is : opening.id ≡ node

-- the receipt's entry is the last of a legal journal that began with this copy
pub record IsEntryFrom (opening : Copy) (r : Receipt) : Type 0 where
  pub sound : HasSoundRecords opening
  pub legal : IsLegal (open_at opening) 0 r.deeds
  pub node_is : opening.id ≡ r.node
  pub last : r.place + 1 ≡ length r.deeds
  pub stands : slice_get r.deeds r.place ≡ Some r.deed

-- the entry stands at this place in a legal journal of the copy with this id
pub record IsEntryAt (node place : ℕ) (deed : Deed) : Type 0 where
  pub opening : Copy
  pub deeds : List Deed
  pub legal : IsLegal (open_at opening) 0 deeds
  pub node_is : opening.id ≡ node
  pub stands : slice_get deeds place ≡ Some deed

-- the receipt's entry is the last of these
pub record IsEntry (r : Receipt) : Type 0 where
  pub journal : IsJournalOf r.node r.deeds
  pub last : r.place + 1 ≡ length r.deeds
  pub stands : slice_get r.deeds r.place ≡ Some r.deed
