-- Places of copies' journals, with the records that a copy has there.
use Rattle.std.specs.Prelude.{◌≡◌, ℕ, List, [], ◌∷◌}
use Rattle.std.specs.List.{AllByRecursion}
use Rattle.chronicle.specs.Written.{Line}
use Rattle.op.specs.declared.record.Record.{Record}
use Rattle.op.specs.Records.{IsRecord}
use Rattle.replica.specs.Copy.{Copy}
use Rattle.journal.specs.declared.journal.Deed.{Deed}
use Rattle.journal.specs.Journal.{IsLegal, after, open_at}

-- which registry the journal is of, the copy's number, the entries before the place, and the records
pub record PlaceData : Type 0 where
  pub registry : Line
  pub node : ℕ
  pub deeds : List Deed
  pub records : List Record

abbrev pub place_at : Line → ℕ → List Deed → List Record → PlaceData
place_at registry node deeds records = record { registry = registry; node = node; deeds = deeds; records = records }

-- the records are those of the copy with this number after a legal journal with these entries
pub record IsStanding (node : ℕ) (deeds : List Deed) (records : List Record) : Type 0 where
  pub opening : Copy
  pub sound : AllByRecursion IsRecord opening.records
  pub legal : IsLegal (open_at opening) 0 deeds
  pub node_is : opening.id ≡ node
  pub records_is : records ≡ (after (open_at opening) 0 deeds).copy.records

-- they are so after the journal that began with one copy
pub record IsStandingSince (began : List Copy) (node : ℕ) (deeds : List Deed) (records : List Record) : Type 0 where
  pub opening : Copy
  pub is : began ≡ opening ∷ []
  pub sound : AllByRecursion IsRecord opening.records
  pub legal : IsLegal (open_at opening) 0 deeds
  pub node_is : opening.id ≡ node
  pub records_is : records ≡ (after (open_at opening) 0 deeds).copy.records
