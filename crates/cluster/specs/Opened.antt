-- What a cluster was opened from.
use Rattle.std.specs.Prelude.{◌≡◌, ◌⊎◌, ℕ, ◌<◌, ◌+◌, List, [], ◌∷◌, ◌++◌, length, map, Option, Some, None, Ok}
use Rattle.std.specs.List.{AllByRecursion}
use mathlib.Core.List.{IsPrefix}
use mathlib.Core.HLevel.{×_prop, Unit-prop}
use denote.Struct.Props as logic
use Rattle.doc.specs.Mapping.{MappingData}
use Rattle.master.specs.declared.state.Decision.{Decision}
use Rattle.master.specs.declared.state.Request.TheVariants.{Promote}
use Rattle.master.specs.declared.state.State.{State}
use Rattle.master.specs.Log.{kept_state}
use Rattle.master.specs.Logged.{begun_state}
use Rattle.op.specs.declared.record.Record.{Record}
use Rattle.op.specs.Operations.{next_seq}
use Rattle.replica.specs.Copy.{Copy, begun, opened, operations}
use Rattle.ruled.specs.declared.entry.MasterEntry.{MasterEntry}
use Rattle.ruled.specs.declared.entry.MasterEntry.TheVariants.{Opened as Began}
use Rattle.ruled.specs.Entries.{IsDecided, IsKnown}
use Rattle.translog.specs.Kept.{kept}
use Rattle.translog.specs.declared.fault.LogFault.{LogFault}
use Rattle.cluster.specs.declared.fault.Unopened.{Unopened}
use Rattle.cluster.specs.declared.opening.Opened.{Opened}
use Rattle.cluster.specs.Given.{GivenData, IsGiven}
use Rattle.cluster.specs.Opening.{birth_of, leader_of, BeganWith, ReadyData}

-- the copy begins with the records that a device of its node held, in an index that began with `count` copies
pub record HasKept (gave : List GivenData) (m : MappingData) (count : ℕ) (c : Copy) : Type 0 where
  pub bytes : List ℕ
  pub from : IsGiven gave c.id bytes
  pub records : List Record
  pub read : kept bytes ≡ Ok records
  pub copy_is : c ≡ opened c.id (birth_of c.id count) m records

-- each copy with one of these ids was opened, or is listed as not, in order of the ids
abbrev pub AreOpened : List ℕ → List Copy → List Unopened → Type 0
AreOpened [] [] [] = Unit {0}
AreOpened [] [] (u ∷ us) = ⊥
AreOpened [] (c ∷ cs) us = ⊥
AreOpened (id ∷ ids) [] [] = ⊥
AreOpened (id ∷ ids) [] (u ∷ us) = (u.copy ≡ id) × AreOpened ids [] us
AreOpened (id ∷ ids) (c ∷ cs) [] = (c.id ≡ id) × AreOpened ids cs []
AreOpened (id ∷ ids) (c ∷ cs) (u ∷ us) = ((c.id ≡ id) × AreOpened ids cs (u ∷ us)) ⊎ ((u.copy ≡ id) × AreOpened ids (c ∷ cs) us)

-- the copy that is to be served
abbrev pub copy_of : ReadyData → Copy
copy_of r = r.copy

-- each copy has a greater id than the one before it, and than this
abbrev pub IdsRiseFrom : ℕ → List Copy → Type 0
IdsRiseFrom id [] = Unit {0}
IdsRiseFrom id (c ∷ cs) = (id < c.id) × IdsRiseFrom c.id cs

-- which has one proof at most
pub IdsRiseFrom-prop : (id : ℕ) (cs : List Copy) → IsProp (IdsRiseFrom id cs)
IdsRiseFrom-prop id [] = Unit-prop
IdsRiseFrom-prop id (c ∷ cs) = ×_prop (Prim.hlevel logic.props) (IdsRiseFrom-prop c.id cs)

-- the id of the last of some copies; this one where there is none
abbrev pub last_id : ℕ → List Copy → ℕ
last_id id [] = id
last_id id (c ∷ cs) = last_id c.id cs

-- a copy that opened, and the number after its last operation
abbrev pub ended : Copy → Opened
ended c = record { copy = c.id; next = next_seq (operations c) }

-- one more was opened
pub record IsOpenedAs (gave : List GivenData) (m : MappingData) (count id : ℕ) (old new : List Copy) (x : Opened) : Type 0 where
  pub copy : Copy
  pub id_is : copy.id ≡ id
  pub more : new ≡ old ++ copy ∷ []
  pub kept : HasKept gave m count copy
  pub end : x ≡ ended copy

-- one more is listed that wasn't
pub record IsLeftOut (id : ℕ) (old new : List Unopened) : Type 0 where
  pub copy : Unopened
  pub id_is : copy.copy ≡ id
  pub more : new ≡ old ++ copy ∷ []

-- the copies with these ids were opened, where they could be, with the records of their devices
pub record AreTried (gave : List GivenData) (m : MappingData) (count : ℕ) (ids : List ℕ) (began : List Copy) (unopened : List Unopened) (os : List Opened) : Type 0 where
  pub copies : AreOpened ids began unopened
  pub kept : AllByRecursion (HasKept gave m count) began
  pub ends : os ≡ map ended began

-- the last decision makes the copy the primary
pub record IsPromoted (copy : ℕ) (past : List MasterEntry) : Type 0 where
  pub decision : Decision
  pub decided : IsDecided (Promote copy) decision past

-- the last decision makes the copy the primary; or the copy led last, and no other leads while the master's log keeps no decision
abbrev pub LeadsBy : Option LogFault → ℕ → ℕ → List MasterEntry → Type 0
LeadsBy None last leader past = IsPromoted leader past
LeadsBy (Some fault) last leader past = leader ≡ last

-- of the copies that were in sync, as the master knew after some of its entries, each was opened, or is listed as not; and the one leads that is to lead of
-- those that opened, unless the master's log has this fault
pub record IsLed (gave : List GivenData) (m : MappingData) (count : ℕ) (began : List Copy) (unopened : List Unopened) (unled : Option LogFault) (past : List MasterEntry) : Type 0 where
  pub before : List MasterEntry
  pub state : State
  pub known : IsKnown before state
  pub since : IsPrefix before past
  pub tried : AreTried gave m count state.in_sync began unopened (map ended began)
  pub leader : ℕ
  pub leads : leader_of state.primary (map ended began) ≡ Some leader
  pub by : LeadsBy unled state.primary leader past

-- the index that devices held, where the master's held these bytes, and which began with `count` copies: the master began with what its log kept, each
-- copy in sync that opened with the records of its own device, and one of these leads
pub record IsReopened (gave : List GivenData) (bytes : List ℕ) (m : MappingData) (count : ℕ) (began : List Copy) (unopened : List Unopened) (unled : Option LogFault) (past : List MasterEntry) : Type 0 where
  pub first : State
  pub read : kept_state bytes ≡ Ok first
  pub master : IsPrefix (Began first ∷ []) past
  pub led : IsLed gave m count began unopened unled past

-- they are those of a new index of n copies, from this id on
abbrev pub AreNew : MappingData → ℕ → ℕ → List Copy → Type 0
AreNew m n id [] = Unit {0}
AreNew m n id (c ∷ cs) = (c ≡ begun id n m) × AreNew m n (id + 1) cs

-- a new index of n copies, where the master's device held these bytes
pub record IsNewIndex (bytes : List ℕ) (m : MappingData) (n : ℕ) (began : List Copy) (past : List MasterEntry) : Type 0 where
  pub first : State
  pub read : begun_state n bytes ≡ Ok first
  pub master : past ≡ Began first ∷ []
  pub all : length began ≡ n
  pub copies : AreNew m n 1 began

-- a cluster was started over devices that were given out
pub record IsStarted (gave : List GivenData) (m : MappingData) (n : ℕ) (began : List Copy) (past : List MasterEntry) : Type 0 where
  pub bytes : List ℕ
  pub from : IsGiven gave 0 bytes
  pub new : IsNewIndex bytes m n began past

-- a new index where the master's device held no frame, else the index that the devices held
abbrev pub IsOpenedBy : Option ℕ → List GivenData → List ℕ → MappingData → ℕ → List Copy → List Unopened → Option LogFault → List MasterEntry → Type 0
IsOpenedBy None gave bytes m n began unopened unled past = IsNewIndex bytes m n began past
IsOpenedBy (Some count) gave bytes m n began unopened unled past = IsReopened gave bytes m count began unopened unled past

-- a cluster was opened from devices that were given out
pub record IsOpened (gave : List GivenData) (m : MappingData) (n : ℕ) (began : List Copy) (unopened : List Unopened) (unled : Option LogFault) (past : List MasterEntry) : Type 0 where
  pub bytes : List ℕ
  pub from : IsGiven gave 0 bytes
  pub count : Option ℕ
  pub began_with : BeganWith bytes count
  pub is : IsOpenedBy count gave bytes m n began unopened unled past
