-- Copies that were refreshed.
use Rattle.std.specs.Prelude.{◌≡◌, ◌<◌, ℕ, true, List, [], ◌∷◌, IsOk}
use Rattle.master.specs.declared.state.State.{State}
use Rattle.node.specs.Entry.{Receipt, IsEntry}
use Rattle.op.specs.Ids.{has}
use Rattle.replica.specs.declared.input.Input.TheVariants.{Refresh}
use Rattle.cluster.specs.Confirmed.{IsAnswerTo}
use Rattle.ruled.specs.declared.entry.MasterEntry.{MasterEntry}
use Rattle.ruled.specs.Entries.{IsKnown}

-- the copy has accepted a refresh, by an entry of a legal journal
pub record IsRefreshOf (copy : ℕ) (r : Receipt) : Type 0 where
  pub answers : IsAnswerTo copy Refresh r
  pub stands : IsEntry r
  pub accepted : IsOk r.deed.answer

-- entries of copies that the master knows to be in sync, each of a greater id than the one before it, and than this
abbrev pub AreAbove : State → ℕ → List Receipt → Type 0
AreAbove s id [] = Unit {0}
AreAbove s id (r ∷ rs) = (id < r.node) × (has s.in_sync r.node ≡ true) × IsRefreshOf r.node r × AreAbove s r.node rs

-- copies were refreshed that are in sync as the master knows it after this past, each by one of these entries; and which the primary is
pub record AreRefreshed (past : List MasterEntry) (primary : ℕ) (entries : List Receipt) : Type 0 where
  pub state : State
  pub known : IsKnown past state
  pub leads : primary ≡ state.primary
  pub each : AreAbove state 0 entries

-- each is of a copy with a smaller id than this
abbrev pub AreBelow : ℕ → List Receipt → Type 0
AreBelow id [] = Unit {0}
AreBelow id (r ∷ rs) = (r.node < id) × AreBelow id rs

-- those of the copies with smaller ids were
pub record AreSoFar (s : State) (id : ℕ) (entries : List Receipt) : Type 0 where
  pub some : 0 < id
  pub each : AreAbove s 0 entries
  pub below : AreBelow id entries
