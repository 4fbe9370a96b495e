-- Copies that are refreshed one after another.
use Rattle.std.proofs.Common.{◌≡◌, ◌<◌, ◌≤◌, ◌+◌, ℕ, true, List, [], ◌∷◌, ◌++◌, sym, subst, arith}
use Rattle.std.specs.Prelude.{IsOk}
use Rattle.master.specs.declared.state.State.{State}
use Rattle.node.specs.Entry.{Receipt, IsEntry}
use Rattle.op.specs.Ids.{has}
use Rattle.replica.specs.declared.input.Input.TheVariants.{Refresh}
use Rattle.cluster.specs.Confirmed.{IsAnswerTo}
use Rattle.cluster.specs.Refreshed.{AreAbove, AreBelow, AreRefreshed, AreSoFar, IsRefreshOf}
use Rattle.ruled.specs.declared.entry.MasterEntry.{MasterEntry}
use Rattle.ruled.specs.Entries.{IsKnown}

pub refreshed_by : (copy : ℕ) (r : Receipt) → IsAnswerTo copy Refresh r × IsEntry r × IsOk r.deed.answer → IsRefreshOf copy r
refreshed_by copy r is = record { answers = is.0; stands = is.1; accepted = is.2 }

-- what is below an id is below a greater one
below_more : (id more : ℕ) (rs : List Receipt) → id ≤ more → AreBelow id rs → AreBelow more rs
below_more id more [] le below = tt
below_more id more (r ∷ rs) le below = (omega (arith, below.0, le), below_more id more rs le below.1)

below_snoc : (id : ℕ) (rs : List Receipt) (r : Receipt) → AreBelow id rs → r.node < id → AreBelow id (rs ++ r ∷ [])
below_snoc id [] r below lt = (lt, tt)
below_snoc id (x ∷ rs) r below lt = (below.0, below_snoc id rs r below.1 lt)

-- one more, of a greater id than all of them
above_snoc : (s : State) (id : ℕ) (rs : List Receipt) (r : Receipt) → AreAbove s id rs → AreBelow r.node rs → id < r.node → has s.in_sync r.node ≡ true → IsRefreshOf r.node r → AreAbove s id (rs ++ r ∷ [])
above_snoc s id [] r above below lt synced is = (lt, synced, is, tt)
above_snoc s id (x ∷ rs) r above below lt synced is = (above.0, above.1, above.2, above_snoc s x.node rs r above.3 below.1 below.0 synced is)

pub none_so_far : (s : State) → AreSoFar s 1 []
none_so_far s = record { some = omega arith; each = tt; below = tt }

pub no_more : (s : State) (id : ℕ) (rs : List Receipt) → AreSoFar s id rs → AreSoFar s (id + 1) rs
no_more s id rs is = record { some = omega arith; each = is.each; below = below_more id (id + 1) rs (omega arith) is.below }

pub one_more : (s : State) (id : ℕ) (rs : List Receipt) (r : Receipt) → AreSoFar s id rs → IsRefreshOf id r → has s.in_sync id ≡ true → AreSoFar s (id + 1) (rs ++ r ∷ [])
one_more s id rs r is new synced =
    let node : r.node ≡ id = new.answers.node_is in
    record {
      some = omega arith;
      each = above_snoc s 0 rs r is.each (subst (λ n. AreBelow n rs) (sym node) is.below) (omega (arith, node, is.some)) (subst (λ n. has s.in_sync n ≡ true) (sym node) synced) (subst (λ n. IsRefreshOf n r) (sym node) new);
      below = below_snoc (id + 1) rs r (below_more id (id + 1) rs (omega arith) is.below) (omega (arith, node));
    }

pub all_so_far : (s : State) (id : ℕ) (rs : List Receipt) → AreSoFar s id rs → AreAbove s 0 rs
all_so_far s id rs is = is.each

pub are_refreshed : (past : List MasterEntry) (s : State) (primary : ℕ) (rs : List Receipt) → IsKnown past s → primary ≡ s.primary → AreAbove s 0 rs → AreRefreshed past primary rs
are_refreshed past s primary rs known leads each = record { state = s; known = known; leads = leads; each = each }
