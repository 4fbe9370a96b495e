-- Writes of a bulk whose records are kept together with those of the writes after them.
-- For proofs alone.
use Rattle.std.specs.Prelude.{◌≡◌, ℕ, suc, false, ◌≤◌, List, [], ◌∷◌, ◌++◌, length}
use Rattle.std.specs.List.{AllByRecursion}
use Rattle.op.specs.declared.record.Record.{Record}
use Rattle.op.specs.declared.record.Record.TheVariants.{Op as Kept, Resync, Recover}
use Rattle.op.specs.Format.{is_too_large}
use Rattle.op.specs.Operations.{IsAscending, next_seq}
use Rattle.op.specs.Records.{IsRecord}
use Rattle.replica.specs.declared.role.Role.TheVariants.{Primary}
use Rattle.replica.specs.declared.state.drafting.Draft.{Draft}
use Rattle.replica.specs.Copy.{Copy, operations}
use Rattle.replica.specs.Standing.{placed_all, IsStanding}
use Rattle.replica.specs.Step.{Folded}

-- the copy that the writes so far leave
abbrev pub drafted : Copy → Draft → Copy
drafted c d = placed_all c d.records.items d.known (Primary d.lead)

-- and all that they give
abbrev pub folding : Copy → Draft → Folded
folding c d = record { copy = drafted c d; items = d.items.items; sent = d.sent.items; acknowledged = d.acknowledged.items }

-- all are operations that keep the rules, and their numbers rise from n to below m
abbrev pub RiseTo : ℕ → List Record → ℕ → Type 0
RiseTo n [] m = n ≤ m
RiseTo n (Kept g o ∷ rs) m = IsRecord (Kept g o) × (n ≤ o.seq) × RiseTo (suc o.seq) rs m
RiseTo n (Resync term g tail ∷ rs) m = ⊥
RiseTo n (Recover term all ∷ rs) m = ⊥

-- the records follow those of the copy, and their operations are found ahead
pub record IsDrafted (c : Copy) (d : Draft) : Type 0 where
  pub rise : RiseTo (next_seq (operations c)) d.records.items d.next
  pub next : d.next ≡ next_seq (operations (drafted c d))
  pub up : IsAscending (operations (drafted c d))
  pub ahead : operations (drafted c d) ≡ operations c ++ d.ahead
  pub standing : IsStanding (drafted c d)
  pub small : AllByRecursion (λ r. is_too_large r ≡ false) d.records.items
  pub few : length d.records.items ≤ length d.items.items
