-- The steps of the published list keep its rule.
use Rattle.std.proofs.Common.{◌≡◌, ◌≢◌, ℕ, List, [], ◌∷◌, ◌++◌, set, refl, subst, ⊎_elim}
use mathlib.Core.Option.{some}
use lib.ListN.{get_elem?}
use Rattle.left_right.specs.Register.{Admits, TurnsAt, Forks, Merges}
use Rattle.atomic_table.proofs.Lists.{at_set, at_snoc}
use Rattle.published.specs.declared.listing.Published.{Published}
use Rattle.published.specs.declared.latest.Latest.{Latest}
use Rattle.published.specs.Listings.{ComesAfter, ComesAfterAll}
use Rattle.published.specs.Rule.{Keeps, Sees, published}
use Rattle.published.proofs.Orders.{self-ComesAfter, trans-ComesAfterAll, append-ComesAfterAll}

pub admits : Admits Keeps []
admits x views h seat known at = ⊎_elim (h seat known) (λ (e : [] ≡ known). subst (λ (z : List Published). ComesAfterAll (published x) z) e tt) (at_snoc views [] known seat at)

-- what is published next comes after what was: the rule stays, and whoever looks knows it
pub turns : (seat : ℕ) (known : List Published) (x y : Latest) → ComesAfter (published y) (published x) → TurnsAt Keeps seat known x y Sees
turns seat known x y on views h at = (
  published y ∷ [],
  (λ j u e. ⊎_elim (λ (t : (j ≡ seat) × (published y ∷ [] ≡ u)). subst (λ (z : List Published). ComesAfterAll (published y) z) t.1 (self-ComesAfter (published y), tt))
      (λ (t : (j ≢ seat) × (get_elem? views j ≡ some u)). trans-ComesAfterAll u (published x) (published y) (h j u t.1) on)
      (at_set views seat j (published y ∷ []) u e)),
  (trans-ComesAfterAll known (published x) (published y) (h seat known at) on, refl),
)

pub looks : (seat : ℕ) (known : List Published) (x : Latest) → TurnsAt Keeps seat known x x Sees
looks seat known x = turns seat known x x (self-ComesAfter (published x))

set_known : (x : Latest) (views : List (List Published)) (seat : ℕ) (known : List Published) → Keeps x views → ComesAfterAll (published x) known → Keeps x (set views seat known)
set_known x views seat known h on j u e = ⊎_elim (λ (t : (j ≡ seat) × (known ≡ u)). subst (λ (z : List Published). ComesAfterAll (published x) z) t.1 on) (λ (t : (j ≢ seat) × (get_elem? views j ≡ some u)). h j u t.1) (at_set views seat j known u e)

pub forks : (seat : ℕ) (known : List Published) → Forks Keeps seat known known known
forks seat known x views h at j u e = ⊎_elim (set_known x views seat known h (h seat known at) j u) (λ (same : known ≡ u). subst (λ (z : List Published). ComesAfterAll (published x) z) same (h seat known at)) (at_snoc (set views seat known) known u j e)

pub merges : (seat : ℕ) (known : List Published) (other : ℕ) (told : List Published) → Merges Keeps seat known other told (known ++ told) []
merges seat known other told x views h at apart there = let a = h seat known at in
    let b : ComesAfterAll (published x) told = ⊎_elim (λ (t : (other ≡ seat) × (known ++ told ≡ told)). absurd (apart t.0)) (λ (t : (other ≢ seat) × (get_elem? views other ≡ some told)). h other told t.1) (at_set views seat other (known ++ told) told there) in
    set_known x (set views seat (known ++ told)) other [] (set_known x views seat (known ++ told) h (append-ComesAfterAll known told (published x) a b)) tt
