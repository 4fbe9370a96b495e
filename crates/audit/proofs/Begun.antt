-- The copies of a new world, and one that is added.
use Rattle.std.proofs.Common.{◌≡◌, ℕ, zero, suc, true, false, List, [], ◌∷◌, ◌++◌, if◌then◌else◌, Some, None, refl, ap, ◌∙◌, arith}
use Rattle.std.specs.Prelude.{◌==◌, ◌&&◌, ◌||◌, nat_le, nat_lt, map}
use Rattle.std.specs.Option.{option_or}
use Rattle.std.proofs.lemmas.Bool.Decides.{nat_tests}
use Rattle.std.proofs.lemmas.List.Folds.{list_any-append}
use Rattle.doc.specs.Mapping.{MappingData}
use Rattle.op.specs.Ids.{ids_up_to, has}
use Rattle.replica.specs.Copy.{begun}
use Rattle.world.specs.World.{copy_in, new_world}
use Rattle.world.proofs.Beginnings.{has-up_to}

module _ (mapping : MappingData) (n : ℕ) where
  copy_in-map : (ids : List ℕ) (id : ℕ) → copy_in (map (λ r. begun r n mapping) ids) id ≡ (if has ids id then Some (begun id n mapping) else None)
  copy_in-map [] id = refl
  copy_in-map (r ∷ rs) id = (elim (r == id) as (λ b. (r == id) ≡ b → (if b then Some (begun r n mapping) else copy_in (map (λ q. begun q n mapping) rs) id) ≡ (if b || has rs id then Some (begun id n mapping) else None)) [
    | true ↦ λ is. let e : r ≡ id = grind (arith, nat_tests) in ap (λ (q : ℕ). Some (begun q n mapping)) e
    | false ↦ λ is. copy_in-map rs id
  ]) refl

  -- the copy with an id, where there is one
  pub copy_at : (id : ℕ) → copy_in (new_world mapping n).copies id ≡ (if nat_lt 0 id && nat_le id n then Some (begun id n mapping) else None)
  copy_at id = copy_in-map (ids_up_to n) id ∙ rw (has-up_to n id) refl
