-- The elements of an array.
use Rattle.std.proofs.Common.{◌≡◌, suc, List, [], ◌∷◌, length, refl, ap}
use Rattle.serde_json.specs.View.{items_view}
use Rattle.serde_json.specs.declared.value.Value.{Value}
use Rattle.doc.specs.Entries.{elements}

-- there are as many as values
pub length-elements : (vs : List Value) → length (elements (items_view vs)) ≡ length vs
length-elements [] = refl
length-elements (v ∷ vs) = ap suc (length-elements vs)
