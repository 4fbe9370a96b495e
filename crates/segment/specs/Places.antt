-- Places in a list.
use Rattle.std.specs.Prelude.{ℕ, ℤ, ◌-◌, Bool, ◌&&◌, nat_lt, length, slice_index, List, [], ◌∷◌, ◌++◌, if◌then◌else◌, nat_eq, String, Vec, string_bytes, map}
use Rattle.std.specs.List.{list_any, starts_with}
use Rattle.std.specs.Option.{option_map_or}
use Rattle.std.specs.Str.{bytes_eq}
use Rattle.std.specs.BTreeMap as tree
use Rattle.std.specs.BTreeMap.{BTreeMap}
use Rattle.std.specs.Map.{lookup}
use Rattle.std.specs.Ordering.{int_eq}
use Rattle.std.specs.HashMap.{HashMap, get_by_text}
use Rattle.segment.specs.declared.places.Places.{Places}
use Rattle.segment.specs.declared.places.Places.TheVariants.{One, Two, Many}

-- the places, one after another
abbrev pub as_list : Places → List ℕ
as_list (One at) = at ∷ []
as_list (Two both) = both
as_list (Many places) = places.value.items

-- whether a word is among the words
abbrev pub has_word : List ℕ → List (List ℕ) → Bool
has_word w ws = list_any (bytes_eq w) ws

-- whether the last of the places is this one
abbrev pub ends_at : ℕ → List ℕ → Bool
ends_at at ps = nat_lt 0 (length ps) && nat_eq (slice_index ps (length ps - 1)) at

-- the places with this one at the end, where it isn't there
abbrev pub added : List ℕ → ℕ → List ℕ
added ps at = if ends_at at ps then ps else ps ++ at ∷ []

-- one place, or none
abbrev pub one_if : Bool → ℕ → List ℕ
one_if b at = if b then at ∷ [] else []

-- the places of a word, none where the table hasn't it
abbrev pub places_in : {Y S : Type 0} → HashMap (String Y) Places S → List ℕ → List ℕ
places_in m w = option_map_or as_list (get_by_text m w) []

-- the words as bytes
abbrev pub words_of : {Y Z : Type 0} → Vec (String Y) Z → List (List ℕ)
words_of v = map string_bytes v.items

-- the places of a word, none where the dictionary in order hasn't it
abbrev pub places_at : {Y : Type 0} → BTreeMap (String Y) Places → List ℕ → List ℕ
places_at m w = option_map_or as_list (tree.get_by_text m w) []

-- whether one of the words begins with the prefix
abbrev pub has_prefix : List ℕ → List (List ℕ) → Bool
has_prefix p ws = list_any (λ w. starts_with nat_eq w p) ws

-- the places of a number, none where the dictionary hasn't it
abbrev pub places_at_long : BTreeMap ℤ Places → ℤ → List ℕ
places_at_long m z = option_map_or as_list (lookup (int_eq z) m.entries) []

-- those of all pairs whose keys pass, one after another
abbrev pub places_listed : {K : Type 0} → (K → Bool) → List (K × Places) → List ℕ
places_listed p [] = []
places_listed p (e ∷ es) = (if p e.0 then as_list e.1 else []) ++ places_listed p es
