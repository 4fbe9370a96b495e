-- The shapes of JSON values in a query, or `parsing`.
use Rattle.std.specs.Prelude.{ℕ, Bool, true, false, ◌||◌, List, codes, Option, Some, None, Result, Ok, Err, if◌then◌else◌, ⊤}
use Rattle.std.specs.Str.{bytes_eq}
use Rattle.serde_json.specs.Data.{unsigned, negative, float, Data, null, boolean, number, string, array, object, Members, no_members, member}
use Rattle.serde_json.specs.Find.{get}
use Rattle.doc.specs.Entries.{elements}
use Rattle.doc.specs.Mapping.{all_keys}
use Rattle.doc.specs.Outcome.{◌>>=◌}
use Rattle.query.specs.Fault.{Fault, parsing}

abbrev pub members_of : Data → Result Members Fault
members_of null = Err parsing
members_of (boolean b) = Err parsing
members_of (number n) = Err parsing
members_of (string s) = Err parsing
members_of (array ds) = Err parsing
members_of (object ms) = Ok ms

-- the one member of an object
abbrev pub only : Members → Result (List ℕ × Data) Fault
only no_members = Err parsing
only (member k d no_members) = Ok (k, d)
only (member k d (member l e ms)) = Err parsing

unfoldable pub only_of : Data → Result (List ℕ × Data) Fault
only_of d = do
  ms ← members_of d
  only ms

abbrev pub required : Option Data → Result Data Fault
required None = Err parsing
required (Some d) = Ok d

abbrev pub text_in : Data → Result (List ℕ) Fault
text_in null = Err parsing
text_in (boolean b) = Err parsing
text_in (number n) = Err parsing
text_in (string s) = Ok s
text_in (array ds) = Err parsing
text_in (object ms) = Err parsing

abbrev pub items_in : Data → Result (List Data) Fault
items_in null = Err parsing
items_in (boolean b) = Err parsing
items_in (number n) = Err parsing
items_in (string s) = Err parsing
items_in (array ds) = Ok (elements ds)
items_in (object ms) = Err parsing

-- a value is neither null nor an object nor an array
abbrev pub is_value : Data → Bool
is_value null = false
is_value (boolean b) = true
is_value (number n) = true
is_value (string s) = true
is_value (array ds) = false
is_value (object ms) = false

abbrev pub plain : Data → Result Data Fault
plain d = if is_value d then Ok d else Err parsing

-- a whole number from 0 up, and `absent` where there is none
abbrev pub whole_number : ℕ → Option Data → Result ℕ Fault
whole_number absent None = Ok absent
whole_number absent (Some null) = Err parsing
whole_number absent (Some (boolean b)) = Err parsing
whole_number absent (Some (number (unsigned n))) = Ok n
whole_number absent (Some (number (negative z))) = Err parsing
whole_number absent (Some (number (float x))) = Err parsing
whole_number absent (Some (string s)) = Err parsing
whole_number absent (Some (array ds)) = Err parsing
whole_number absent (Some (object ms)) = Err parsing

-- ---- objects of named keys

abbrev pub check : Bool → Result ⊤ Fault
check true = Ok tt
check false = Err parsing

-- `boost` and `_name` are read over
abbrev pub is_ignored : List ℕ → Bool
is_ignored k = bytes_eq k (codes "boost") || bytes_eq k (codes "_name")

-- an object whose keys are named, those that are read over aside
unfoldable pub named : (List ℕ → Bool) → Data → Result ⊤ Fault
named is_named d = do
  ms ← members_of d
  check (all_keys (λ k. is_named k || is_ignored k) ms)

abbrev pub is_object : Data → Bool
is_object null = false
is_object (boolean b) = false
is_object (number n) = false
is_object (string s) = false
is_object (array ds) = false
is_object (object ms) = true

-- the value of a field's long form, an object of named keys
unfoldable pub long_form : (List ℕ → Bool) → List ℕ → Data → Result Data Fault
long_form is_named name d = do
  known ← named is_named d
  v ← required (get name d)
  plain v

-- the value of a field's short form, or that of its long form
abbrev pub value_of : (List ℕ → Bool) → List ℕ → Data → Result Data Fault
value_of is_named name d = if is_object d then long_form is_named name d else plain d

abbrev pub is_value_key : List ℕ → Bool
is_value_key k = bytes_eq k (codes "value")

abbrev pub is_field_key : List ℕ → Bool
is_field_key k = bytes_eq k (codes "field")

abbrev pub is_match_key : List ℕ → Bool
is_match_key k = bytes_eq k (codes "query") || bytes_eq k (codes "operator")

abbrev pub is_range_key : List ℕ → Bool
is_range_key k = bytes_eq k (codes "gt") || bytes_eq k (codes "gte") || bytes_eq k (codes "lt") || bytes_eq k (codes "lte")

abbrev pub is_bool_key : List ℕ → Bool
is_bool_key k = bytes_eq k (codes "filter") || bytes_eq k (codes "must") || bytes_eq k (codes "must_not") || bytes_eq k (codes "should") || bytes_eq k (codes "minimum_should_match")
