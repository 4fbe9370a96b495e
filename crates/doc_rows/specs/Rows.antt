-- Worked rows of objects in documents, over JSON values as they are read: of two equal keys the last counts.
use Rattle.std.specs.Prelude.{◌≡◌, ℕ, zero, suc, true, false, List, [], ◌∷◌, codes, Some, None, Result, Ok, Err, pos, fold, replicate}
use Rattle.serde_json.specs.Data.{Data, null, boolean, number, string, array, object, Items, no_items, item, no_members, put, unsigned}
use Rattle.doc.specs.Outcome.{◌>>=◌}
use Rattle.doc.specs.Fault.{Fault, bad_name, not_object, unknown_type, wrong_value, unmapped, too_deep, bad_dynamic}
use Rattle.doc.specs.declared.mapping.Kind.TheVariants.{Keyword, Long}
use Rattle.doc.specs.declared.mapping.Subject.TheVariants.{Values as Leaf, Object}
use Rattle.doc.specs.Scalar.{Scalar, text, long}
use Rattle.doc.specs.Fields.{Fields, kind_at}
use Rattle.doc.specs.Mapping.{mapping_of, members_of}
use Rattle.doc.specs.Document.{Values, fields_of, values_at}

-- ---- JSON as it is written

-- an object of these keys in the order in which they are written
abbrev pub with_keys : List (List ℕ × Data) → Data
with_keys es = object (fold (λ ms e. put e.0 e.1 ms) no_members es)

abbrev pub items_of : List Data → Items
items_of [] = no_items
items_of (d ∷ ds) = item d (items_of ds)

abbrev pub with_items : List Data → Data
with_items ds = array (items_of ds)

abbrev pub whole : ℕ → Data
whole k = number (unsigned k)

abbrev pub x : List ℕ
x = codes "x"

abbrev pub y : List ℕ
y = codes "y"

abbrev pub z : List ℕ
z = codes "z"

abbrev pub k : List ℕ
k = codes "k"

-- within this many objects under the key x
abbrev pub wrapped : ℕ → Data → Data
wrapped zero d = d
wrapped (suc i) d = with_keys ((x, wrapped i d) ∷ [])

-- ---- mappings

abbrev pub typed : List ℕ → Data
typed t = with_keys ((codes "type", string t) ∷ [])

abbrev pub nested : List (List ℕ × Data) → Data
nested es = with_keys ((codes "properties", with_keys es) ∷ [])

abbrev pub keyword : Data
keyword = typed (codes "keyword")

abbrev pub long-field : Data
long-field = typed (codes "long")

-- who has an age and a name
abbrev pub who : Data
who = nested ((codes "who", nested ((codes "name", keyword) ∷ (codes "age", long-field) ∷ [])) ∷ [])

abbrev pub strict-who : Data
strict-who = with_keys ((codes "dynamic", string (codes "strict")) ∷ (codes "properties", with_keys ((codes "who", nested ((codes "name", keyword) ∷ (codes "age", long-field) ∷ [])) ∷ [])) ∷ [])

abbrev pub strict-nothing : Data
strict-nothing = with_keys ((codes "dynamic", string (codes "strict")) ∷ [])

abbrev pub nothing-mapped : Data
nothing-mapped = with_keys []

abbrev pub fields : Data → Result Fields Fault
fields d = mapping_of d >>= λ m. Ok m.fields

-- properties within properties, so many levels with the top's
abbrev pub levels : ℕ → Data
levels zero = keyword
levels (suc i) = nested ((x, levels i) ∷ [])

-- ---- documents

-- what a document gives, or its fault
abbrev pub gives : Data → Data → Result Values Fault
gives mapping d = mapping_of mapping >>= λ m. members_of d >>= λ ms. fields_of m ms

-- the values of a path
abbrev pub values_of : Data → List ℕ → Data → Result (List Scalar) Fault
values_of mapping path d = gives mapping d >>= λ vs. Ok (values_at path vs)

abbrev pub who_name : List ℕ
who_name = codes "who.name"

abbrev pub who_age : List ℕ
who_age = codes "who.age"

abbrev pub as_x : Scalar
as_x = text x

abbrev pub as_y : Scalar
as_y = text y

abbrev pub as_z : Scalar
as_z = text z

-- ---- the rows

pub record Row_mappings : Type 0 where
  pub two : fields who ≡ Ok ((codes "who", Object) ∷ (who_age, Leaf Long) ∷ (who_name, Leaf Keyword) ∷ [])
  -- the order of the walk isn't that of the paths: `a.b` stands before `a-`, since `a` does
  pub order : fields (nested ((codes "a-", keyword) ∷ (codes "a", nested ((codes "b", keyword) ∷ [])) ∷ [])) ≡ Ok ((codes "a", Object) ∷ (codes "a.b", Leaf Keyword) ∷ (codes "a-", Leaf Keyword) ∷ [])
  -- `type` may say object, and nothing else
  pub said : fields (nested ((k, with_keys ((codes "type", string (codes "object")) ∷ (codes "properties", with_keys []) ∷ [])) ∷ [])) ≡ Ok ((k, Object) ∷ [])
  pub said_alone : fields (nested ((k, typed (codes "object")) ∷ [])) ≡ Err unknown_type
  pub other : fields (nested ((k, with_keys ((codes "type", string (codes "keyword")) ∷ (codes "properties", with_keys []) ∷ [])) ∷ [])) ≡ Err unknown_type
  pub nothing : fields (nested ((k, with_keys []) ∷ [])) ≡ Err unknown_type
  -- the faults of a property in their order, and then those of its own properties
  pub no_object : fields (nested ((k, with_keys ((codes "properties", whole 5) ∷ (codes "type", whole 5) ∷ [])) ∷ [])) ≡ Err not_object
  pub key : fields (nested ((k, with_keys ((codes "properties", whole 5) ∷ (codes "dynamic", boolean false) ∷ [])) ∷ [])) ≡ Err bad_name
  pub own_first : fields (nested ((k, with_keys ((codes "type", whole 5) ∷ (codes "properties", with_keys ((codes "_x", keyword) ∷ [])) ∷ [])) ∷ [])) ≡ Err unknown_type
  pub within_first : fields (nested ((codes "a", nested ((codes "_x", keyword) ∷ [])) ∷ (codes "b", whole 5) ∷ [])) ≡ Err bad_name
  pub point : fields (nested ((codes "who.name", keyword) ∷ [])) ≡ Err bad_name
  -- a path of 256 bytes, each name of which is short enough
  pub too_long : fields (nested ((replicate 127 97, nested ((replicate 128 98, keyword) ∷ [])) ∷ [])) ≡ Err bad_name
  -- 20 levels and 21
  pub twenty_one : fields (levels 21) ≡ Err too_deep
  pub twenty : (mapping_of (levels 20) >>= λ m. Ok (kind_at (codes "x.x.x.x.x.x.x.x.x.x.x.x.x.x.x.x.x.x.x.x") m.fields)) ≡ Ok (Some Keyword)
  pub object_is_no_field : (mapping_of who >>= λ m. Ok (kind_at (codes "who") m.fields)) ≡ Ok None
  -- what isn't an object has no levels: it is found later, in its place
  pub no_levels : fields (nested ((k, with_keys ((codes "properties", with_items (levels 21 ∷ [])) ∷ [])) ∷ [])) ≡ Err not_object
  -- TooDeep before the properties are looked at, after `dynamic`
  pub deep_first : fields (nested ((codes "_a", whole 5) ∷ (x, levels 20) ∷ [])) ≡ Err too_deep
  pub dynamic_first : fields (with_keys ((codes "dynamic", boolean true) ∷ (codes "properties", with_keys ((x, levels 20) ∷ [])) ∷ [])) ≡ Err bad_dynamic

pub record Row_documents : Type 0 where
  -- two objects at the path of one
  pub two : gives who (with_keys ((codes "who", with_items (with_keys ((codes "name", string x) ∷ (codes "age", whole 1) ∷ []) ∷ with_keys ((codes "name", string y) ∷ []) ∷ [])) ∷ [])) ≡ Ok ((who_age, long (pos 1) ∷ []) ∷ (who_name, as_x ∷ []) ∷ (who_name, as_y ∷ []) ∷ [])
  pub dotted : gives who (with_keys ((who_name, string y) ∷ [])) ≡ Ok ((who_name, as_y ∷ []) ∷ [])
  pub scalar : gives who (with_keys ((codes "who", string z) ∷ [])) ≡ Err (wrong_value (codes "who"))
  pub object_at_field : gives who (with_keys ((codes "who", with_keys ((codes "name", with_keys []) ∷ [])) ∷ [])) ≡ Err (wrong_value who_name)
  pub null_at_object : gives who (with_keys ((codes "who", null) ∷ [])) ≡ Ok []
  -- both spellings, in byte order of the keys: who before who.name
  pub both : values_of who who_name (with_keys ((who_name, string z) ∷ (codes "who", with_keys ((codes "name", with_items (string x ∷ string y ∷ [])) ∷ [])) ∷ [])) ≡ Ok (as_x ∷ as_y ∷ as_z ∷ [])
  -- arrays of objects with arrays of values, nulls among both
  pub arrays : values_of who who_name (with_keys ((codes "who", with_items (with_keys ((codes "name", with_items (string x ∷ null ∷ string y ∷ [])) ∷ []) ∷ null ∷ with_keys [] ∷ with_keys ((codes "name", string z) ∷ []) ∷ [])) ∷ [])) ≡ Ok (as_x ∷ as_y ∷ as_z ∷ [])
  pub empty : gives who (with_keys ((codes "who", with_keys []) ∷ [])) ≡ Ok []
  pub empty_array : gives who (with_keys ((codes "who", with_items []) ∷ [])) ≡ Ok []
  -- element by element, each gone into before the next
  pub in_order : gives strict-who (with_keys ((codes "who", with_items (with_keys ((z, whole 1) ∷ []) ∷ whole 5 ∷ [])) ∷ [])) ≡ Err (unmapped (codes "who.z"))
  pub in_order_too : gives strict-who (with_keys ((codes "who", with_items (whole 5 ∷ with_keys ((z, whole 1) ∷ []) ∷ [])) ∷ [])) ≡ Err (wrong_value (codes "who"))
  pub array_in_array : gives who (with_keys ((codes "who", with_items (with_items (with_keys [] ∷ []) ∷ [])) ∷ [])) ≡ Err (wrong_value (codes "who"))
  -- of two equal keys the last counts, whole
  pub twice : values_of who who_name (with_keys ((codes "who", with_keys ((codes "name", string x) ∷ [])) ∷ (codes "who", with_keys ((codes "age", whole 2) ∷ [])) ∷ [])) ≡ Ok []
  pub twice_wrong : values_of who who_name (with_keys ((codes "who", whole 5) ∷ (codes "who", with_keys ((codes "name", string x) ∷ [])) ∷ [])) ≡ Ok (as_x ∷ [])
  -- what isn't mapped stays in the source, but for arrays within arrays
  pub unmapped_object : gives who (with_keys ((z, with_keys ((y, with_keys ((x, with_items (whole 1 ∷ with_keys [] ∷ string x ∷ [])) ∷ [])) ∷ [])) ∷ [])) ≡ Ok []
  pub unmapped_arrays : gives who (with_keys ((z, with_keys ((y, with_items (with_items [] ∷ [])) ∷ [])) ∷ [])) ≡ Err (wrong_value (codes "z.y"))
  pub unmapped_within : gives who (with_keys ((codes "who", with_keys ((z, with_keys ((y, whole 1) ∷ [])) ∷ [])) ∷ [])) ≡ Ok []
  pub strict_within : gives strict-who (with_keys ((codes "who", with_keys ((z, with_keys []) ∷ [])) ∷ [])) ≡ Err (unmapped (codes "who.z"))
  pub strict_first : gives strict-who (with_keys ((codes "z", with_items (with_items [] ∷ [])) ∷ [])) ≡ Err (unmapped z)
  pub strict_array : gives strict-who (with_keys ((codes "z", with_items []) ∷ [])) ≡ Err (unmapped z)
  -- an object path by its points
  pub path_of_points : gives strict-who (with_keys ((codes "who.", whole 1) ∷ [])) ≡ Err (unmapped (codes "who."))
  -- a point in a key within an object, and a key that is a whole path beside the nested one
  pub point_within : values_of (nested ((codes "a", nested ((codes "b", nested ((codes "c", keyword) ∷ [])) ∷ [])) ∷ [])) (codes "a.b.c") (with_keys ((codes "a.b", with_keys ((codes "c", string y) ∷ [])) ∷ (codes "a", with_keys ((codes "b.c", string x) ∷ [])) ∷ (codes "a.b.c", string z) ∷ [])) ≡ Ok (as_x ∷ as_y ∷ as_z ∷ [])
  -- the order of the walk is that of the keys, level by level: `a` with all that is in it, then `a-`, then `a.b`
  pub walk : gives (nested ((codes "a", nested ((codes "b", long-field) ∷ [])) ∷ (codes "a-", long-field) ∷ [])) (with_keys ((codes "a.b", whole 3) ∷ (codes "a-", whole 2) ∷ (codes "a", with_keys ((codes "b", whole 1) ∷ [])) ∷ [])) ≡ Ok ((codes "a.b", long (pos 1) ∷ []) ∷ (codes "a-", long (pos 2) ∷ []) ∷ (codes "a.b", long (pos 3) ∷ []) ∷ [])
  -- the first fault in that order
  pub first_fault : gives who (with_keys ((codes "who.age", string x) ∷ (codes "who", with_keys ((codes "name", with_items (with_items [] ∷ [])) ∷ (codes "zz", whole 1) ∷ [])) ∷ [])) ≡ Err (wrong_value who_name)
  -- an empty key is a name of its own: its object's paths begin with a point
  pub no_name : gives (nested ((k, keyword) ∷ [])) (with_keys (([], with_keys ((k, whole 1) ∷ [])) ∷ [])) ≡ Ok []
  pub no_name_strict : gives (with_keys ((codes "dynamic", string (codes "strict")) ∷ (codes "properties", with_keys ((k, keyword) ∷ [])) ∷ [])) (with_keys (([], with_keys ((k, whole 1) ∷ [])) ∷ [])) ≡ Err (unmapped [])

pub record Row_depths : Type 0 where
  -- 20 objects, the document among them, and 21
  pub twenty : gives nothing-mapped (wrapped 19 (with_keys [])) ≡ Ok []
  pub one_more : gives nothing-mapped (wrapped 20 (with_keys [])) ≡ Err too_deep
  pub in_array : gives nothing-mapped (wrapped 20 (with_items (whole 1 ∷ with_keys [] ∷ []))) ≡ Err too_deep
  pub wrong_kind_too : gives (nested ((x, long-field) ∷ [])) (with_keys ((x, with_items (string y ∷ with_keys [] ∷ [])) ∷ [])) ≡ Err (wrong_value x)
  pub arrays_do_not_count : gives nothing-mapped (wrapped 19 (with_keys ((x, with_items (whole 1 ∷ [])) ∷ []))) ≡ Ok []
  -- before Unmapped at its place, and a place that comes before it is first
  pub before_unmapped : gives strict-nothing (wrapped 1 (whole 1)) ≡ Err (unmapped x)
  pub a_place_before : gives nothing-mapped (with_keys ((codes "a", with_items (with_items [] ∷ [])) ∷ (x, wrapped 20 (with_keys [])) ∷ [])) ≡ Err (wrong_value (codes "a"))
  -- an array within the array doesn't hide it from its place, and an object in an inner array isn't one of the place
  pub inner : gives nothing-mapped (wrapped 20 (with_items (with_items (with_keys [] ∷ []) ∷ []))) ≡ Err (wrong_value (codes "x.x.x.x.x.x.x.x.x.x.x.x.x.x.x.x.x.x.x.x"))
