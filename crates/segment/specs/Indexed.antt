-- Documents by the terms of their fields.
use Rattle.std.specs.Prelude.{◌≡◌, ◌<◌, ◌^◌, ℕ, ℤ, Bool, true, false, List, [], map, length, nat_lt, Option, Some, None, option_map, IfSome, String, Box, All}
use Rattle.std.specs.BTreeMap.{BTreeMap}
use Rattle.std.specs.declared.alloc.Global.{Global}
use Rattle.std.specs.BTreeMap as tree
use Rattle.doc.specs.Fields.{Fields}
use Rattle.doc.specs.Mapping.{MappingData}
use Rattle.doc.specs.Scalar.{Scalar, text, long, flag}
use Rattle.doc.specs.Document.{Values, values_at, all_values}
use Rattle.analysis.specs.Terms.{terms_at, has}
use Rattle.marks.specs.Lists.{places}
use Rattle.segment.specs.Places.{places_at, places_at_long}
use Rattle.segment.specs.Blocks.{AreBlocks}
use Rattle.segment.specs.declared.column.Column.{Column}

-- what a segment is: its documents' sources, read under a mapping
pub record SegmentData : Type 0 where
  pub mapping : MappingData
  pub sources : List (List ℕ)

-- whether a document has the term in the field
abbrev pub has_term : Fields → List ℕ → Scalar → Values → Bool
has_term fields name t d = has (terms_at fields d name) t

-- whether a document has a value in the field
abbrev pub has_value : List ℕ → Values → Bool
has_value name d = nat_lt 0 (length (values_at name d))

-- a column has the documents of each term of the field
pub record IsColumn (fields : Fields) (docs : List Values) (name : List ℕ) (c : Column) : Type 0 where
  pub has : c.has ≡ map (has_value name) docs
  pub texts : (w : List ℕ) → places_at c.texts w ≡ places (has_term fields name (text w)) docs
  pub longs : (z : ℤ) → places_at_long c.longs z ≡ places (has_term fields name (long z)) docs
  pub blocks : AreBlocks (length docs) c.longs c.blocks.items
  pub yes : c.yes ≡ map (has_term fields name (flag true)) docs
  pub no : c.no ≡ map (has_term fields name (flag false)) docs

-- the column of a field, where it has one
abbrev pub column_at : BTreeMap (String Global) (Box Column Global) → List ℕ → Option Column
column_at columns name = option_map (λ b. b.value) (tree.get_by_text columns name)

-- a field without a column has no value in any document
abbrev pub IsColumnOr : Fields → List Values → List ℕ → Option Column → Type 0
IsColumnOr fields docs name None = All (λ d. values_at name d ≡ []) docs
IsColumnOr fields docs name (Some c) = IsColumn fields docs name c

-- the columns that are there
abbrev pub AreColumns : Fields → List Values → BTreeMap (String Global) (Box Column Global) → Type 0
AreColumns fields docs columns = (name : List ℕ) → IfSome (column_at columns name) (IsColumn fields docs name)

-- each field has its column
pub record IsIndexed (m : MappingData) (sources : List (List ℕ)) (columns : BTreeMap (String Global) (Box Column Global)) : Type 0 where
  pub few : length sources < 2 ^ 32
  pub each : (name : List ℕ) → IsColumnOr m.fields (map (all_values m) sources) name (column_at columns name)
