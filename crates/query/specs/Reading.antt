-- The query of a JSON value, or its first fault in preorder: at each query depth, number of clauses, shape and kind, and then its parts.
use Rattle.std.specs.Prelude.{ℕ, zero, suc, ◌-◌, ◌==◌, List, [], ◌∷◌, codes, Option, Some, None, Result, Ok, Err, if◌then◌else◌}
use Rattle.std.specs.Str.{bytes_eq}
use Rattle.serde_json.specs.Data.{Data, null, boolean, number, string, array, object}
use Rattle.serde_json.specs.Find.{get}
use Rattle.doc.specs.Entries.{elements}
use Rattle.doc.specs.Mapping.{MappingData}
use Rattle.doc.specs.Outcome.{◌>>=◌}
use Rattle.query.specs.Fault.{Fault, parsing, too_many_clauses, too_deep}
use Rattle.query.specs.Leaves.{leaf_of}
use Rattle.query.specs.Query.{Query, bool, queries_of}
use Rattle.query.specs.Shape.{only_of, whole_number, named, is_bool_key}

-- the greatest depth of a query, and the greatest number of queries in it
abbrev pub max_depth : ℕ
max_depth = 20

abbrev pub max_clauses : ℕ
max_clauses = 1024

-- one after another; each takes how many clauses are left, and gives how many are left after it
abbrev pub thread : {A B F : Type 0} → (ℕ → A → Result (B × ℕ) F) → ℕ → List A → Result (List B × ℕ) F
thread f left [] = Ok ([], left)
thread f left (x ∷ xs) = f left x >>= λ y. thread f y.1 xs >>= λ ys. Ok (y.0 ∷ ys.0, ys.1)

-- a query or an array of queries, none where the key is absent
abbrev pub parts_in : Option Data → Result (List Data) Fault
parts_in None = Ok []
parts_in (Some null) = Err parsing
parts_in (Some (boolean b)) = Err parsing
parts_in (Some (number n)) = Err parsing
parts_in (Some (string s)) = Err parsing
parts_in (Some (array ds)) = Ok (elements ds)
parts_in (Some (object ms)) = Ok (object ms ∷ [])

-- the parts of a `bool`, in the order in which they are read, and its minimum
pub record Parts : Type 0 where
  pub filter : List Data
  pub must : List Data
  pub must_not : List Data
  pub should : List Data
  pub minimum : ℕ

unfoldable pub parts_of : Data → Result Parts Fault
parts_of d = do
  known ← named is_bool_key d
  filter ← parts_in (get (codes "filter") d)
  must ← parts_in (get (codes "must") d)
  must_not ← parts_in (get (codes "must_not") d)
  should ← parts_in (get (codes "should") d)
  minimum ← whole_number 0 (get (codes "minimum_should_match") d)
  Ok (record { filter = filter; must = must; must_not = must_not; should = should; minimum = minimum })

unfoldable pub bool_of : (ℕ → Data → Result (Query × ℕ) Fault) → ℕ → Data → Result (Query × ℕ) Fault
bool_of f left d = do
  parts ← parts_of d
  filter ← thread f left parts.filter
  must ← thread f filter.1 parts.must
  must_not ← thread f must.1 parts.must_not
  should ← thread f must_not.1 parts.should
  Ok (bool (queries_of filter.0) (queries_of must.0) (queries_of must_not.0) (queries_of should.0) parts.minimum, should.1)

abbrev pub and_left : ℕ → Result Query Fault → Result (Query × ℕ) Fault
and_left left read = read >>= λ q. Ok (q, left)

abbrev pub named_query : MappingData → (ℕ → Data → Result (Query × ℕ) Fault) → ℕ → List ℕ × Data → Result (Query × ℕ) Fault
named_query m f left at = if bytes_eq at.0 (codes "bool") then bool_of f left at.1 else and_left left (leaf_of m at.0 at.1)

-- the query of a value below which `room` levels are left, where `left` more clauses are allowed, and how many are allowed after it
unfoldable pub query_at : MappingData → ℕ → ℕ → Data → Result (Query × ℕ) Fault
query_at m zero left d = Err too_deep
query_at m (suc room) left d = if left == 0 then Err too_many_clauses else (only_of d >>= λ at. named_query m (query_at m room) (left - 1) at)

-- the query of a value
unfoldable pub query_of : MappingData → Data → Result Query Fault
query_of m d = do
  read ← query_at m max_depth max_clauses d
  Ok read.0
