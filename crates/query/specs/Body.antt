-- The query and the page of a search body, and the query of a count's, or its first fault.
use Rattle.std.specs.Prelude.{ℕ, ◌+◌, Bool, ◌||◌, nat_lt, codes, List, Option, Some, None, Result, Ok, Err, if◌then◌else◌}
use Rattle.std.specs.Str.{bytes_eq}
use Rattle.serde_json.specs.Data.{Data}
use Rattle.serde_json.specs.Find.{get}
use Rattle.doc.specs.Mapping.{MappingData, all_keys}
use Rattle.doc.specs.Outcome.{◌>>=◌}
use Rattle.query.specs.Fault.{Fault, window_too_large}
use Rattle.query.specs.Page.{PageData}
use Rattle.query.specs.Query.{Query, match_all}
use Rattle.query.specs.Reading.{query_of}
use Rattle.query.specs.Shape.{members_of, check, whole_number}

-- the part of the hits after the first `from`, at most `size` of them; it ends within the first 10,000
abbrev pub page_of : ℕ → ℕ → Result PageData Fault
page_of from size = if nat_lt 10000 (from + size) then Err window_too_large else Ok (record { from = from; size = size })

abbrev pub query_or_all : MappingData → Option Data → Result Query Fault
query_or_all m None = Ok match_all
query_or_all m (Some d) = query_of m d

abbrev pub is_body_key : List ℕ → Bool
is_body_key k = bytes_eq k (codes "query") || bytes_eq k (codes "from") || bytes_eq k (codes "size") || bytes_eq k (codes "track_total_hits")

-- the keys and numbers of the body are read before its query, and the window is judged after it
unfoldable pub body_of : MappingData → Data → Result (Query × PageData) Fault
body_of m d = do
  ms ← members_of d
  known ← check (all_keys is_body_key ms)
  from ← whole_number 0 (get (codes "from") d)
  size ← whole_number 10 (get (codes "size") d)
  q ← query_or_all m (get (codes "query") d)
  page ← page_of from size
  Ok (q, page)

abbrev pub is_count_key : List ℕ → Bool
is_count_key k = bytes_eq k (codes "query")

-- the query of the body of a count, which has no other key
unfoldable pub counted_of : MappingData → Data → Result Query Fault
counted_of m d = do
  ms ← members_of d
  known ← check (all_keys is_count_key ms)
  query_or_all m (get (codes "query") d)
