-- A query that has been read: its values are converted, and the text of a `match` is cut into tokens.
use Rattle.std.specs.Prelude.{ℕ, suc, ◌+◌, max, List, [], ◌∷◌}
use Rattle.doc.specs.Scalar.{Scalar}
use Rattle.analysis.specs.Bounds.{Bounds}
use Rattle.query.specs.declared.query.Operator.{Operator}

mutual
  pub data Query : Type 0 where
    match_all : Query
    -- of a field that is not mapped
    nothing : Query
    term : List ℕ → Scalar → Query
    terms : List ℕ → List Scalar → Query
    -- a text field, and whether one or all of these tokens are wanted
    match_tokens : List ℕ → Operator → List Scalar → Query
    prefix : List ℕ → List ℕ → Query
    range : List ℕ → Bounds → Query
    exists : List ℕ → Query
    bool : (filter must must_not should : Queries) → (minimum_should_match : ℕ) → Query

  pub data Queries : Type 0 where
    none : Queries
    more : Query → Queries → Queries

abbrev pub queries_of : List Query → Queries
queries_of [] = none
queries_of (q ∷ qs) = more q (queries_of qs)

-- how many there are
abbrev pub count_of : Queries → ℕ
count_of none = 0
count_of (more q qs) = suc (count_of qs)

abbrev mutual
  -- how many queries there are in a query, itself among them
  pub clauses : Query → ℕ
  clauses match_all = 1
  clauses nothing = 1
  clauses (term field value) = 1
  clauses (terms field values) = 1
  clauses (match_tokens field operator tokens) = 1
  clauses (prefix field text) = 1
  clauses (range field bounds) = 1
  clauses (exists field) = 1
  clauses (bool filter must must_not should minimum) = suc (clauses_in filter + clauses_in must + clauses_in must_not + clauses_in should)

  pub clauses_in : Queries → ℕ
  clauses_in none = 0
  clauses_in (more q qs) = clauses q + clauses_in qs

abbrev mutual
  -- how deep queries nest; a query without parts has depth 1
  pub depth : Query → ℕ
  depth match_all = 1
  depth nothing = 1
  depth (term field value) = 1
  depth (terms field values) = 1
  depth (match_tokens field operator tokens) = 1
  depth (prefix field text) = 1
  depth (range field bounds) = 1
  depth (exists field) = 1
  depth (bool filter must must_not should minimum) = suc (max (max (depth_of filter) (depth_of must)) (max (depth_of must_not) (depth_of should)))

  -- that of the deepest
  pub depth_of : Queries → ℕ
  depth_of none = 0
  depth_of (more q qs) = max (depth q) (depth_of qs)
