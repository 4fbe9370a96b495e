-- How large a query is that was read.
use Rattle.std.proofs.Common.{◌≡◌, ℕ, zero, suc, ◌+◌, ◌-◌, ◌≤◌, Bool, true, false, List, [], ◌∷◌, Option, Some, None, Result, Ok, Err, refl, subst, arith, codes}
use Rattle.std.specs.Prelude.{IfOk, ◌==◌, if◌then◌else◌}
use Rattle.std.specs.List.{list_all}
use Rattle.std.specs.Str.{bytes_eq}
use Rattle.std.proofs.lemmas.Bool.Decides.{nat_tests}
use Rattle.serde_json.specs.Data.{Data, string}
use Rattle.serde_json.specs.Find.{get}
use Rattle.doc.specs.declared.mapping.Kind.{Kind}
use Rattle.doc.specs.declared.mapping.Kind.TheVariants.{Keyword, Text, Long, Boolean}
use Rattle.doc.specs.Fields.{kind_at}
use Rattle.doc.specs.Mapping.{MappingData}
use Rattle.doc.specs.Outcome.{◌>>=◌, try_map}
use Rattle.doc.specs.Scalar.{Scalar, text, long, flag}
use Rattle.query.specs.declared.query.Operator.{Operator}
use Rattle.query.specs.Fault.{Fault, too_many_clauses}
use Rattle.query.specs.Leaves.{scalar_of, match_all_of, term_at, term_of, terms_at, terms_of, match_at, match_of, operator_in, prefix_with, prefix_at, prefix_of, WrittenBounds, written_in, bound_at, bounds_at, range_at, range_of, exists_at, exists_of, leaf_of, few}
use Rattle.query.specs.Query.{Query, match_all, queries_of, clauses, clauses_in, depth, depth_of}
use Rattle.query.specs.Reading.{thread, parts_of, bool_of, named_query, query_at, query_of, max_depth, max_clauses}
use Rattle.query.specs.Shape.{only_of, items_in, text_in, value_of, required, named, check, is_value, is_value_key, is_field_key}

-- ---- what holds of the answer of a chain

chain : {A B F : Type 0} (P : A → Type 0) (Q : B → Type 0) (f : A → Result B F) (r : Result A F) → IfOk r P → ((x : A) → P x → IfOk (f x) Q) → IfOk (r >>= f) Q
chain P Q f (Ok x) p h = h x p
chain P Q f (Err e) p h = tt

onward : {A B F : Type 0} (Q : B → Type 0) (f : A → Result B F) (r : Result A F) → ((x : A) → IfOk (f x) Q) → IfOk (r >>= f) Q
onward Q f (Ok x) h = h x
onward Q f (Err e) h = tt

either : {B F : Type 0} (Q : B → Type 0) (b : Bool) (r s : Result B F) → IfOk r Q → IfOk s Q → IfOk (if b then r else s) Q
either Q true r s p q = p
either Q false r s p q = q

-- ---- queries without parts

abbrev IsLeaf : Query → Type 0
IsLeaf q = (clauses q ≡ 1) × (depth q ≡ 1)

term_at_leaf : (field : List ℕ) (k : Option Kind) (d : Data) → IfOk (term_at field k d) IsLeaf
term_at_leaf field None d = (refl, refl)
term_at_leaf field (Some k) d = onward IsLeaf _ (scalar_of field k d) (λ v. (refl, refl))

term_leaf : (m : MappingData) (d : Data) → IfOk (term_of m d) IsLeaf
unfolding term_of
term_leaf m d = onward IsLeaf _ (only_of d) (λ at. onward IsLeaf _ _ (λ v. term_at_leaf at.0 (kind_at at.0 m.fields) v))

terms_at_leaf : (field : List ℕ) (k : Option Kind) (ds : List Data) → IfOk (terms_at field k ds) IsLeaf
terms_at_leaf field None ds = (refl, refl)
terms_at_leaf field (Some k) ds = onward IsLeaf _ (try_map (scalar_of field k) ds) (λ vs. (refl, refl))

terms_leaf : (m : MappingData) (d : Data) → IfOk (terms_of m d) IsLeaf
unfolding terms_of
terms_leaf m d = onward IsLeaf _ (only_of d) (λ at. onward IsLeaf _ (items_in at.1) (λ ds. onward IsLeaf _ (few ds) (λ small. onward IsLeaf _ (check (list_all is_value ds)) (λ known. terms_at_leaf at.0 (kind_at at.0 m.fields) ds))))

match_at_leaf : (field : List ℕ) (operator : Operator) (k : Option Kind) (d : Data) → IfOk (match_at field operator k d) IsLeaf
match_at_leaf field operator None d = (refl, refl)
match_at_leaf field operator (Some Keyword) d = term_at_leaf field (Some Keyword) d
match_at_leaf field operator (Some Long) d = term_at_leaf field (Some Long) d
match_at_leaf field operator (Some Boolean) d = term_at_leaf field (Some Boolean) d
match_at_leaf field operator (Some Text) d = onward IsLeaf _ (scalar_of field Text d) (λ v. (refl, refl))

match_leaf : (m : MappingData) (d : Data) → IfOk (match_of m d) IsLeaf
unfolding match_of
match_leaf m d = onward IsLeaf _ (only_of d) (λ at. onward IsLeaf _ _ (λ v. onward IsLeaf _ (operator_in at.1) (λ operator. match_at_leaf at.0 operator (kind_at at.0 m.fields) v)))

prefix_with_leaf : (field : List ℕ) (s : Scalar) → IfOk (prefix_with field s) IsLeaf
prefix_with_leaf field (text p) = (refl, refl)
prefix_with_leaf field (long z) = tt
prefix_with_leaf field (flag b) = tt

prefix_at_leaf : (field : List ℕ) (k : Option Kind) (p : List ℕ) → IfOk (prefix_at field k p) IsLeaf
prefix_at_leaf field None p = (refl, refl)
prefix_at_leaf field (Some Keyword) p = onward IsLeaf (prefix_with field) (scalar_of field Keyword (string p)) (prefix_with_leaf field)
prefix_at_leaf field (Some Text) p = onward IsLeaf (prefix_with field) (scalar_of field Text (string p)) (prefix_with_leaf field)
prefix_at_leaf field (Some Long) p = tt
prefix_at_leaf field (Some Boolean) p = tt

prefix_leaf : (m : MappingData) (d : Data) → IfOk (prefix_of m d) IsLeaf
unfolding prefix_of
prefix_leaf m d = onward IsLeaf _ (only_of d) (λ at. onward IsLeaf _ (value_of is_value_key (codes "value") at.1) (λ v. onward IsLeaf _ (text_in v) (λ p. prefix_at_leaf at.0 (kind_at at.0 m.fields) p)))

bounds_leaf : (field : List ℕ) (k : Kind) (w : WrittenBounds) → IfOk (bounds_at field k w) IsLeaf
unfolding bounds_at
bounds_leaf field k w = onward IsLeaf _ (bound_at field k w.gt) (λ gt. onward IsLeaf _ (bound_at field k w.gte) (λ gte. onward IsLeaf _ (bound_at field k w.lt) (λ lt. onward IsLeaf _ (bound_at field k w.lte) (λ lte. (refl, refl)))))

range_at_leaf : (field : List ℕ) (k : Option Kind) (w : WrittenBounds) → IfOk (range_at field k w) IsLeaf
range_at_leaf field None w = (refl, refl)
range_at_leaf field (Some Keyword) w = bounds_leaf field Keyword w
range_at_leaf field (Some Text) w = bounds_leaf field Text w
range_at_leaf field (Some Long) w = bounds_leaf field Long w
range_at_leaf field (Some Boolean) w = tt

range_leaf : (m : MappingData) (d : Data) → IfOk (range_of m d) IsLeaf
unfolding range_of
range_leaf m d = onward IsLeaf _ (only_of d) (λ at. onward IsLeaf _ (written_in at.1) (λ w. range_at_leaf at.0 (kind_at at.0 m.fields) w))

exists_at_leaf : (field : List ℕ) (k : Option Kind) → IsLeaf (exists_at field k)
exists_at_leaf field None = (refl, refl)
exists_at_leaf field (Some k) = (refl, refl)

exists_leaf : (m : MappingData) (d : Data) → IfOk (exists_of m d) IsLeaf
unfolding exists_of
exists_leaf m d = onward IsLeaf _ (named is_field_key d) (λ known. onward IsLeaf _ (required (get (codes "field") d)) (λ v. onward IsLeaf _ (text_in v) (λ field. exists_at_leaf field (kind_at field m.fields))))

match_all_leaf : (d : Data) → IfOk (match_all_of d) IsLeaf
match_all_leaf d = onward IsLeaf (λ known. Ok match_all) (named (λ k. false) d) (λ known. (refl, refl))

leaf_is_leaf : (m : MappingData) (name : List ℕ) (d : Data) → IfOk (leaf_of m name d) IsLeaf
unfolding leaf_of
leaf_is_leaf m name d =
    either IsLeaf (bytes_eq name (codes "match_all")) _ _ (match_all_leaf d) (
    either IsLeaf (bytes_eq name (codes "term")) _ _ (term_leaf m d) (
    either IsLeaf (bytes_eq name (codes "terms")) _ _ (terms_leaf m d) (
    either IsLeaf (bytes_eq name (codes "match")) _ _ (match_leaf m d) (
    either IsLeaf (bytes_eq name (codes "prefix")) _ _ (prefix_leaf m d) (
    either IsLeaf (bytes_eq name (codes "range")) _ _ (range_leaf m d) (
    either IsLeaf (bytes_eq name (codes "exists")) _ _ (exists_leaf m d) tt))))))

-- ---- queries within queries

-- it takes its clauses from those that are left, and its levels from the room
abbrev IsWithin : ℕ → ℕ → Query × ℕ → Type 0
IsWithin room left y = (clauses y.0 + y.1 ≡ left) × (depth y.0 ≤ room)

abbrev AreWithin : ℕ → ℕ → List Query × ℕ → Type 0
AreWithin room left ys = (clauses_in (queries_of ys.0) + ys.1 ≡ left) × (depth_of (queries_of ys.0) ≤ room)

thread_within : (room : ℕ) (f : ℕ → Data → Result (Query × ℕ) Fault) → ((left : ℕ) (d : Data) → IfOk (f left d) (IsWithin room left)) → (left : ℕ) (ds : List Data) → IfOk (thread f left ds) (AreWithin room left)
thread_within room f each left [] = (omega arith, omega arith)
thread_within room f each left (d ∷ ds) =
    chain (IsWithin room left) (AreWithin room left) _ (f left d) (each left d) (λ y one.
    chain (AreWithin room y.1) (AreWithin room left) _ (thread f y.1 ds) (thread_within room f each y.1 ds) (λ ys rest. (omega arith, omega arith)))

bool_within : (room : ℕ) (f : ℕ → Data → Result (Query × ℕ) Fault) → ((left : ℕ) (d : Data) → IfOk (f left d) (IsWithin room left)) → (left : ℕ) (d : Data) → IfOk (bool_of f left d) (IsWithin (suc room) (suc left))
unfolding bool_of
bool_within room f each left d =
    onward (IsWithin (suc room) (suc left)) _ (parts_of d) (λ parts.
    chain (AreWithin room left) (IsWithin (suc room) (suc left)) _ (thread f left parts.filter) (thread_within room f each left parts.filter) (λ filter a.
    chain (AreWithin room filter.1) (IsWithin (suc room) (suc left)) _ (thread f filter.1 parts.must) (thread_within room f each filter.1 parts.must) (λ must b.
    chain (AreWithin room must.1) (IsWithin (suc room) (suc left)) _ (thread f must.1 parts.must_not) (thread_within room f each must.1 parts.must_not) (λ must_not c.
    chain (AreWithin room must_not.1) (IsWithin (suc room) (suc left)) _ (thread f must_not.1 parts.should) (thread_within room f each must_not.1 parts.should) (λ should d. (omega arith, omega arith))))))

leaf_within : (room left : ℕ) (q : Query) → IsLeaf q → IsWithin (suc room) (suc left) (q, left)
leaf_within room left q is = (omega arith, omega arith)

named_within : (m : MappingData) (room : ℕ) (f : ℕ → Data → Result (Query × ℕ) Fault) → ((left : ℕ) (d : Data) → IfOk (f left d) (IsWithin room left)) → (left : ℕ) (at : List ℕ × Data) → IfOk (named_query m f left at) (IsWithin (suc room) (suc left))
named_within m room f each left at =
    either (IsWithin (suc room) (suc left)) (bytes_eq at.0 (codes "bool")) _ _ (bool_within room f each left at.1)
    (chain IsLeaf (IsWithin (suc room) (suc left)) _ (leaf_of m at.0 at.1) (leaf_is_leaf m at.0 at.1) (λ q is. leaf_within room left q is))

guarded : {B F : Type 0} (Q : B → Type 0) (b : Bool) (f : F) (s : Result B F) → (b ≡ false → IfOk s Q) → IfOk (if b then Err f else s) Q
guarded Q true f s h = tt
guarded Q false f s h = h refl

some_left : (left : ℕ) → (left == 0) ≡ false → suc (left - 1) ≡ left
some_left left some = grind (arith, nat_tests)

query_within : (m : MappingData) (room left : ℕ) (d : Data) → IfOk (query_at m room left d) (IsWithin room left)
unfolding query_at
query_within m zero left d = tt
query_within m (suc room) left d = guarded (IsWithin (suc room) left) (left == 0) too_many_clauses _ (λ some.
    subst (λ (n : ℕ). IfOk (only_of d >>= λ at. named_query m (query_at m room) (left - 1) at) (IsWithin (suc room) n)) (some_left left some)
    (onward (IsWithin (suc room) (suc (left - 1))) _ (only_of d) (λ at. named_within m room (query_at m room) (query_within m room) (left - 1) at)))

first_of : (m : MappingData) (d : Data) (q : Query) (read : Result (Query × ℕ) Fault) → IfOk read (IsWithin 20 1024) → (read >>= λ y. Ok y.0) ≡ Ok q → (clauses q ≤ 1024) × (depth q ≤ 20)
first_of m d q (Ok y) within e =
    let same : y.0 ≡ q = cc in
    subst (λ (x : Query). (clauses x ≤ 1024) × (depth x ≤ 20)) same (omega (arith, within.0), within.1)
first_of m d q (Err f) within e = absurd cc

pub read_small : (m : MappingData) (d : Data) (q : Query) → query_of m d ≡ Ok q → (clauses q ≤ 1024) × (depth q ≤ 20)
unfolding query_of
read_small m d q e = first_of m d q (query_at m max_depth max_clauses d) (query_within m max_depth max_clauses d) e
