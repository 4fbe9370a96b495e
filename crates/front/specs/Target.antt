-- What the target of a request names: its path and its parameters.
use Rattle.std.specs.Prelude.{ℕ, ◌==◌, ◌&&◌, ◌||◌, Bool, true, false, bytes_eq, codes, map, nat_le, length, take, drop, List, [], ◌∷◌, Option, Some, None, Result, Ok, Err, ⊤, if◌then◌else◌}
use Rattle.std.specs.List.{slice_split, position_or_len}
use Rattle.std.specs.Str.Lossy.{utf8_lossy}
use Rattle.percent_encoding.specs.Percent.{percent_decode}
use Rattle.form_urlencoded.specs.Form.{raw_pairs, decode}
use Rattle.doc.specs.Outcome.{◌>>=◌}
use Rattle.front.specs.declared.target.Endpoint.{Endpoint}
use Rattle.front.specs.declared.target.Endpoint.TheVariants.{Document, Create, Search, Count, Refresh, Bulk, Promote}
use Rattle.front.specs.declared.target.Method.{Method}
use Rattle.front.specs.declared.target.Method.TheVariants.{Delete, Get, Post, Put, Other}
use Rattle.front.specs.declared.target.Parameters.{Parameters}
use Rattle.wire.specs.Framing.{is_named}
use Rattle.wire.specs.Number.{number_of}
use Rattle.front.specs.Fault.{Fault, no_route, bad_parameter}

-- whether a target has the absolute form; its scheme may be in any case
abbrev pub is_absolute : List ℕ → Bool
is_absolute target = nat_le 7 (length target) && is_named (take 7 target) (codes "http://")

abbrev pub from_path : List ℕ → List ℕ
from_path bytes = drop (position_or_len (λ b. b == 47 || b == 63) bytes) bytes

-- a target's origin form; for an absolute target, all from the first `/` or `?` after its scheme
abbrev pub origin_of : List ℕ → List ℕ
origin_of target = if is_absolute target then from_path (drop 7 target) else target

-- what a path names: an endpoint, the index, if it names one, and an id
pub record Route : Type 0 where
  pub endpoint : Endpoint
  pub index : Option (List ℕ)
  pub id : List ℕ

abbrev pub endpoint_of_two : List ℕ → Option Endpoint
endpoint_of_two name =
    if bytes_eq name (codes "_search") then Some Search
    else (if bytes_eq name (codes "_count") then Some Count
    else (if bytes_eq name (codes "_refresh") then Some Refresh
    else (if bytes_eq name (codes "_bulk") then Some Bulk else None)))

abbrev pub endpoint_of_three : List ℕ → Option Endpoint
endpoint_of_three name =
    if bytes_eq name (codes "_doc") then Some Document
    else (if bytes_eq name (codes "_create") then Some Create
    else (if bytes_eq name (codes "_promote") then Some Promote else None))

abbrev pub routed : Option Endpoint → Option (List ℕ) → List ℕ → Result Route Fault
routed None index id = Err no_route
routed (Some k) index id = Ok (record { endpoint = k; index = index; id = id })

-- the route of the decoded parts of a path
abbrev pub route_of_parts : List (List ℕ) → Result Route Fault
route_of_parts [] = Err no_route
route_of_parts (a ∷ []) = routed (if bytes_eq a (codes "_bulk") then Some Bulk else None) None []
route_of_parts (a ∷ b ∷ []) = routed (endpoint_of_two b) (Some a) []
route_of_parts (a ∷ b ∷ c ∷ []) = routed (endpoint_of_three b) (Some a) c
route_of_parts (a ∷ b ∷ c ∷ d ∷ rest) = Err no_route

-- the route of a path; the path is split at `/`, and each part is decoded
abbrev pub route_of : List ℕ → Result Route Fault
route_of [] = Err no_route
route_of (x ∷ xs) = if x == 47 then route_of_parts (map percent_decode (slice_split (λ b. b == 47) xs)) else Err no_route

abbrev pub check : Bool → Fault → Result ⊤ Fault
check true f = Ok tt
check false f = Err f

-- whether the path names no other index than the one that is served
abbrev pub is_served : List ℕ → Option (List ℕ) → Bool
is_served served None = true
is_served served (Some index) = bytes_eq index served

abbrev pub method_of : List ℕ → Method
method_of name =
    if bytes_eq name (codes "GET") then Get
    else (if bytes_eq name (codes "PUT") then Put
    else (if bytes_eq name (codes "POST") then Post
    else (if bytes_eq name (codes "DELETE") then Delete else Other)))

abbrev pub is_allowed : Endpoint → Method → Bool
is_allowed k Other = false
is_allowed Document m = true
is_allowed Create Post = true
is_allowed Create Put = true
is_allowed Create m = false
is_allowed Bulk Post = true
is_allowed Bulk Put = true
is_allowed Bulk m = false
is_allowed Search Get = true
is_allowed Search Post = true
is_allowed Search m = false
is_allowed Count Get = true
is_allowed Count Post = true
is_allowed Count m = false
is_allowed Refresh Get = true
is_allowed Refresh Post = true
is_allowed Refresh m = false
is_allowed Promote Post = true
is_allowed Promote m = false

abbrev pub refresh_of : List ℕ → Option Bool
refresh_of value = if length value == 0 || bytes_eq value (codes "true") then Some true else (if bytes_eq value (codes "false") then Some false else None)

abbrev pub create_of : List ℕ → Option Bool
create_of value = if bytes_eq value (codes "create") then Some true else (if bytes_eq value (codes "index") then Some false else None)

-- the value of a parameter that hasn't come yet, if the value could be read
abbrev pub once : {A : Type 0} → Option A → Option A → Result (Option A) Fault
once (Some old) new = Err bad_parameter
once None None = Err bad_parameter
once None (Some a) = Ok (Some a)

abbrev pub with_number : Parameters → List ℕ → Option ℕ → Result Parameters Fault
with_number p name n =
    if bytes_eq name (codes "if_seq_no") then (once p.seq n >>= λ x. Ok (record p { seq = x }))
    else (if bytes_eq name (codes "if_primary_term") then (once p.term n >>= λ x. Ok (record p { term = x }))
    else (if bytes_eq name (codes "size") then (once p.size n >>= λ x. Ok (record p { size = x }))
    else (if bytes_eq name (codes "from") then (once p.from n >>= λ x. Ok (record p { from = x }))
    else Err bad_parameter)))

abbrev pub with_parameter : Parameters → List ℕ → List ℕ → Result Parameters Fault
with_parameter p name value =
    if bytes_eq name (codes "pretty") then (once p.pretty (Some true) >>= λ x. Ok (record p { pretty = x }))
    else (if bytes_eq name (codes "refresh") then (once p.refresh (refresh_of value) >>= λ x. Ok (record p { refresh = x }))
    else (if bytes_eq name (codes "op_type") then (once p.create (create_of value) >>= λ x. Ok (record p { create = x }))
    else with_number p name (number_of value)))

abbrev pub text_of : List ℕ → List ℕ
text_of bytes = utf8_lossy (decode bytes)

abbrev pub with_parameters : Parameters → List (List ℕ × List ℕ) → Result Parameters Fault
with_parameters p [] = Ok p
with_parameters p (x ∷ xs) = with_parameter p (text_of x.0) (text_of x.1) >>= λ q. with_parameters q xs

abbrev pub no_parameters : Parameters
no_parameters = record { pretty = None; refresh = None; create = None; seq = None; term = None; size = None; from = None }

-- the parameters of a query string
abbrev pub parameters_of : List ℕ → Result Parameters Fault
parameters_of text = with_parameters no_parameters (raw_pairs text)
