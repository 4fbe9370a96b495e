-- What a request asks.
use Rattle.std.specs.Prelude.{ℕ, ◌^◌, ◌==◌, ◌&&◌, ◌||◌, not, nat_lt, Bool, true, false, codes, length, is_some, is_none, List, Option, Some, None, Result, Ok, Err, if◌then◌else◌}
use Rattle.serde_json.specs.Data.{unsigned, Data, null, boolean, number, string, array, object, put}
use Rattle.serde_json.specs.Read.{read}
use Rattle.doc.specs.Document.{DocData, doc_of}
use Rattle.doc.specs.Fault as doc
use Rattle.doc.specs.Id.{id_of}
use Rattle.doc.specs.Mapping.{MappingData}
use Rattle.doc.specs.Outcome.{◌>>=◌}
use Rattle.query.specs.Body.{body_of, counted_of}
use Rattle.query.specs.Fault as query
use Rattle.query.specs.Fault.{parsing}
use Rattle.front.specs.declared.command.Change.{Change}
use Rattle.front.specs.declared.command.Change.TheVariants as change
use Rattle.front.specs.declared.command.Condition.{Condition}
use Rattle.front.specs.declared.target.Endpoint.{Endpoint}
use Rattle.front.specs.declared.target.Endpoint.TheVariants.{Document, Create, Search, Count, Refresh, Bulk, Promote}
use Rattle.front.specs.declared.target.Method.{Method}
use Rattle.front.specs.declared.target.Method.TheVariants.{Delete, Get, Post, Put, Other}
use Rattle.front.specs.declared.target.Parameters.{Parameters}
use Rattle.front.specs.Command.{Command, write, get, search, count, refresh, promote}
use Rattle.front.specs.Fault.{Fault, of_document, of_query, no_index, bad_method, bad_parameter, bad_bulk}
use Rattle.front.specs.BulkReading.{items_in}
use Rattle.front.specs.Item.{Item, Asked, one, many}
use Rattle.wire.specs.Framing.{Request}
use Rattle.wire.specs.Number.{number_of}
use Rattle.wire.specs.Pieces.{cut_at, text_of}
use Rattle.front.specs.Target.{check, origin_of, route_of, is_served, is_allowed, method_of, parameters_of}

abbrev pub in_doc : {A : Type 0} → Result A doc.Fault → Result A Fault
in_doc (Ok a) = Ok a
in_doc (Err f) = Err (of_document f)

abbrev pub in_query : {A : Type 0} → Result A query.Fault → Result A Fault
in_query (Ok a) = Ok a
in_query (Err f) = Err (of_query f)

abbrev pub or_nothing : Option (List ℕ) → List ℕ
or_nothing None = codes ""
or_nothing (Some q) = q

abbrev pub has_both : Parameters → Bool
has_both p = (is_some p.seq && is_some p.term) || (is_none p.seq && is_none p.term)

abbrev pub has_none : Parameters → Bool
has_none p = is_none p.refresh && is_none p.create && is_none p.seq && is_none p.term

abbrev pub is_true : Option Bool → Bool
is_true None = false
is_true (Some b) = b

-- whether these parameters may come with this method at this endpoint, the page of a search aside
abbrev pub suits : Endpoint → Method → Parameters → Bool
suits Document Get p = has_none p
suits Document Delete p = is_none p.create && has_both p
suits Document Put p = has_both p && not (is_true p.create && is_some p.seq)
suits Document Post p = has_both p && not (is_true p.create && is_some p.seq)
suits Document Other p = false
suits Create m p = is_none p.create && is_none p.seq && is_none p.term
suits Bulk m p = is_none p.create && is_none p.seq && is_none p.term
suits Search m p = has_none p
suits Count m p = has_none p
suits Refresh m p = has_none p
suits Promote m p = has_none p

abbrev pub has_no_page : Parameters → Bool
has_no_page p = is_none p.size && is_none p.from

-- the page of a search may stand in its target, if the server greets
abbrev pub takes_page : Bool → Endpoint → Bool
takes_page greets Search = greets
takes_page greets k = false

-- whether these parameters may come with this method at this endpoint
abbrev pub fits : Bool → Endpoint → Method → Parameters → Bool
fits greets k m p = (has_no_page p || takes_page greets k) && suits k m p

abbrev pub condition_of : Option ℕ → Option ℕ → Option Condition
condition_of (Some seq) (Some term) = Some (record { seq = seq; term = term })
condition_of None term = None
condition_of (Some seq) None = None

abbrev pub read_or_parsing : Option Data → Result Data Fault
read_or_parsing None = Err (of_query parsing)
read_or_parsing (Some d) = Ok d

abbrev pub id_text : Option (List ℕ) → Result (List ℕ) Fault
id_text None = Err bad_parameter
id_text (Some text) = Ok text

abbrev pub text_value : Option (List ℕ) → Result Data Fault
text_value None = Err (of_query parsing)
text_value (Some text) = read_or_parsing (read text)

-- the value of a body; an empty body stands for an empty object
abbrev pub value_of : List ℕ → Result Data Fault
value_of body = if length body == 0 then text_value (Some (codes "{}")) else text_value (text_of body)

abbrev pub stored : Bool → DocData → Change
stored true d = change.Create d
stored false d = change.Index d

abbrev pub writing : List ℕ → Change → Parameters → Command
writing id c p = write (record { id = id; change = c; condition = condition_of p.seq p.term; refresh = is_true p.refresh })

unfoldable pub put_of : MappingData → Bool → List ℕ → Parameters → List ℕ → Result Command Fault
put_of mapping create id p body = do
  i ← in_doc (id_of id)
  d ← in_doc (doc_of mapping body)
  Ok (writing i (stored create d) p)

unfoldable pub delete_of : List ℕ → Parameters → Result Command Fault
delete_of id p = do
  i ← in_doc (id_of id)
  Ok (writing i change.Delete p)

unfoldable pub get_of : List ℕ → Result Command Fault
get_of id = do
  i ← in_doc (id_of id)
  Ok (get i)

-- an object with a member that is a number, if there is one
abbrev pub with_number : List ℕ → Option ℕ → Data → Data
with_number key None d = d
with_number key (Some n) null = null
with_number key (Some n) (boolean b) = boolean b
with_number key (Some n) (number x) = number x
with_number key (Some n) (string s) = string s
with_number key (Some n) (array ds) = array ds
with_number key (Some n) (object ms) = object (put key (number (unsigned n)) ms)

-- the page in the target stands for that of the body
unfoldable pub search_of : MappingData → Parameters → List ℕ → Result Command Fault
search_of mapping p body = do
  d ← value_of body
  q ← in_query (body_of mapping (with_number (codes "size") p.size (with_number (codes "from") p.from d)))
  Ok (search q.0 q.1)

unfoldable pub count_of : MappingData → List ℕ → Result Command Fault
count_of mapping body = do
  d ← value_of body
  q ← in_query (counted_of mapping d)
  Ok (count q)

-- the promotion of the copy with this number, which is at least 1 and has 32 bits at most
abbrev pub promoting : Option ℕ → Result Command Fault
promoting None = Err bad_parameter
promoting (Some n) = if nat_lt 0 n && nat_lt n (2 ^ 32) then Ok (promote n) else Err bad_parameter

abbrev pub promote_of : List ℕ → Result Command Fault
promote_of id = promoting (number_of id)

abbrev pub command_of : MappingData → Endpoint → Method → List ℕ → Parameters → List ℕ → Result Command Fault
command_of mapping Document Get id p body = get_of id
command_of mapping Document Delete id p body = delete_of id p
command_of mapping Document Put id p body = put_of mapping (is_true p.create) id p body
command_of mapping Document Post id p body = put_of mapping (is_true p.create) id p body
command_of mapping Document Other id p body = Err (bad_method Document)
command_of mapping Create m id p body = put_of mapping true id p body
command_of mapping Search m id p body = search_of mapping p body
command_of mapping Count m id p body = count_of mapping body
command_of mapping Refresh m id p body = Ok refresh
command_of mapping Promote m id p body = promote_of id
command_of mapping Bulk m id p body = Err bad_bulk

-- the index of items that name none, if the path names it
abbrev pub items_index : List ℕ → Option (List ℕ) → Option (List ℕ)
items_index served None = None
items_index served (Some named) = Some served

abbrev pub many_of : Bool → Result (List Item) Fault → Result Asked Fault
many_of fresh (Ok items) = Ok (many fresh items)
many_of fresh (Err f) = Err f

abbrev pub one_of : Result Command Fault → Result Asked Fault
one_of (Ok c) = Ok (one c)
one_of (Err f) = Err f

abbrev pub asked_of : Bool → MappingData → Endpoint → Method → List ℕ → Parameters → List ℕ → Option (List ℕ) → Result Asked Fault
asked_of greets mapping Bulk m id p body named = many_of (is_true p.refresh) (items_in greets named body)
asked_of greets mapping Document m id p body named = one_of (command_of mapping Document m id p body)
asked_of greets mapping Create m id p body named = one_of (command_of mapping Create m id p body)
asked_of greets mapping Search m id p body named = one_of (command_of mapping Search m id p body)
asked_of greets mapping Count m id p body named = one_of (command_of mapping Count m id p body)
asked_of greets mapping Refresh m id p body named = one_of (command_of mapping Refresh m id p body)
asked_of greets mapping Promote m id p body named = one_of (command_of mapping Promote m id p body)

-- what a request asks of a server that greets or of one that doesn't, or its first fault, in the order of the route, the index, the method, the parameters,
-- the id, the body
unfoldable pub ask : Bool → List ℕ → MappingData → Request → Result Asked Fault
ask greets index mapping r = do
  route ← route_of (cut_at 63 (origin_of r.target)).0
  served ← check (is_served index route.index) no_index
  allowed ← check (is_allowed route.endpoint (method_of r.method)) (bad_method route.endpoint)
  id ← id_text (text_of route.id)
  p ← parameters_of (or_nothing (cut_at 63 (origin_of r.target)).1)
  fit ← check (fits greets route.endpoint (method_of r.method) p) bad_parameter
  asked_of greets mapping route.endpoint (method_of r.method) id p r.body (items_index index route.index)
