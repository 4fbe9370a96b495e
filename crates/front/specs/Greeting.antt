-- Requests as the client libraries of Elasticsearch send them, and the pages of these.
use Rattle.std.specs.Prelude.{ℕ, ◌==◌, ◌&&◌, ◌||◌, not, Bool, true, false, bytes_eq, codes, length, map, nat_le, List, [], ◌∷◌, ◌++◌, Option, Some, None, Result, Ok, Err, ⊤, if◌then◌else◌}
use Rattle.std.specs.List.{slice_split, join_with_byte}
use Rattle.percent_encoding.specs.Percent.{percent_decode}
use Rattle.doc.specs.Mapping.{MappingData}
use Rattle.doc.specs.Outcome.{◌>>=◌}
use Rattle.wire.specs.Framing.{Request}
use Rattle.wire.specs.Pieces.{cut_at}
use Rattle.front.specs.declared.greeting.Welcome.{Welcome}
use Rattle.front.specs.declared.greeting.Welcome.TheVariants.{Nothing, Greeting, Presence, Reporting}
use Rattle.front.specs.declared.report.Report.{Report}
use Rattle.front.specs.declared.report.Report.TheVariants as report
use Rattle.front.specs.declared.page.Media.{Media}
use Rattle.front.specs.declared.page.Media.TheVariants as media
use Rattle.front.specs.declared.page.Status.TheVariants as status
use Rattle.front.specs.declared.target.Endpoint.{Endpoint}
use Rattle.front.specs.declared.target.Endpoint.TheVariants.{Document, Bulk}
use Rattle.front.specs.Asking.{ask, or_nothing, has_none, has_no_page}
use Rattle.front.specs.Fault.{Fault, no_route, no_index, bad_parameter, type_in_path, no_handler, index_exists, encoded_body, of_head}
use Rattle.wire.specs.Fault.{body_too_large}
use Rattle.front.specs.Page.{response, explained_page}
use Rattle.front.specs.Target.{Route, check, origin_of, route_of, parameters_of}
use Rattle.front.specs.Work.{Work, explained, refused, worked}

-- parameters that client libraries send by default, and that could change no answer here: how long to wait, and where to look first
abbrev pub names_time : List ℕ → Bool
names_time name = bytes_eq name (codes "master_timeout") || bytes_eq name (codes "preference") || bytes_eq name (codes "request_cache") || bytes_eq name (codes "timeout")

-- what to do about other indices
abbrev pub names_indices : List ℕ → Bool
names_indices name = bytes_eq name (codes "allow_no_indices") || bytes_eq name (codes "expand_wildcards") || bytes_eq name (codes "ignore_throttled") || bytes_eq name (codes "ignore_unavailable")

-- how to ask several shards
abbrev pub names_shards : List ℕ → Bool
names_shards name = bytes_eq name (codes "allow_partial_search_results") || bytes_eq name (codes "batched_reduce_size") || bytes_eq name (codes "ccs_minimize_roundtrips") || bytes_eq name (codes "max_concurrent_shard_requests") || bytes_eq name (codes "pre_filter_shard_size")

-- how to score, and how to spell what pages here don't have
abbrev pub names_form : List ℕ → Bool
names_form name = bytes_eq name (codes "error_trace") || bytes_eq name (codes "human") || bytes_eq name (codes "search_type") || bytes_eq name (codes "typed_keys")

abbrev pub is_idle_name : List ℕ → Bool
is_idle_name name = names_time name || names_indices name || names_shards name || names_form name

unfoldable pub is_idle : List ℕ → Bool
is_idle parameter = is_idle_name (cut_at 61 parameter).0

-- a parameter as it is done: `refresh=wait_for` becomes `refresh=true`, and one that could change no answer becomes empty, so that it counts for none
abbrev pub turned : List ℕ → List ℕ
turned parameter = if bytes_eq parameter (codes "refresh=wait_for") then codes "refresh=true" else (if is_idle parameter then [] else parameter)

abbrev pub turned_query : List ℕ → List ℕ
turned_query query = join_with_byte 38 (map turned (slice_split (λ b. b == 38) query))

abbrev pub with_query : List ℕ → Option (List ℕ) → List ℕ
with_query path None = path
with_query path (Some query) = path ++ (63 ∷ turned_query query)

abbrev pub turned_target : List ℕ → List ℕ
turned_target target = with_query (cut_at 63 target).0 (cut_at 63 target).1

abbrev pub is_head : Request → Bool
is_head r = bytes_eq r.method (codes "HEAD")

-- the request that is done in place of this one: a HEAD becomes a GET, and `refresh=wait_for` becomes `refresh=true`
abbrev pub turned_request : Request → Request
turned_request r = record { method = if is_head r then codes "GET" else r.method; target = turned_target r.target; body = r.body; encoded = r.encoded; sender = r.sender }

-- endpoints that older client libraries write after a type, in the place where this server reads an id
abbrev pub is_typed_id : List ℕ → Bool
is_typed_id id = bytes_eq id (codes "_search") || bytes_eq id (codes "_count") || bytes_eq id (codes "_bulk") || bytes_eq id (codes "_mget")

abbrev pub is_document : Endpoint → Bool
is_document Document = true
is_document e = false

abbrev pub part_alone : List ℕ × Option (List ℕ) → Option (List ℕ)
part_alone (part, None) = Some (percent_decode part)
part_alone (part, Some others) = None

-- the decoded part of a path that has only one
abbrev pub only_part : List ℕ → Option (List ℕ)
only_part [] = None
only_part (b ∷ bs) = if b == 47 then part_alone (cut_at 47 bs) else None

abbrev pub is_part : List ℕ → Option (List ℕ) → Bool
is_part index None = false
is_part index (Some part) = bytes_eq part index

-- whether the request is to make the index that is served
abbrev pub makes_index : List ℕ → Request → Bool
makes_index index r = bytes_eq r.method (codes "PUT") && is_part index (only_part (cut_at 63 (origin_of r.target)).0)

-- the fault of a path without an endpoint
abbrev pub unrouted : List ℕ → Request → Fault
unrouted index r = if makes_index index r then index_exists else no_handler

abbrev pub is_bulk : Endpoint → Bool
is_bulk Bulk = true
is_bulk e = false

-- whether an endpoint takes the request: no type stands before it, the body isn't encoded, and only a bulk is large; or the first fault
abbrev pub fits_route : Route → Request → Result ⊤ Fault
fits_route route r =
    check (not (is_document route.endpoint && is_typed_id route.id)) type_in_path
    >>= λ typed. check (not r.encoded) encoded_body
    >>= λ plain. check (is_bulk route.endpoint || nat_le (length r.body) 1048576) (of_head body_too_large)

-- client libraries take 404 for a document that isn't there, so a path without an endpoint has another page than that
abbrev pub handled_route : Fault → Request → Result Route Fault → Result ⊤ Fault
handled_route unrouted r (Err no_route) = Err unrouted
handled_route unrouted r (Err f) = Ok tt
handled_route unrouted r (Ok route) = fits_route route r

-- whether an endpoint has the path, and takes the request, or the first fault
unfoldable pub handled : List ℕ → Request → Result ⊤ Fault
handled index r = handled_route (unrouted index r) r (route_of (cut_at 63 (origin_of r.target)).0)

abbrev pub handled_work : Result ⊤ Fault → Work → Work
handled_work (Err f) work = refused f
handled_work (Ok u) work = work

unfoldable pub turned_work : List ℕ → MappingData → Request → Work
turned_work index mapping r = worked index mapping (ask true index mapping (turned_request r))

-- what is done for a request
abbrev pub greeted_work : List ℕ → MappingData → Request → Work
greeted_work index mapping r = handled_work (handled index r) (turned_work index mapping r)

abbrev pub greeting_for : Request → Welcome
greeting_for r = if is_head r || bytes_eq r.method (codes "GET") then Greeting else Nothing

-- `GET /` and `HEAD /` ask for the greeting, and HEAD of an index asks whether it is served
abbrev pub welcome_at : List ℕ → Request → Option (List ℕ) → Result Welcome Fault
welcome_at index r None = Ok Nothing
welcome_at index r (Some part) =
    if length part == 0 then Ok (greeting_for r)
    else (if is_head r && not (bytes_eq part (codes "_bulk")) then (if bytes_eq part index then Ok Presence else Err no_index) else Ok Nothing)

abbrev pub line_named : List ℕ → Option Report
line_named name = if bytes_eq name (codes "health") then Some report.HealthLine else (if bytes_eq name (codes "indices") then Some report.IndexLine else None)

abbrev pub health_named : List ℕ → Option Report
health_named name = if bytes_eq name (codes "health") then Some report.Health else None

abbrev pub report_named : List ℕ → Option Report
report_named name =
    if bytes_eq name (codes "_mapping") then Some report.Mapping
    else (if bytes_eq name (codes "_settings") then Some report.Settings
    else (if bytes_eq name (codes "_stats") then Some report.Stats else None))

-- what a path asks to know of the service
abbrev pub report_of_two : List ℕ → List ℕ → List ℕ → Option Report
report_of_two index a b =
    if bytes_eq a (codes "_cat") then line_named b
    else (if bytes_eq a (codes "_cluster") then health_named b
    else (if bytes_eq a index then report_named b else None))

abbrev pub report_of_one : List ℕ → List ℕ → Option Report
report_of_one index a = if bytes_eq a (codes "_metrics") then Some report.Metrics else (if bytes_eq a index then Some report.Index else None)

-- given the first part of a path, and what follows it, cut at its first `/`
abbrev pub report_after : List ℕ → List ℕ → List ℕ × Option (List ℕ) → Option Report
report_after index a (b, None) = report_of_two index a (percent_decode b)
report_after index a (b, Some others) = None

abbrev pub report_of_cut : List ℕ → List ℕ × Option (List ℕ) → Option Report
report_of_cut index (a, None) = report_of_one index (percent_decode a)
report_of_cut index (a, Some others) = report_after index (percent_decode a) (cut_at 47 others)

-- what the path of a request asks to know; the path has one part or two, and each is decoded
abbrev pub report_of : List ℕ → List ℕ → Option Report
report_of index [] = None
report_of index (b ∷ bs) = if b == 47 then report_of_cut index (cut_at 47 bs) else None

abbrev pub reporting : Option Report → Welcome
reporting None = Nothing
reporting (Some what) = Reporting what

-- a GET may ask for a report
abbrev pub or_report : List ℕ → Request → Welcome → Welcome
or_report index r Nothing = if is_head r || bytes_eq r.method (codes "GET") then reporting (report_of index (cut_at 63 (origin_of r.target)).0) else Nothing
or_report index r w = w

-- these requests may have the parameters that a GET of a document may have
abbrev pub fitting : List ℕ → Welcome → Result Welcome Fault
fitting query Nothing = Ok Nothing
fitting query w = parameters_of query >>= λ p. check (has_none p && has_no_page p) bad_parameter >>= λ fit. Ok w

-- what a request asks for that no command answers, or its first fault
unfoldable pub welcome_of : List ℕ → Request → Result Welcome Fault
welcome_of index r = welcome_at index r (only_part (cut_at 63 (origin_of r.target)).0) >>= λ w. fitting (turned_query (or_nothing (cut_at 63 (origin_of r.target)).1)) (or_report index r w)

abbrev pub greeting : List ℕ
greeting = codes "{\"cluster_name\":\"indexd\",\"cluster_uuid\":\"_na_\",\"name\":\"indexd\",\"tagline\":\"You Know, for Search\",\"version\":{\"build_flavor\":\"default\",\"build_snapshot\":false,\"minimum_index_compatibility_version\":\"6.0.0-beta1\",\"minimum_wire_compatibility_version\":\"6.8.0\",\"number\":\"7.10.2\"}}"

abbrev pub report_media : Report → Media
report_media report.HealthLine = media.Text
report_media report.IndexLine = media.Text
report_media report.Metrics = media.Text
report_media report.Index = media.JsonInUtf8
report_media report.Mapping = media.JsonInUtf8
report_media report.Settings = media.JsonInUtf8
report_media report.Stats = media.JsonInUtf8
report_media report.Health = media.JsonInUtf8

-- the page of a request, made from the page of what was done, and from a sentence that says why it is refused, or what the service reports of itself
abbrev pub welcome_page : Result Welcome Fault → List ℕ → List ℕ → List ℕ
welcome_page (Err f) why page = explained_page f why
welcome_page (Ok Nothing) why page = page
welcome_page (Ok Greeting) why page = response media.JsonInUtf8 status.Good [] greeting
welcome_page (Ok Presence) why page = response media.JsonInUtf8 status.Good [] []
welcome_page (Ok (Reporting what)) why page = response (report_media what) status.Good [] why

-- the page of a request, made from the page of its commands; a sentence says why it is refused
abbrev pub greeted_page : List ℕ → MappingData → Request → List ℕ → List ℕ → List ℕ
greeted_page index mapping r why page = welcome_page (welcome_of index r) why (explained (greeted_work index mapping r) true why page)
