-- The pages that are written.
use Rattle.std.specs.Prelude.{ℕ, Bool, true, false, List, [], ◌∷◌, ◌++◌, length, take, drop, bytes_eq, codes, decimal, Option, Some, None, if◌then◌else◌}
use Rattle.json.specs.Print.{quoted}
use Rattle.doc.specs.Fault as doc
use Rattle.query.specs.Fault as query
use Rattle.front.specs.declared.page.Media.{Media}
use Rattle.front.specs.declared.page.Media.TheVariants as media
use Rattle.front.specs.declared.page.Status.{Status}
use Rattle.front.specs.declared.page.Status.TheVariants as status
use Rattle.front.specs.declared.reply.Wrote.{Wrote}
use Rattle.front.specs.declared.reply.Found.{Found}
use Rattle.front.specs.declared.reply.Hit.{Hit}
use Rattle.front.specs.declared.reply.Outcome.{Outcome}
use Rattle.front.specs.declared.reply.Outcome.TheVariants.{Created, Updated, Deleted, NotFound}
use Rattle.front.specs.declared.reply.Refusal.{Refusal}
use Rattle.front.specs.declared.reply.Refusal.TheVariants.{NotPrimary, VersionConflict, WindowFull, OldTerm, NotSynced, BeyondWindow, Mismatch, Closed, Log, NoMemory, WrongAddress, Exhausted, NoSuchCopy, NoSuchMessage, NotInSync, Gone, IsPrimary, Full}
use Rattle.front.specs.declared.target.Endpoint.{Endpoint}
use Rattle.front.specs.declared.target.Endpoint.TheVariants.{Document, Create, Search, Count, Refresh, Bulk, Promote}
use Rattle.front.specs.Command.{Command, write, bulk, get, search, count, refresh, promote}
use Rattle.wire.specs.Fault.{bad_head, transfer_coding, body_too_large}
use Rattle.front.specs.Fault.{Fault, of_head, no_route, no_index, bad_method, bad_parameter, bad_bulk, foreign_origin, foreign_host, type_in_path, no_handler, index_exists, encoded_body, of_document, of_query}
use Rattle.front.specs.Reply.{Reply, wrote, got, hits, counted, refreshed, promoted, refused}

abbrev pub number_of : Status → List ℕ
number_of status.Good = codes "200"
number_of status.Created = codes "201"
number_of status.BadRequest = codes "400"
number_of status.Forbidden = codes "403"
number_of status.NotFound = codes "404"
number_of status.BadMethod = codes "405"
number_of status.Conflict = codes "409"
number_of status.TooLarge = codes "413"
number_of status.Unsupported = codes "415"
number_of status.Misdirected = codes "421"
number_of status.TooMany = codes "429"
number_of status.NotImplemented = codes "501"
number_of status.Unavailable = codes "503"

abbrev pub reason_of : Status → List ℕ
reason_of status.Good = codes "OK"
reason_of status.Created = codes "Created"
reason_of status.BadRequest = codes "Bad Request"
reason_of status.Forbidden = codes "Forbidden"
reason_of status.NotFound = codes "Not Found"
reason_of status.BadMethod = codes "Method Not Allowed"
reason_of status.Conflict = codes "Conflict"
reason_of status.TooLarge = codes "Content Too Large"
reason_of status.Unsupported = codes "Unsupported Media Type"
reason_of status.Misdirected = codes "Misdirected Request"
reason_of status.TooMany = codes "Too Many Requests"
reason_of status.NotImplemented = codes "Not Implemented"
reason_of status.Unavailable = codes "Service Unavailable"

abbrev pub media_name : Media → List ℕ
media_name media.Json = codes "application/json"
media_name media.JsonInUtf8 = codes "application/json; charset=UTF-8"
media_name media.Text = codes "text/plain; charset=UTF-8"

-- the JSON of a server that greets or of one that doesn't
abbrev pub json : Bool → Media
json true = media.JsonInUtf8
json false = media.Json

unfoldable pub head_start : Media → Status → List ℕ
head_start m s = codes "HTTP/1.1 " ++ (number_of s ++ (codes " " ++ (reason_of s ++ (codes "\r\ncontent-type: " ++ (media_name m ++ codes "\r\ncontent-length: ")))))

-- the status line and the headers of a page whose body has this length, and the empty line
unfoldable pub response_head : Media → Status → List ℕ → ℕ → List ℕ
response_head m s allow n = head_start m s ++ (decimal n ++ (codes "\r\n" ++ (allow ++ codes "\r\n")))

-- the status line, the headers and the body
abbrev pub response : Media → Status → List ℕ → List ℕ → List ℕ
response m s allow body = response_head m s allow (length body) ++ body

-- what stands before the first empty line
abbrev pub before_empty : List ℕ → List ℕ
before_empty [] = []
before_empty (b ∷ bs) = if bytes_eq (take 4 (b ∷ bs)) (codes "\r\n\r\n") then [] else b ∷ before_empty bs

-- a head without its body, which no HEAD gets (RFC 9110, section 9.3.2)
unfoldable pub head_alone : List ℕ → List ℕ
head_alone page = before_empty page ++ codes "\r\n\r\n"

-- the page of a request, if it is a HEAD or not
abbrev pub headed : Bool → List ℕ → List ℕ
headed true page = head_alone page
headed false page = page

-- a page with more fields after its own
unfoldable pub with_fields : List ℕ → List ℕ → List ℕ
with_fields fields page = before_empty page ++ (fields ++ drop (length (before_empty page)) page)

abbrev pub methods_of : Endpoint → List ℕ
methods_of Document = codes "DELETE, GET, POST, PUT"
methods_of Create = codes "POST, PUT"
methods_of Bulk = codes "POST, PUT"
methods_of Search = codes "GET, POST"
methods_of Count = codes "GET, POST"
methods_of Refresh = codes "GET, POST"
methods_of Promote = codes "POST"

abbrev pub allow_of : Fault → List ℕ
allow_of (bad_method k) = codes "allow: " ++ (methods_of k ++ codes "\r\n")
allow_of f = []

-- the status and the type of a fault
abbrev pub kind_of : Fault → Status × List ℕ
kind_of (of_document f) = (status.BadRequest, codes "mapping_fault")
kind_of (of_query f) = (status.BadRequest, codes "query_fault")
kind_of (of_head bad_head) = (status.BadRequest, codes "request_fault")
kind_of bad_parameter = (status.BadRequest, codes "request_fault")
kind_of bad_bulk = (status.BadRequest, codes "request_fault")
kind_of type_in_path = (status.BadRequest, codes "request_fault")
kind_of no_handler = (status.BadRequest, codes "no_route")
kind_of encoded_body = (status.Unsupported, codes "content_encoding")
kind_of index_exists = (status.BadRequest, codes "resource_already_exists_exception")
kind_of foreign_origin = (status.Forbidden, codes "sender_fault")
kind_of foreign_host = (status.Misdirected, codes "sender_fault")
kind_of no_index = (status.NotFound, codes "index_not_found_exception")
kind_of no_route = (status.NotFound, codes "no_route")
kind_of (bad_method k) = (status.BadMethod, codes "method_fault")
kind_of (of_head body_too_large) = (status.TooLarge, codes "size_fault")
kind_of (of_head transfer_coding) = (status.NotImplemented, codes "transfer_coding")

abbrev pub name_of : Fault → List ℕ
name_of (of_document f) = doc.name_of f
name_of (of_query f) = query.name_of f
name_of (of_head bad_head) = codes "BadHead"
name_of bad_parameter = codes "BadParameter"
name_of bad_bulk = codes "BadBulk"
name_of type_in_path = codes "TypeInPath"
name_of no_handler = codes "NoHandler"
name_of encoded_body = codes "EncodedBody"
name_of index_exists = codes "IndexExists"
name_of foreign_origin = codes "ForeignOrigin"
name_of foreign_host = codes "ForeignHost"
name_of no_index = codes "NoIndex"
name_of no_route = codes "NoRoute"
name_of (bad_method k) = codes "BadMethod"
name_of (of_head body_too_large) = codes "BodyTooLarge"
name_of (of_head transfer_coding) = codes "TransferCoding"

abbrev pub refusal_name : Refusal → List ℕ
refusal_name NotPrimary = codes "NotPrimary"
refusal_name VersionConflict = codes "VersionConflict"
refusal_name WindowFull = codes "WindowFull"
refusal_name OldTerm = codes "OldTerm"
refusal_name NotSynced = codes "NotSynced"
refusal_name BeyondWindow = codes "BeyondWindow"
refusal_name Mismatch = codes "Mismatch"
refusal_name Closed = codes "Closed"
refusal_name Log = codes "Log"
refusal_name NoMemory = codes "NoMemory"
refusal_name WrongAddress = codes "WrongAddress"
refusal_name Exhausted = codes "Exhausted"
refusal_name NoSuchCopy = codes "NoSuchCopy"
refusal_name NoSuchMessage = codes "NoSuchMessage"
refusal_name NotInSync = codes "NotInSync"
refusal_name Gone = codes "Gone"
refusal_name IsPrimary = codes "IsPrimary"
refusal_name Full = codes "Full"

abbrev pub refusal_kind : Refusal → Status × List ℕ
refusal_kind VersionConflict = (status.Conflict, codes "version_conflict_engine_exception")
refusal_kind WindowFull = (status.TooMany, codes "window_full")
refusal_kind r = (status.Unavailable, codes "unavailable")

-- the object that names a fault or a refusal
unfoldable pub error : List ℕ → List ℕ → List ℕ
error name kind = codes "{\"reason\":\"" ++ (name ++ (codes "\",\"type\":\"" ++ (kind ++ codes "\"}")))

unfoldable pub error_body : List ℕ → Status × List ℕ → List ℕ
error_body name kind = codes "{\"error\":" ++ (error name kind.1 ++ (codes ",\"status\":" ++ (number_of kind.0 ++ codes "}")))

abbrev pub fault_page : Fault → List ℕ
fault_page f = response media.Json (kind_of f).0 (allow_of f) (error_body (name_of f) (kind_of f))

-- the type of a fault, as Elasticsearch names it where it has such a fault
abbrev pub type_of : Fault → List ℕ
type_of (of_document (doc.unmapped field)) = codes "strict_dynamic_mapping_exception"
type_of (of_document f) = codes "mapper_parsing_exception"
type_of (of_query f) = codes "parsing_exception"
type_of bad_parameter = codes "illegal_argument_exception"
type_of bad_bulk = codes "illegal_argument_exception"
type_of type_in_path = codes "illegal_argument_exception"
type_of no_handler = codes "illegal_argument_exception"
type_of f = (kind_of f).1

-- the object that names a refusal, and says in a sentence why
unfoldable pub told_error : List ℕ → List ℕ → List ℕ → List ℕ
told_error name sentence kind = codes "{\"name\":\"" ++ (name ++ (codes "\",\"reason\":" ++ (sentence ++ (codes ",\"type\":\"" ++ (kind ++ codes "\"}")))))

-- the object that says in a sentence why something is refused
unfoldable pub cause : List ℕ → List ℕ → List ℕ
cause sentence kind = codes "{\"reason\":" ++ (sentence ++ (codes ",\"type\":\"" ++ (kind ++ codes "\"}")))

unfoldable pub explained_error : List ℕ → List ℕ → List ℕ → List ℕ
explained_error name sentence kind =
    codes "{\"name\":\"" ++ (name ++ (codes "\",\"reason\":" ++ (sentence ++ (codes ",\"root_cause\":[" ++ (cause sentence kind ++ (codes "],\"type\":\"" ++ (kind ++ codes "\"}")))))))

unfoldable pub explained_body : List ℕ → List ℕ → List ℕ → Status → List ℕ
explained_body name sentence kind s = codes "{\"error\":" ++ (explained_error name sentence kind ++ (codes ",\"status\":" ++ (number_of s ++ codes "}")))

-- the page of a fault, with a sentence that says why
abbrev pub explained_page : Fault → List ℕ → List ℕ
explained_page f why = response media.JsonInUtf8 (kind_of f).0 (allow_of f) (explained_body (name_of f) (quoted why) (type_of f) (kind_of f).0)

-- the type of a refusal, as Elasticsearch names it
abbrev pub refusal_type : Refusal → List ℕ
refusal_type VersionConflict = codes "version_conflict_engine_exception"
refusal_type WindowFull = codes "es_rejected_execution_exception"
refusal_type r = codes "unavailable_shards_exception"

-- why a service refuses a command, in a sentence
abbrev pub refusal_words : Refusal → List ℕ
refusal_words NotPrimary = codes "no copy leads, or the one that led was followed by another before the write was confirmed, so the write may be kept or not"
refusal_words VersionConflict = codes "the document has other numbers than the write asks for, or it is there already"
refusal_words WindowFull = codes "too many writes wait for other copies"
refusal_words Mismatch = codes "the answer was of another kind than the command"
refusal_words Closed = codes "the copy is closed by a fault of its log"
refusal_words Log = codes "the log can't be written, so the write is there whole or not at all"
refusal_words NoMemory = codes "memory ran out"
refusal_words NoSuchCopy = codes "there is no such copy"
refusal_words NotInSync = codes "the copy isn't in sync"
refusal_words Gone = codes "the copy has left for good"
refusal_words IsPrimary = codes "the copy is the primary"
refusal_words Full = codes "the master's table is full"
refusal_words r = codes "the copy can't do it now"

abbrev pub refusal_page : Bool → Refusal → List ℕ
refusal_page false r = response media.Json (refusal_kind r).0 [] (error_body (refusal_name r) (refusal_kind r))
refusal_page true r = response media.JsonInUtf8 (refusal_kind r).0 [] (explained_body (refusal_name r) (quoted (refusal_words r)) (refusal_type r) (refusal_kind r).0)

unfoldable pub shards : ℕ → List ℕ
shards n = codes "{\"failed\":0,\"successful\":" ++ (decimal n ++ (codes ",\"total\":" ++ (decimal n ++ codes "}")))

abbrev pub outcome_name : Outcome → List ℕ
outcome_name Created = codes "created"
outcome_name Updated = codes "updated"
outcome_name Deleted = codes "deleted"
outcome_name NotFound = codes "not_found"

abbrev pub outcome_status : Outcome → Status
outcome_status Created = status.Created
outcome_status Updated = status.Good
outcome_status Deleted = status.Good
outcome_status NotFound = status.NotFound

-- the field of a document's type, by a server that greets: Elasticsearch 7 has one type
abbrev pub type_field : Bool → List ℕ
type_field true = codes ",\"_type\":\"_doc\""
type_field false = []

unfoldable pub index_field : Bool → List ℕ → List ℕ
index_field greets index = codes ",\"_index\":" ++ (quoted index ++ type_field greets)

-- the first fields in the object of a document: its id and its index
unfoldable pub place : Bool → List ℕ → List ℕ → List ℕ
place greets id index = codes "\"_id\":" ++ (quoted id ++ index_field greets index)

unfoldable pub wrote_front : Bool → List ℕ → List ℕ → Wrote → List ℕ
wrote_front greets id index w = place greets id index ++ (codes ",\"_primary_term\":" ++ (decimal w.term ++ (codes ",\"_seq_no\":" ++ decimal w.seq)))

unfoldable pub wrote_end : Wrote → List ℕ
wrote_end w = codes "\"_version\":" ++ (decimal w.version ++ (codes ",\"result\":\"" ++ (outcome_name w.outcome ++ codes "\"")))

unfoldable pub wrote_middle : Bool → List ℕ → List ℕ → Wrote → List ℕ
wrote_middle greets id index w = wrote_front greets id index w ++ (codes ",\"_shards\":" ++ shards w.copies)

unfoldable pub wrote_fields : Bool → List ℕ → List ℕ → Wrote → List ℕ
wrote_fields greets id index w = wrote_middle greets id index w ++ (codes "," ++ wrote_end w)

abbrev pub wrote_page : Bool → List ℕ → List ℕ → Wrote → List ℕ
wrote_page greets index id w = response (json greets) (outcome_status w.outcome) [] (codes "{" ++ (wrote_fields greets id index w ++ codes "}"))

unfoldable pub found_body : Bool → List ℕ → List ℕ → Found → List ℕ
found_body greets id index f =
    codes "{" ++ (place greets id index ++ (codes ",\"_primary_term\":" ++ (decimal f.term ++ (codes ",\"_seq_no\":" ++ (decimal f.seq ++ (codes ",\"_source\":" ++ (f.source
    ++ (codes ",\"_version\":" ++ (decimal f.version ++ codes ",\"found\":true}")))))))))

abbrev pub got_page : Bool → List ℕ → List ℕ → Option Found → List ℕ
got_page greets index id None = response (json greets) status.NotFound [] (codes "{" ++ (place greets id index ++ codes ",\"found\":false}"))
got_page greets index id (Some f) = response (json greets) status.Good [] (found_body greets id index f)

-- what stands between a hit's id and its source
unfoldable pub hit_middle : Bool → List ℕ → List ℕ
hit_middle greets index = index_field greets index ++ codes ",\"_score\":null,\"_source\":"

unfoldable pub hit_text : List ℕ → Hit → List ℕ
hit_text middle h = codes "{\"_id\":" ++ (quoted h.id ++ (middle ++ (h.source ++ codes "}")))

-- the hits, with a comma before each
abbrev pub more_hits : List ℕ → List Hit → List ℕ
more_hits middle [] = []
more_hits middle (h ∷ hs) = codes "," ++ (hit_text middle h ++ more_hits middle hs)

abbrev pub hits_text : List ℕ → List Hit → List ℕ
hits_text middle [] = []
hits_text middle (h ∷ hs) = hit_text middle h ++ more_hits middle hs

-- what stands after the hits
unfoldable pub hits_end : ℕ → List ℕ
hits_end total = codes "],\"max_score\":null,\"total\":{\"relation\":\"eq\",\"value\":" ++ (decimal total ++ codes "}},\"timed_out\":false,\"took\":0}")

unfoldable pub hits_body : Bool → List ℕ → ℕ → List Hit → List ℕ
hits_body greets index total hs =
    codes "{\"_shards\":{\"failed\":0,\"skipped\":0,\"successful\":1,\"total\":1},\"hits\":{\"hits\":[" ++ (hits_text (hit_middle greets index) hs ++ hits_end total)

unfoldable pub counted_body : ℕ → List ℕ
counted_body n = codes "{\"_shards\":{\"failed\":0,\"skipped\":0,\"successful\":1,\"total\":1},\"count\":" ++ (decimal n ++ codes "}")

unfoldable pub refreshed_body : ℕ → List ℕ
refreshed_body n = codes "{\"_shards\":" ++ (shards n ++ codes "}")

unfoldable pub promoted_body : ℕ → ℕ → List ℕ
promoted_body copy term = codes "{\"acknowledged\":true,\"primary\":" ++ (decimal copy ++ (codes ",\"primary_term\":" ++ (decimal term ++ codes "}")))

-- what a page is about
pub data Subject : Type 0 where
  written : List ℕ → Subject
  bulking : Subject
  sought : List ℕ → Subject
  searching : Subject
  counting : Subject
  refreshing : Subject
  promoting : Subject

abbrev pub subject_of : Command → Subject
subject_of (write w) = written w.id
subject_of (bulk ws) = bulking
subject_of (get id) = sought id
subject_of (search q p) = searching
subject_of (count q) = counting
subject_of refresh = refreshing
subject_of (promote copy) = promoting

-- the page of a reply; for a reply of another kind than the command's, the page of the refusal `Mismatch`
abbrev pub reply_page : Bool → List ℕ → Subject → Reply → List ℕ
reply_page greets index s (refused r) = refusal_page greets r
reply_page greets index (written id) (wrote w) = wrote_page greets index id w
reply_page greets index (sought id) (got f) = got_page greets index id f
reply_page greets index searching (hits total hs) = response (json greets) status.Good [] (hits_body greets index total hs)
reply_page greets index counting (counted n) = response (json greets) status.Good [] (counted_body n)
reply_page greets index refreshing (refreshed n) = response (json greets) status.Good [] (refreshed_body n)
reply_page greets index promoting (promoted copy term) = response (json greets) status.Good [] (promoted_body copy term)
reply_page greets index s r = refusal_page greets Mismatch
