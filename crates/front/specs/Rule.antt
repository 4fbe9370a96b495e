-- The rule by which requests are answered.
use Rattle.std.specs.Prelude.{◌≡◌, ◌++◌, [], ℕ, Bool, true, false, codes, decimal, List, Option, Some, None, Result, Ok, Err, ⊤, if◌then◌else◌}
use Rattle.doc.specs.Mapping.{MappingData}
use Rattle.wire.specs.Framing.{Request}
use Rattle.wire.specs.Requests.{Standing, bad, good}
use Rattle.front.specs.Admission.{Admission, admitted, is_preflight, preflight_page, opened}
use Rattle.front.specs.Asking.{ask}
use Rattle.front.specs.Command.{Command}
use Rattle.front.specs.Fault.{Fault, of_head}
use Rattle.front.specs.Greeting.{greeted_work, greeted_page, is_head}
use Rattle.front.specs.Page.{headed, with_fields}
use Rattle.front.specs.Reply.{Reply}
use Rattle.front.specs.Serving.{Answered}
use Rattle.front.specs.Work.{Work, explained, refused, worked}

-- whether requests are answered as the client libraries of Elasticsearch expect, who may ask, how many bytes a body may have, and for how many seconds a
-- client should keep a connection that asks nothing, if it is told so
pub record Rule : Type 0 where
  pub greets : Bool
  pub admission : Admission
  pub most : ℕ
  pub idle : Option ℕ

abbrev pub work_if : Bool → List ℕ → MappingData → Request → Work
work_if true index mapping r = greeted_work index mapping r
work_if false index mapping r = worked index mapping (ask false index mapping r)

abbrev pub page_if : Bool → List ℕ → MappingData → Request → List ℕ → List ℕ → List ℕ
page_if true index mapping r why page = greeted_page index mapping r why page
page_if false index mapping r why page = page

-- nothing is done for a sender that may not ask
abbrev pub admitted_work : Result ⊤ Fault → Bool → List ℕ → MappingData → Request → Work
admitted_work (Err f) greets index mapping r = refused f
admitted_work (Ok u) greets index mapping r = work_if greets index mapping r

-- the page for a sender that may ask
abbrev pub opened_for : Rule → Request → List ℕ → List ℕ
opened_for rule r page = opened rule.admission r.sender.origins (if is_preflight r then preflight_page else page)

abbrev pub opened_page : Rule → List ℕ → MappingData → Request → List ℕ → List ℕ → List ℕ
opened_page rule index mapping r why page = opened_for rule r (page_if rule.greets index mapping r why page)

abbrev pub admitted_page : Result ⊤ Fault → Rule → List ℕ → MappingData → Request → List ℕ → List ℕ → List ℕ
admitted_page (Err f) rule index mapping r why page = explained (refused f) rule.greets why page
admitted_page (Ok u) rule index mapping r why page = opened_page rule index mapping r why page

-- what is done for a request
abbrev pub work_by : Rule → List ℕ → MappingData → Standing → Work
work_by rule index mapping (bad f) = refused (of_head f)
work_by rule index mapping (good r) = admitted_work (admitted rule.admission r.sender) rule.greets index mapping r

-- no HEAD gets a body
abbrev pub plain_page : Rule → List ℕ → MappingData → Standing → List ℕ → List ℕ → List ℕ
plain_page rule index mapping (bad f) why page = explained (refused (of_head f)) rule.greets why page
plain_page rule index mapping (good r) why page = headed (is_head r) (admitted_page (admitted rule.admission r.sender) rule index mapping r why page)

-- the field by which client libraries of Elasticsearch know its server
abbrev pub product : List ℕ
product = codes "\r\nx-elastic-product: Elasticsearch"

-- the field that tells a client for how long it should keep a connection, so that it doesn't ask over one that ends just then
abbrev pub keep_alive : Option ℕ → List ℕ
keep_alive None = []
keep_alive (Some n) = codes "\r\nkeep-alive: timeout=" ++ decimal n

abbrev pub signed : Bool → Option ℕ → List ℕ → List ℕ
signed true idle page = with_fields (product ++ keep_alive idle) page
signed false idle page = page

-- the page of a request, made from the page of its commands; with a sentence, if it is refused by a server that greets
abbrev pub page_by : Rule → List ℕ → MappingData → Standing → List ℕ → List ℕ → List ℕ
page_by rule index mapping q why page = signed rule.greets rule.idle (plain_page rule index mapping q why page)

-- the service was called with exactly the commands of some work, and what is written is made from its page and a sentence
pub record Turned {S : Type 0} (greets : Bool) (answers : S → Command → Reply → S → Type 0) (index : List ℕ) (w : Work) (turn : List ℕ → List ℕ → List ℕ) (s : S) (out : List ℕ) (t : S) : Type 0 where
  pub page : List ℕ
  pub why : List ℕ
  pub answered : Answered greets answers index w s page t
  pub is_page : out ≡ turn why page

-- a request was answered by this rule
abbrev pub AnsweredBy : {S : Type 0} → Rule → (S → Command → Reply → S → Type 0) → List ℕ → MappingData → Standing → S → List ℕ → S → Type 0
AnsweredBy rule answers index mapping q s out t = Turned rule.greets answers index (work_by rule index mapping q) (page_by rule index mapping q) s out t
