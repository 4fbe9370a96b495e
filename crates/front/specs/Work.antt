-- What a request asks, and its page.
use Rattle.std.specs.Prelude.{◌≡◌, ℕ, Bool, true, false, List, [], ◌∷◌, Result, Ok, Err}
use Rattle.doc.specs.Mapping.{MappingData}
use Rattle.front.specs.Asking.{ask}
use Rattle.front.specs.Bulk.{bulk_commands, to_writes, behind_writes, bulk_texts, bulk_refusal, bulk_page}
use Rattle.front.specs.Command.{Command}
use Rattle.front.specs.Fault.{Fault, of_head}
use Rattle.front.specs.Item.{Item, Asked, one, many}
use Rattle.front.specs.Page.{subject_of, explained_page, fault_page, reply_page}
use Rattle.front.specs.Reply.{Reply}
use Rattle.wire.specs.Requests.{Standing, bad, good}

-- what is done for a request
pub data Work : Type 0 where
  refused : Fault → Work
  single : Command → Work
  bulk : List ℕ → MappingData → Bool → List Item → Work

abbrev pub worked : List ℕ → MappingData → Result Asked Fault → Work
worked index mapping (Err f) = refused f
worked index mapping (Ok (one c)) = single c
worked index mapping (Ok (many wanted items)) = bulk index mapping wanted items

abbrev pub work_of : List ℕ → MappingData → Standing → Work
work_of index mapping (bad f) = refused (of_head f)
work_of index mapping (good r) = worked index mapping (ask false index mapping r)

abbrev pub commands : Work → List Command
commands (refused f) = []
commands (single c) = c ∷ []
commands (bulk index mapping wanted items) = bulk_commands index mapping wanted items

abbrev pub single_page : Bool → List ℕ → Command → List Reply → List ℕ
single_page greets index c [] = []
single_page greets index c (r ∷ rs) = reply_page greets index (subject_of c) r

-- the page of what was done, by a server that greets or one that doesn't, with a sentence for each item of a bulk that has a fault
abbrev pub page : Bool → List (List ℕ) → List ℕ → Work → List Reply → List ℕ
page greets whys index (refused f) replies = fault_page f
page greets whys index (single c) replies = single_page greets index c replies
page greets whys index (bulk served mapping wanted items) replies = bulk_page greets (bulk_texts served mapping greets items whys (to_writes served mapping items replies)) (bulk_refusal (behind_writes served mapping items replies))

-- the page of a request; if it is refused by a server that greets, its page has a sentence
abbrev pub explained : Work → Bool → List ℕ → List ℕ → List ℕ
explained (refused f) true why page = explained_page f why
explained (refused f) false why page = page
explained (single c) greets why page = page
explained (bulk index mapping wanted items) greets why page = page

-- the page of a fault, by a server that greets or one that doesn't
pub record IsRefusedPage (greets : Bool) (f : Fault) (out : List ℕ) : Type 0 where
  pub why : List ℕ
  pub is : out ≡ explained (refused f) greets why (fault_page f)
