-- The lines of a bulk.
use Rattle.std.specs.Prelude.{ℕ, ◌^◌, ◌==◌, ◌&&◌, ◌||◌, Bool, true, false, List, [], ◌∷◌, ◌++◌, bytes_eq, codes, nat_lt, length, Option, Some, None, Result, Ok, Err, if◌then◌else◌}
use Rattle.std.specs.List.{slice_split}
use Rattle.serde_json.specs.Data.{unsigned, negative, float, Data, null, boolean, number, string, array, object, Members, no_members, member}
use Rattle.serde_json.specs.Find.{get}
use Rattle.serde_json.specs.Read.{read}
use Rattle.doc.specs.Mapping.{all_keys}
use Rattle.doc.specs.Outcome.{◌>>=◌}
use Rattle.front.specs.declared.bulk.Action.{Action}
use Rattle.front.specs.declared.bulk.Action.TheVariants.{Index, Create, Delete}
use Rattle.front.specs.declared.command.Condition.{Condition}
use Rattle.front.specs.Item.{Item}
use Rattle.wire.specs.Pieces.{text_of}
use Rattle.front.specs.Fault.{Fault, bad_bulk}
use Rattle.front.specs.Target.{check}

-- what an action line says
pub record Line : Type 0 where
  pub action : Action
  pub id : List ℕ
  pub index : List ℕ
  pub condition : Option Condition

abbrev pub members_of : Data → Result Members Fault
members_of null = Err bad_bulk
members_of (boolean b) = Err bad_bulk
members_of (number n) = Err bad_bulk
members_of (string s) = Err bad_bulk
members_of (array ds) = Err bad_bulk
members_of (object ms) = Ok ms

-- the only member of an object
abbrev pub only : Members → Result (List ℕ × Data) Fault
only no_members = Err bad_bulk
only (member k d no_members) = Ok (k, d)
only (member k d (member l e ms)) = Err bad_bulk

abbrev pub text_in : Option Data → Result (List ℕ) Fault
text_in None = Err bad_bulk
text_in (Some null) = Err bad_bulk
text_in (Some (boolean b)) = Err bad_bulk
text_in (Some (number n)) = Err bad_bulk
text_in (Some (string s)) = Ok s
text_in (Some (array ds)) = Err bad_bulk
text_in (Some (object ms)) = Err bad_bulk

-- the text of a member; if the member is missing, the index of the path
abbrev pub text_or : Option (List ℕ) → Option Data → Result (List ℕ) Fault
text_or None d = text_in d
text_or (Some path) None = Ok path
text_or (Some path) (Some d) = text_in (Some d)

-- a number of at most 9,223,372,036,854,775,807, if there is one
abbrev pub number_in : Option Data → Result (Option ℕ) Fault
number_in None = Ok None
number_in (Some null) = Err bad_bulk
number_in (Some (boolean b)) = Err bad_bulk
number_in (Some (number (unsigned n))) = if nat_lt n (2 ^ 63) then Ok (Some n) else Err bad_bulk
number_in (Some (number (negative z))) = Err bad_bulk
number_in (Some (number (float x))) = Err bad_bulk
number_in (Some (string s)) = Err bad_bulk
number_in (Some (array ds)) = Err bad_bulk
number_in (Some (object ms)) = Err bad_bulk

-- both numbers of a condition or neither, and neither if the action creates a document
abbrev pub condition_in : Action → Option ℕ → Option ℕ → Result (Option Condition) Fault
condition_in a None None = Ok None
condition_in a None (Some term) = Err bad_bulk
condition_in a (Some seq) None = Err bad_bulk
condition_in Index (Some seq) (Some term) = Ok (Some (record { seq = seq; term = term }))
condition_in Delete (Some seq) (Some term) = Ok (Some (record { seq = seq; term = term }))
condition_in Create (Some seq) (Some term) = Err bad_bulk

abbrev pub action_of : List ℕ → Result Action Fault
action_of name =
    if bytes_eq name (codes "index") then Ok Index
    else (if bytes_eq name (codes "create") then Ok Create
    else (if bytes_eq name (codes "delete") then Ok Delete else Err bad_bulk))

-- a server that greets knows the key by which older client libraries name a type
abbrev pub is_line_key : Bool → List ℕ → Bool
is_line_key greets k = bytes_eq k (codes "_id") || bytes_eq k (codes "_index") || bytes_eq k (codes "if_seq_no") || bytes_eq k (codes "if_primary_term") || (greets && bytes_eq k (codes "_type"))

-- the one type that there is, if a type is named
abbrev pub is_known_type : Option Data → Bool
is_known_type None = true
is_known_type (Some null) = false
is_known_type (Some (boolean b)) = false
is_known_type (Some (number n)) = false
is_known_type (Some (string s)) = bytes_eq s (codes "_doc")
is_known_type (Some (array ds)) = false
is_known_type (Some (object ms)) = false

abbrev pub value_or_bad : Option Data → Result Data Fault
value_or_bad None = Err bad_bulk
value_or_bad (Some d) = Ok d

abbrev pub line_value : Option (List ℕ) → Result Data Fault
line_value None = Err bad_bulk
line_value (Some text) = value_or_bad (read text)

unfoldable pub line_of : Bool → Option (List ℕ) → List ℕ → Result Line Fault
line_of greets path line = do
  d ← line_value (text_of line)
  ms ← members_of d
  x ← only ms
  a ← action_of x.0
  keys ← members_of x.1
  known ← check (all_keys (is_line_key greets) keys) bad_bulk
  typed ← check (is_known_type (get (codes "_type") x.1)) bad_bulk
  id ← text_in (get (codes "_id") x.1)
  index ← text_or path (get (codes "_index") x.1)
  seq ← number_in (get (codes "if_seq_no") x.1)
  term ← number_in (get (codes "if_primary_term") x.1)
  condition ← condition_in a seq term
  Ok (record { action = a; id = id; index = index; condition = condition })

abbrev pub takes_source : Action → Bool
takes_source Index = true
takes_source Create = true
takes_source Delete = false

abbrev pub item_of : Line → List ℕ → Item
item_of l source = record { action = l.action; id = l.id; index = l.index; condition = l.condition; source = source }

-- the line that waits for its source, and the items that are whole
abbrev pub begun_or_whole : Line → Bool → Option Line × List Item
begun_or_whole l true = (Some l, [])
begun_or_whole l false = (None, item_of l [] ∷ [])

-- whether a line is empty; it may end with "\r\n"
abbrev pub is_blank : List ℕ → Bool
is_blank line = length line == 0 || bytes_eq line (codes "\r")

abbrev pub began : Bool → Option (List ℕ) → List ℕ → Result (Option Line × List Item) Fault
began greets path line = line_of greets path line >>= λ l. Ok (begun_or_whole l (takes_source l.action))

-- takes one more line; a server that greets reads over an empty one where an action line may stand
abbrev pub took : Bool → Option (List ℕ) → Option Line → List ℕ → Result (Option Line × List Item) Fault
took greets path (Some l) source = Ok (None, item_of l source ∷ [])
took greets path None line = if greets && is_blank line then Ok (None, []) else began greets path line

-- takes one more line, with the items before it in front
abbrev pub took_more : Bool → Option (List ℕ) → Option Line → List ℕ → List Item → Result (Option Line × List Item) Fault
took_more greets path s line front = took greets path s line >>= λ t. Ok (t.0, front ++ t.1)

abbrev pub begun_more : Bool → Option (List ℕ) → List ℕ → List Item → Result (Option Line × List Item) Fault
begun_more greets path line front = began greets path line >>= λ t. Ok (t.0, front ++ t.1)

-- nothing follows the last newline, and no line waits for its source
abbrev pub ended : Option Line → List ℕ → Result (List Item) Fault
ended (Some l) rest = Err bad_bulk
ended None rest = if length rest == 0 then Ok [] else Err bad_bulk

-- the items of the parts between newlines
abbrev pub items_from : Bool → Option (List ℕ) → Option Line → List (List ℕ) → Result (List Item) Fault
items_from greets path s [] = Err bad_bulk
items_from greets path s (last ∷ []) = ended s last
items_from greets path s (line ∷ p ∷ ps) = took greets path s line >>= λ t. items_from greets path t.0 (p ∷ ps) >>= λ items. Ok (t.1 ++ items)

-- the items of the parts between newlines, with the items before them in front
abbrev pub items_more : Bool → Option (List ℕ) → Option Line → List (List ℕ) → List Item → Result (List Item) Fault
items_more greets path s parts front = items_from greets path s parts >>= λ items. Ok (front ++ items)

abbrev pub ended_more : Option Line → List ℕ → List Item → Result (List Item) Fault
ended_more s rest front = ended s rest >>= λ items. Ok (front ++ items)

-- there is an item
abbrev pub some_items : List Item → Result (List Item) Fault
some_items [] = Err bad_bulk
some_items (i ∷ is) = Ok (i ∷ is)

abbrev pub ended_whole : Option Line → List ℕ → List Item → Result (List Item) Fault
ended_whole s rest front = ended_more s rest front >>= some_items

-- the items of a body, of which there is one at least
unfoldable pub items_in : Bool → Option (List ℕ) → List ℕ → Result (List Item) Fault
items_in greets path body = items_from greets path None (slice_split (λ b. b == 10) body) >>= some_items
