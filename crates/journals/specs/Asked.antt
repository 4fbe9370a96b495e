-- What a node was asked, as JSON.
use Rattle.std.specs.Prelude.{ℕ, List, [], ◌∷◌, ◌++◌, map, codes, Option, Some, None}
use Rattle.serde_json.specs.Data.{Data, string}
use Rattle.replica.specs.declared.input.Condition.{Condition}
use Rattle.replica.specs.declared.input.OpType.{OpType}
use Rattle.replica.specs.declared.input.OpType.TheVariants.{Index, Create, Delete}
use Rattle.replica.specs.declared.input.Write.{Write}
use Rattle.replica.specs.declared.input.Input.{Input}
use Rattle.replica.specs.declared.input.Input.TheVariants.{Write as Client, Bulk, Take, Report, Refresh, Get, Restart}
use Rattle.master.specs.declared.state.Request.{Request}
use Rattle.master.specs.declared.state.Request.TheVariants.{Promote, Allocate, Synced, Fail}
use Rattle.journals.specs.Items.{worded, natural, message_data}

abbrev pub set_word : Option Condition → List ℕ
set_word None = codes "put"
set_word (Some c) = codes "putif"

abbrev pub delete_word : Option Condition → List ℕ
delete_word None = codes "del"
delete_word (Some c) = codes "delif"

abbrev pub write_word : OpType → List ℕ
write_word (Index source condition) = set_word condition
write_word (Create source) = codes "create"
write_word (Delete condition) = delete_word condition

abbrev pub condition_data : Option Condition → List Data
condition_data None = []
condition_data (Some c) = natural c.seq ∷ natural c.term ∷ []

-- a write's condition, its id, and its source
abbrev pub write_data : List ℕ → OpType → List Data
write_data id (Index source condition) = condition_data condition ++ (string id ∷ string source ∷ [])
write_data id (Create source) = string id ∷ string source ∷ []
write_data id (Delete condition) = condition_data condition ++ (string id ∷ [])

-- a write of a bulk, as a copy that is asked it alone
unfoldable pub client_data : Write → Data
client_data w = worded (write_word w.kind) (write_data w.id w.kind)

abbrev pub input_word : Input → List ℕ
input_word (Client w) = write_word w.kind
input_word (Bulk ws) = codes "bulk"
input_word (Take m) = codes "take"
input_word (Report id) = codes "report"
input_word Refresh = codes "refresh"
input_word (Get id) = codes "get"
input_word Restart = codes "restart"

abbrev pub input_items : Input → List Data
input_items (Client w) = write_data w.id w.kind
input_items (Bulk ws) = map client_data ws
input_items (Take m) = message_data m ∷ []
input_items (Report id) = natural id ∷ []
input_items Refresh = []
input_items (Get id) = string id ∷ []
input_items Restart = []

-- what a copy was asked, in a script's words
unfoldable pub input_data : Input → Data
input_data i = worded (input_word i) (input_items i)

abbrev pub request_word : Request → List ℕ
request_word (Promote id) = codes "promote"
request_word Allocate = codes "allocate"
request_word (Synced term id) = codes "synced"
request_word (Fail term id) = codes "fail"

abbrev pub request_items : Request → List Data
request_items (Promote id) = natural id ∷ []
request_items Allocate = []
request_items (Synced term id) = natural term ∷ natural id ∷ []
request_items (Fail term id) = natural term ∷ natural id ∷ []

-- what the master was asked
unfoldable pub request_data : Request → Data
request_data r = worded (request_word r) (request_items r)
