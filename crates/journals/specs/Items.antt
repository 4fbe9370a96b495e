-- Operations and messages as JSON: arrays that begin with a word.
use Rattle.std.specs.Prelude.{ℕ, ℤ, List, [], ◌∷◌, map, codes}
use Rattle.serde_json.specs.Data.{Data, number, string, array, unsigned}
use Rattle.serde_json.specs.Find.{of_integer}
use Rattle.serde_json.specs.View.{items_of}
use Rattle.op.specs.declared.operation.Op.{Op}
use Rattle.op.specs.declared.operation.Body.{Body}
use Rattle.op.specs.declared.operation.Body.TheVariants.{Index, Delete, NoOp}
use Rattle.op.specs.declared.message.Msg.{Msg}
use Rattle.op.specs.declared.message.Content.{Content}
use Rattle.op.specs.declared.message.Content.TheVariants.{Op as Carries, Ack, Promoted, Resync, Track, Recover, Synced, Fail, Removed}

abbrev pub list_data : List Data → Data
list_data ds = array (items_of ds)

-- an array that begins with a word
abbrev pub worded : List ℕ → List Data → Data
worded word ds = list_data (string word ∷ ds)

abbrev pub natural : ℕ → Data
natural n = number (unsigned n)

abbrev pub integer : ℤ → Data
integer z = number (of_integer z)

abbrev pub body_word : Body → List ℕ
body_word (Index id source) = codes "index"
body_word (Delete id) = codes "delete"
body_word NoOp = codes "noop"

abbrev pub body_texts : Body → List Data
body_texts (Index id source) = string id ∷ string source ∷ []
body_texts (Delete id) = string id ∷ []
body_texts NoOp = []

-- an operation: its number, term and version, and the id and the source
unfoldable pub op_data : Op → Data
op_data o = worded (body_word o.body) (natural o.seq ∷ natural o.term ∷ natural o.version ∷ body_texts o.body)

unfoldable pub ops_data : List Op → Data
ops_data os = list_data (map op_data os)

unfoldable pub ids_data : List ℕ → Data
ids_data ids = list_data (map natural ids)

abbrev pub content_word : Content → List ℕ
content_word (Carries known o) = codes "op"
content_word (Ack seq local) = codes "ack"
content_word (Promoted ids) = codes "promoted"
content_word (Resync known tail) = codes "resync"
content_word (Track id) = codes "track"
content_word (Recover all) = codes "recover"
content_word (Synced id) = codes "synced"
content_word (Fail id) = codes "fail"
content_word (Removed id) = codes "removed"

abbrev pub content_data : Content → List Data
content_data (Carries known o) = integer known ∷ op_data o ∷ []
content_data (Ack seq local) = integer seq ∷ integer local ∷ []
content_data (Promoted ids) = ids_data ids ∷ []
content_data (Resync known tail) = integer known ∷ ops_data tail ∷ []
content_data (Track id) = natural id ∷ []
content_data (Recover all) = ops_data all ∷ []
content_data (Synced id) = natural id ∷ []
content_data (Fail id) = natural id ∷ []
content_data (Removed id) = natural id ∷ []

-- a message: its kind, from whom, to whom, its term, and what it says
unfoldable pub message_data : Msg → Data
message_data m = worded (content_word m.content) (natural m.from ∷ natural m.to ∷ natural m.term ∷ content_data m.content)

unfoldable pub messages_data : List Msg → Data
messages_data ms = list_data (map message_data ms)
