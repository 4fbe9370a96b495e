-- The lines of a journal: each is an object of JSON.
use Rattle.std.specs.Prelude.{◌≡◌, ◌<◌, ℕ, suc, ◌==◌, List, [], ◌∷◌, Bool, true, false, codes, Option, Some, None, IfSome, slice_get, Result, Ok, Err}
use Rattle.std.specs.List.{slice_split}
use Rattle.serde_json.specs.Data.{Data}
use Rattle.serde_json.specs.Find.{get}
use Rattle.serde_json.specs.Read.{read}
use Rattle.op.specs.declared.message.Msg.{Msg}
use Rattle.replica.specs.declared.output.Output.{Output}
use Rattle.replica.specs.declared.fault.CopyFault.{CopyFault}
use Rattle.master.specs.declared.state.Decision.{Decision}
use Rattle.master.specs.declared.fault.MasterFault.{MasterFault}
use Rattle.journal.specs.declared.journal.Deed.{Deed}
use Rattle.journal.specs.declared.journal.Ruling.{Ruling}
use Rattle.journal.specs.declared.journal.Journal.{Journal}
use Rattle.journal.specs.declared.journal.Journal.TheVariants.{OfMaster, OfCopy}
use Rattle.journal.specs.Opening.{born}
use Rattle.master.specs.State.{begun}
use Rattle.doc.specs.Mapping.{MappingData, mapping_of}
use Rattle.wire.specs.Pieces.{cut_at}
use Rattle.journals.specs.Items.{natural, worded, message_data, messages_data, ops_data}
use Rattle.journals.specs.Asked.{input_data, request_data}
use Rattle.journals.specs.Answered.{answer_data, denial_data, fault_data}

-- the object has this member
abbrev pub Has : Data → List ℕ → Data → Type 0
Has d key value = get key d ≡ Some value

-- what a copy gave
pub record TellsOutput (d : Data) (o : Output) : Type 0 where
  pub answered : Has d (codes "answered") (answer_data o.answer)
  pub sent : Has d (codes "sent") (messages_data o.sent)
  pub acknowledged : Has d (codes "acknowledged") (ops_data o.acknowledged)
  pub members : Has d (codes "members") (natural o.members)

abbrev pub TellsAnswer : Data → Result Output CopyFault → Type 0
TellsAnswer d (Ok o) = TellsOutput d o
TellsAnswer d (Err f) = Has d (codes "answered") (fault_data f)

-- an entry of a copy
pub record TellsDeed (d : Data) (deed : Deed) : Type 0 where
  pub pass : Has d (codes "pass") (natural deed.pass)
  pub asked : Has d (codes "asked") (input_data deed.input)
  pub answer : TellsAnswer d deed.answer

abbrev pub decision_word : Bool → List ℕ
decision_word true = codes "repeated"
decision_word false = codes "decided"

abbrev pub given_data : Option ℕ → List Data
given_data None = []
given_data (Some id) = natural id ∷ []

abbrev pub decided_data : Bool → Option ℕ → Data
decided_data repeated given = worded (decision_word repeated) (given_data given)

-- the message of a decision, which has one or none
abbrev pub TellsSent : Option Data → Option Msg → Type 0
TellsSent None None = Unit {0}
TellsSent None (Some m) = ⊥
TellsSent (Some d) None = ⊥
TellsSent (Some d) (Some m) = d ≡ message_data m

pub record TellsDecision (d : Data) (it : Decision) : Type 0 where
  pub answered : Has d (codes "answered") (decided_data it.repeated it.given)
  pub sent : TellsSent (get (codes "sent") d) it.sent

abbrev pub TellsRuled : Data → Result Decision MasterFault → Type 0
TellsRuled d (Ok it) = TellsDecision d it
TellsRuled d (Err f) = Has d (codes "answered") (denial_data f)

-- an entry of the master
pub record TellsRuling (d : Data) (r : Ruling) : Type 0 where
  pub pass : Has d (codes "pass") (natural r.pass)
  pub asked : Has d (codes "asked") (request_data r.request)
  pub answer : TellsRuled d r.answer

-- the entry at a place of a journal
abbrev pub TellsEntry : Data → Journal → ℕ → Type 0
TellsEntry d (OfMaster s rulings) place = IfSome (slice_get rulings place) (TellsRuling d)
TellsEntry d (OfCopy c deeds) place = IfSome (slice_get deeds place) (TellsDeed d)

-- ---- texts

-- a line is the JSON of a value that tells this
pub record IsLineOf {A : Type 0} (Tells : Data → A → Type 0) (line : List ℕ) (a : A) : Type 0 where
  pub value : Data
  pub reads : read line ≡ Some value
  pub tells : Tells value a

-- the parts between newlines are lines of these, in order; nothing stands after the last newline
abbrev pub AreLinesOf : {A : Type 0} → (Data → A → Type 0) → List (List ℕ) → List A → Type 0
AreLinesOf Tells [] xs = ⊥
AreLinesOf Tells (last ∷ []) [] = last ≡ []
AreLinesOf Tells (last ∷ []) (a ∷ xs) = ⊥
AreLinesOf Tells (line ∷ next ∷ parts) [] = ⊥
AreLinesOf Tells (line ∷ next ∷ parts) (a ∷ xs) = IsLineOf Tells line a × AreLinesOf Tells (next ∷ parts) xs

-- the text is lines of these
abbrev pub IsTextOf : {A : Type 0} → (Data → A → Type 0) → List ℕ → List A → Type 0
IsTextOf Tells text xs = AreLinesOf Tells (slice_split (λ b. b == 10) text) xs

-- the first line of a node's text: how many copies the index began with, its mapping, and the node
pub record TellsHead (copies node : ℕ) (mapping : MappingData) (d : Data) : Type 0 where
  pub begins : Has d (codes "copies") (natural copies)
  pub names : Has d (codes "node") (natural node)
  pub given : Data
  pub has : Has d (codes "mapping") given
  pub reads : mapping_of given ≡ Ok mapping

abbrev pub IsHead : ℕ → ℕ → MappingData → List ℕ → Type 0
IsHead copies node mapping line = (d : Data) × (read line ≡ Some d) × TellsHead copies node mapping d

-- a first line, and after its newline the lines of these
pub record IsHeaded {A : Type 0} (Head : List ℕ → Type 0) (Tells : Data → A → Type 0) (text : List ℕ) (xs : List A) : Type 0 where
  pub first : List ℕ
  pub rest : List ℕ
  pub cut : cut_at 10 text ≡ (first, Some rest)
  pub head : Head first
  pub lines : IsTextOf Tells rest xs

-- the text of a node's journal, which begins as in a new index: node 0 is the master
abbrev pub IsTextOfNode : ℕ → MappingData → ℕ → List ℕ → Journal → Type 0
IsTextOfNode copies mapping node text (OfMaster s rulings) = (node ≡ 0) × (s ≡ begun copies) × IsHeaded (IsHead copies node mapping) TellsRuling text rulings
IsTextOfNode copies mapping node text (OfCopy c deeds) = (0 < node) × (c ≡ born mapping copies node) × IsHeaded (IsHead copies node mapping) TellsDeed text deeds

-- the texts of the nodes from one on, in order
abbrev pub AreTexts : ℕ → MappingData → ℕ → List (List ℕ) → List Journal → Type 0
AreTexts copies mapping node [] [] = Unit {0}
AreTexts copies mapping node [] (j ∷ js) = ⊥
AreTexts copies mapping node (t ∷ ts) [] = ⊥
AreTexts copies mapping node (t ∷ ts) (j ∷ js) = IsTextOfNode copies mapping node t j × AreTexts copies mapping (suc node) ts js

-- the texts are those of these journals, one of each node, of an index with this mapping
abbrev pub IsRead : List (List ℕ) → MappingData → List Journal → Type 0
IsRead texts mapping journals = (copies : ℕ) × AreTexts copies mapping 0 texts journals
