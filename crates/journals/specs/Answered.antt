-- What a node answered, as JSON.
use Rattle.std.specs.Prelude.{ℕ, List, [], ◌∷◌, map, codes}
use Rattle.serde_json.specs.Data.{Data, string}
use Rattle.translog.specs.declared.fault.LogFault.{LogFault}
use Rattle.translog.specs.declared.fault.LogFault.TheVariants.{BadMagic, Damaged, Device, NoMemory as NoRoom, TooLarge}
use Rattle.replica.specs.declared.output.Outcome.{Outcome}
use Rattle.replica.specs.declared.output.Outcome.TheVariants.{Created, Updated, Deleted, NotFound}
use Rattle.replica.specs.declared.output.Written.{Written}
use Rattle.replica.specs.declared.output.Item.{Item}
use Rattle.replica.specs.declared.output.Item.TheVariants.{Wrote as WroteItem, Refused as RefusedItem}
use Rattle.replica.specs.declared.output.Answer.{Answer}
use Rattle.replica.specs.declared.output.Answer.TheVariants.{Wrote, Bulked, Taken, Stale, Repeated, Reported, Found, Missing, Point}
use Rattle.replica.specs.declared.fault.CopyFault.{CopyFault}
use Rattle.replica.specs.declared.fault.CopyFault.TheVariants as copy
use Rattle.replica.specs.Fault as replica
use Rattle.master.specs.declared.fault.MasterFault.{MasterFault}
use Rattle.master.specs.declared.fault.MasterFault.TheVariants as master
use Rattle.master.specs.Fault as ruler
use Rattle.journals.specs.Items.{worded, natural}

abbrev pub outcome_word : Outcome → List ℕ
outcome_word Created = codes "created"
outcome_word Updated = codes "updated"
outcome_word Deleted = codes "deleted"
outcome_word NotFound = codes "not_found"

-- the name of a log's fault, and the offset where it is damaged
abbrev pub log_data : LogFault → List Data
log_data BadMagic = string (codes "BadMagic") ∷ []
log_data (Damaged offset) = string (codes "Damaged") ∷ natural offset ∷ []
log_data Device = string (codes "Device") ∷ []
log_data NoRoom = string (codes "NoMemory") ∷ []
log_data TooLarge = string (codes "TooLarge") ∷ []

abbrev pub copy_log : CopyFault → List Data
copy_log (copy.Log f) = log_data f
copy_log copy.NotPrimary = []
copy_log copy.VersionConflict = []
copy_log copy.WindowFull = []
copy_log copy.OldTerm = []
copy_log copy.NotSynced = []
copy_log copy.BeyondWindow = []
copy_log copy.Mismatch = []
copy_log copy.Closed = []
copy_log copy.NoMemory = []
copy_log copy.WrongAddress = []
copy_log copy.Exhausted = []

abbrev pub master_log : MasterFault → List Data
master_log (master.Log f) = log_data f
master_log master.OldTerm = []
master_log master.NotInSync = []
master_log master.IsPrimary = []
master_log master.Gone = []
master_log master.NoMemory = []
master_log master.Full = []

-- a refusal by its name, and what its log says
abbrev pub refused_data : List ℕ → List Data → Data
refused_data name log = worded (codes "refused") (string name ∷ log)

unfoldable pub fault_data : CopyFault → Data
fault_data f = refused_data (replica.name_of f) (copy_log f)

unfoldable pub denial_data : MasterFault → Data
denial_data f = refused_data (ruler.name_of f) (master_log f)

abbrev pub written_data : Written → List Data
written_data w = natural w.seq ∷ natural w.term ∷ natural w.version ∷ string (outcome_word w.outcome) ∷ []

-- what became of a write of a bulk, as a copy says it of a write alone
unfoldable pub item_data : Item → Data
item_data (WroteItem w) = worded (codes "wrote") (written_data w)
item_data (RefusedItem f) = fault_data f

abbrev pub answer_word : Answer → List ℕ
answer_word (Wrote w) = codes "wrote"
answer_word (Bulked items) = codes "bulked"
answer_word Taken = codes "taken"
answer_word Stale = codes "stale"
answer_word Repeated = codes "repeated"
answer_word Reported = codes "reported"
answer_word (Found d) = codes "found"
answer_word Missing = codes "missing"
answer_word (Point n) = codes "point"

abbrev pub answer_items : Answer → List Data
answer_items (Wrote w) = written_data w
answer_items (Bulked items) = map item_data items
answer_items Taken = []
answer_items Stale = []
answer_items Repeated = []
answer_items Reported = []
answer_items (Found d) = natural d.seq ∷ natural d.term ∷ natural d.version ∷ string d.source ∷ []
answer_items Missing = []
answer_items (Point n) = natural n ∷ []

-- what a copy answered, as a script prints it
unfoldable pub answer_data : Answer → Data
answer_data a = worded (answer_word a) (answer_items a)
