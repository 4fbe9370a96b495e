-- Why a line of a script is refused.
use Rattle.std.specs.Prelude.{ℕ, List, codes, Result, Ok, Err}
use Rattle.doc.specs.Fault as doc
use Rattle.query.specs.Fault as query
use Rattle.replica.specs.declared.fault.CopyFault.{CopyFault}
use Rattle.replica.specs.Fault as replica
use Rattle.master.specs.declared.fault.MasterFault.{MasterFault}
use Rattle.master.specs.Fault as master

pub data Refusal : Type 0 where
  bad_line : Refusal
  not_open : Refusal
  already_open : Refusal
  bad_count : Refusal
  no_such_copy : Refusal
  no_such_message : Refusal
  of_doc : doc.Fault → Refusal
  of_query : query.Fault → Refusal
  of_copy : CopyFault → Refusal
  of_master : MasterFault → Refusal

-- the name of a refusal
abbrev pub name_of : Refusal → List ℕ
name_of bad_line = codes "BadLine"
name_of not_open = codes "NotOpen"
name_of already_open = codes "AlreadyOpen"
name_of bad_count = codes "BadCount"
name_of no_such_copy = codes "NoSuchCopy"
name_of no_such_message = codes "NoSuchMessage"
name_of (of_doc f) = doc.name_of f
name_of (of_query f) = query.name_of f
name_of (of_copy f) = replica.name_of f
name_of (of_master f) = master.name_of f

-- what documents and queries answer, their faults being refusals
abbrev pub in_doc : {A : Type 0} → Result A doc.Fault → Result A Refusal
in_doc (Ok x) = Ok x
in_doc (Err f) = Err (of_doc f)

abbrev pub in_query : {A : Type 0} → Result A query.Fault → Result A Refusal
in_query (Ok x) = Ok x
in_query (Err f) = Err (of_query f)
