-- What a line of a script answers, and how it is printed.
use Rattle.std.specs.Prelude.{ℕ, suc, Bool, true, false, List, [], ◌∷◌, ◌++◌, Option, Some, None, codes, decimal}
use Rattle.doc.specs.Id.{Id}
use Rattle.op.specs.declared.operation.Op.{Op}
use Rattle.op.specs.declared.message.Content.{Content}
use Rattle.op.specs.declared.message.Content.TheVariants.{Op as Operation, Ack, Promoted, Resync, Track, Recover, Synced, Fail, Removed}
use Rattle.op.specs.declared.message.Msg.{Msg}
use Rattle.engine.specs.Answer as engine
use Rattle.replica.specs.declared.output.Item.{Item}
use Rattle.replica.specs.declared.output.Item.TheVariants.{Wrote as WroteItem, Refused as RefusedItem}
use Rattle.replica.specs.declared.output.Answer.{Answer}
use Rattle.replica.specs.declared.output.Answer.TheVariants.{Wrote, Bulked, Taken, Stale, Repeated, Reported, Found, Missing, Point}
use Rattle.replica.specs.declared.output.Outcome.{Outcome}
use Rattle.replica.specs.declared.output.Outcome.TheVariants.{Created, Updated, Deleted, NotFound}
use Rattle.replica.specs.declared.output.Document.{Document}
use Rattle.replica.specs.declared.output.Written.{Written}
use Rattle.replica.specs.Fault.{name_of}

-- messages are numbered from one past those that were sent before
pub data Reply : Type 0 where
  opened : Reply
  -- what a copy answers, the messages that it sends, and the operations that it acknowledges
  answered : Answer → (before : ℕ) → (sent : List Msg) → (acknowledged : List Op) → Reply
  -- the id that the master gives, and its message
  decided : (given : Option ℕ) → (before : ℕ) → (sent : Option Msg) → Reply
  -- whether nothing is new to the master, and its message
  delivered : (repeated : Bool) → (before : ℕ) → (sent : Option Msg) → Reply
  -- the point of a copy whose step was torn
  torn : (point : ℕ) → Reply
  -- a merge is begun, and it is over
  merging : Reply
  merged : Reply
  hits : engine.Answer → Reply

abbrev pub outcome_name : Outcome → List ℕ
outcome_name Created = codes "created"
outcome_name Updated = codes "updated"
outcome_name Deleted = codes "deleted"
outcome_name NotFound = codes "not_found"

-- each id after a space
abbrev pub ids_text : List (Id × List ℕ) → List ℕ
ids_text [] = []
ids_text (h ∷ hs) = 32 ∷ h.0 ++ ids_text hs

-- the line of a write
abbrev pub wrote_line : Written → List ℕ
wrote_line w = codes "wrote " ++ (decimal w.seq ++ (codes " " ++ (decimal w.term ++ (codes " " ++ (decimal w.version ++ (codes " " ++ (outcome_name w.outcome ++ codes "\n")))))))

-- the line of a document
abbrev pub found_line : Document → List ℕ
found_line d = codes "found " ++ (decimal d.seq ++ (codes " " ++ (decimal d.term ++ (codes " " ++ (decimal d.version ++ (codes " " ++ (d.source ++ codes "\n")))))))

-- the line of a refusal
abbrev pub refused : List ℕ → List ℕ
refused name = codes "refused " ++ (name ++ codes "\n")

-- the line of a write of a bulk
abbrev pub item_line : Item → List ℕ
item_line (WroteItem w) = wrote_line w
item_line (RefusedItem f) = refused (name_of f)

abbrev pub item_lines : List Item → List ℕ
item_lines [] = []
item_lines (i ∷ is) = item_line i ++ item_lines is

-- the lines of a copy's answer; a report has none
abbrev pub answer_line : Answer → List ℕ
answer_line (Wrote w) = wrote_line w
answer_line (Bulked items) = item_lines items
answer_line Taken = codes "taken\n"
answer_line Stale = codes "stale\n"
answer_line Repeated = codes "repeated\n"
answer_line Reported = []
answer_line (Found d) = found_line d
answer_line Missing = codes "missing\n"
answer_line (Point n) = codes "point " ++ (decimal n ++ codes "\n")

-- the line of an acknowledgement
abbrev pub ack_line : Op → List ℕ
ack_line o = codes "ack " ++ (decimal o.seq ++ (codes " " ++ (decimal o.term ++ codes "\n")))

abbrev pub ack_lines : List Op → List ℕ
ack_lines [] = []
ack_lines (o ∷ os) = ack_line o ++ ack_lines os

abbrev pub kind_name : Content → List ℕ
kind_name (Operation g o) = codes "op"
kind_name (Ack seq local) = codes "ack"
kind_name (Promoted set) = codes "promoted"
kind_name (Resync g tail) = codes "resync"
kind_name (Track r) = codes "track"
kind_name (Recover all) = codes "recover"
kind_name (Synced r) = codes "synced"
kind_name (Fail r) = codes "fail"
kind_name (Removed r) = codes "removed"

-- the line of a message with its number
abbrev pub msg_line : ℕ → Msg → List ℕ
msg_line number m = codes "msg " ++ (decimal number ++ (codes " " ++ (kind_name m.content ++ (codes " " ++ (decimal m.from ++ (codes " " ++ (decimal m.to ++ codes "\n")))))))

-- the lines of messages, where `before` were sent before them
abbrev pub msg_lines : ℕ → List Msg → List ℕ
msg_lines before [] = []
msg_lines before (m ∷ ms) = msg_line (suc before) m ++ msg_lines (suc before) ms

abbrev pub sent_lines : ℕ → Option Msg → List ℕ
sent_lines before None = []
sent_lines before (Some m) = msg_line (suc before) m

-- the line of the id that the master gives
abbrev pub given_line : Option ℕ → List ℕ
given_line None = []
given_line (Some id) = codes "copy " ++ (decimal id ++ codes "\n")

-- the line of a delivery to the master
abbrev pub delivered_line : Bool → List ℕ
delivered_line true = codes "repeated\n"
delivered_line false = codes "taken\n"

-- the lines of an answer: the answer itself, then its messages, then its acknowledgements
abbrev pub printed : Reply → List ℕ
printed opened = []
printed (answered a before ms os) = answer_line a ++ (msg_lines before ms ++ ack_lines os)
printed (decided given before m) = given_line given ++ sent_lines before m
printed (delivered repeated before m) = delivered_line repeated ++ sent_lines before m
printed (torn n) = codes "torn\npoint " ++ (decimal n ++ codes "\n")
printed merging = codes "merging\n"
printed merged = codes "merged\n"
printed (hits a) = codes "hits " ++ (decimal a.total ++ (ids_text a.hits ++ codes "\n"))
