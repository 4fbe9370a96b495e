-- A conversation from its beginning on.
use Rattle.std.specs.Prelude.{◌≡◌, ◌⊎◌, ℕ, List, [], ◌∷◌, ◌++◌, Option, Some, None, IfSome, if◌then◌else◌}
use Rattle.doc.specs.Mapping.{MappingData}
use Rattle.wire.specs.Requests.{Standing, requests}
use Rattle.front.specs.Command.{Command}
use Rattle.front.specs.Reply.{Reply}
use Rattle.front.specs.Rule.{Rule, AnsweredBy}
use Rattle.clients.specs.Talk.{Talk, begun}
use Rattle.clients.specs.Steps.{Receives, Sends, Answers, Asks, standing}
use Rattle.front.specs.Sending.{asking}

-- any steps of a conversation, one after another, whose requests one rule answers: these bytes were received in all, and these were sent. Between two steps the
-- service may change, since other connections ask too, or be that of another thread
pub data Run {S K : Type 0} (rule : Rule) (answers : S → Command → Reply → S → Type 0) (knows : S → K) (index : List ℕ) (mapping : MappingData) : List ℕ → List ℕ → Talk K → Type 0 where
  begins : Run rule answers knows index mapping [] [] begun
  receives : (received sent bytes : List ℕ) (old new : Talk K) → Run rule answers knows index mapping received sent old → Receives bytes old new → Run rule answers knows index mapping (received ++ bytes) sent new
  answers_one : (received sent : List ℕ) (old new : Talk K) (q : Standing) (s t : S) → Run rule answers knows index mapping received sent old → Answers rule answers knows index mapping q s t old new → Run rule answers knows index mapping received sent new
  asks : (received sent : List ℕ) (old new : Talk K) → Run rule answers knows index mapping received sent old → Asks rule.most old new → Run rule answers knows index mapping received sent new
  sends : (received sent bytes : List ℕ) (old new : Talk K) → Run rule answers knows index mapping received sent old → Sends bytes old new → Run rule answers knows index mapping received (sent ++ bytes) new

-- what stands before a page: nothing, or the interim response by which the client was asked for the body of its request
abbrev pub IsBefore : List ℕ → Type 0
IsBefore before = (before ≡ []) ⊎ (before ≡ asking)

-- these requests were answered in order, each once, by a service that went on from what the client knew after the request before, and these are their pages,
-- each with what stands before it
abbrev pub Told : {S K : Type 0} → Rule → (S → Command → Reply → S → Type 0) → (S → K) → List ℕ → MappingData → Option K → List Standing → List ℕ → Option K → Type 0
Told {S} rule answers knows index mapping known [] out last = (out ≡ []) × (last ≡ known)
Told {S} rule answers knows index mapping known (q ∷ qs) out last =
    (s : S) × (t : S) × (one : List ℕ) × (rest : List ℕ) × IfSome known (λ k. knows s ≡ k) × AnsweredBy rule answers index mapping q s one t × Told rule answers knows index mapping (Some (knows t)) qs rest last
    × (before : List ℕ) × IsBefore before × (out ≡ before ++ (one ++ rest))

abbrev pub asked_last : {K : Type 0} → Talk K → List ℕ
asked_last c = if c.has_asked then asking else []

-- what was sent and what waits to be sent are the pages of the first requests of the bytes, with what stands before each and before the page of the request that
-- waits, and the other requests wait to be answered. Bytes that come later change nothing of what was answered. The client knows nothing at first, and then what
-- the service reports after the last reply
pub record Kept {S K : Type 0} (rule : Rule) (answers : S → Command → Reply → S → Type 0) (knows : S → K) (index : List ℕ) (mapping : MappingData) (received sent : List ℕ) (c : Talk K) : Type 0 where
  pub done : List Standing
  pub pages : List ℕ
  pub told : Told rule answers knows index mapping None done pages c.known
  pub out : sent ++ c.unsent ≡ pages ++ asked_last c
  pub others : requests rule.most received ≡ done ++ standing rule.most c
  pub later : (more : List ℕ) → requests rule.most (received ++ more) ≡ done ++ (if c.ended then [] else requests rule.most (c.waiting ++ more))

abbrev pub IsKept : {S K : Type 0} → Rule → (S → Command → Reply → S → Type 0) → (S → K) → Type 0
IsKept {S} {K} rule answers knows =
    (index : List ℕ) (mapping : MappingData) (received sent : List ℕ) (c : Talk K) → Run rule answers knows index mapping received sent c → Kept rule answers knows index mapping received sent c
