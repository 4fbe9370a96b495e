-- The steps of a conversation.
use Rattle.std.specs.Prelude.{◌≡◌, ◌⊎◌, ◌&&◌, not, ℕ, List, [], ◌++◌, length, Bool, true, false, Option, Some, None, IfSome, if◌then◌else◌}
use Rattle.std.specs.Io.KnownBytes.{Consumes, Appends}
use Rattle.doc.specs.Mapping.{MappingData}
use Rattle.wire.specs.declared.reading.Whole.{Whole}
use Rattle.wire.specs.Framing.{First, none, broken, asked, first, is_expected}
use Rattle.wire.specs.Reading.{IsStanding}
use Rattle.wire.specs.Requests.{Standing, bad, good, requests}
use Rattle.front.specs.Command.{Command}
use Rattle.front.specs.Reply.{Reply}
use Rattle.front.specs.Rule.{Rule, AnsweredBy, work_by}
use Rattle.front.specs.Sending.{asking}
use Rattle.front.specs.Serving.{Begun}
use Rattle.clients.specs.Talk.{Talk}

-- these bytes came after the others
abbrev pub Receives : {K : Type 0} → List ℕ → Talk K → Talk K → Type 0
Receives bytes old new = (new.waiting ≡ old.waiting ++ bytes) × (new.unsent ≡ old.unsent) × (new.ended ≡ old.ended) × (new.known ≡ old.known) × (new.has_asked ≡ old.has_asked)

-- these bytes, the first that weren't sent, were sent
abbrev pub Sends : {K : Type 0} → List ℕ → Talk K → Talk K → Type 0
Sends bytes old new = (new.waiting ≡ old.waiting) × (old.unsent ≡ bytes ++ new.unsent) × (new.ended ≡ old.ended) × (new.known ≡ old.known) × (new.has_asked ≡ old.has_asked)

-- n bytes were read, and came after the others
abbrev pub Gathers : {K : Type 0} → ℕ → Option (List ℕ) → Option (List ℕ) → Talk K → Talk K → Type 0
Gathers n left after old new = (bytes : List ℕ) × (length bytes ≡ n) × Consumes left after bytes × Receives bytes old new

-- n bytes, the first that weren't sent, were written
abbrev pub SendsTo : {K : Type 0} → ℕ → Option (List ℕ) → Option (List ℕ) → Talk K → Talk K → Type 0
SendsTo n before after old new = (bytes : List ℕ) × (length bytes ≡ n) × Appends before after bytes × Sends bytes old new

-- this request stands first, these bytes follow it, and this is whether the stream ends after it
abbrev pub IsNext : First → Standing → List ℕ → Bool → Type 0
IsNext none q rest ended = ⊥
IsNext (broken x) q rest ended = (q ≡ bad x) × (ended ≡ true)
IsNext (asked r closes bytes) q rest ended = (q ≡ good r) × (rest ≡ bytes) × (ended ≡ closes)

-- the first request of the bytes that wait was answered, once, by a service that went on from what the client knew. Its page waits to be sent, and the client
-- knows what the service then reports
pub record Answers {S K : Type 0} (rule : Rule) (answers : S → Command → Reply → S → Type 0) (knows : S → K) (index : List ℕ) (mapping : MappingData) (q : Standing) (s t : S) (old new : Talk K) : Type 0 where
  pub going : old.ended ≡ false
  pub sent : old.unsent ≡ []
  pub is_first : IsNext (first rule.most old.waiting) q new.waiting new.ended
  pub resumed : IfSome old.known (λ k. knows s ≡ k)
  pub answered : AnsweredBy rule answers index mapping q s new.unsent t
  pub learnt : new.known ≡ Some (knows t)
  pub asks_anew : new.has_asked ≡ false

-- the requests that came whole and aren't answered
abbrev pub standing : {K : Type 0} → ℕ → Talk K → List Standing
standing most c = if c.ended then [] else requests most c.waiting

-- whether the client waits until it is asked for the body of the first request that waits, and wasn't asked yet
abbrev pub wants_asking : {K : Type 0} → ℕ → Talk K → Bool
wants_asking most c = not c.ended && (not c.has_asked && is_expected most c.waiting)

-- the client was asked for the body: the interim response waits to be sent
pub record Asks {K : Type 0} (most : ℕ) (old new : Talk K) : Type 0 where
  pub wanted : wants_asking most old ≡ true
  pub sent : old.unsent ≡ []
  pub asked : new ≡ record { waiting = old.waiting; unsent = asking; ended = old.ended; has_asked = true; known = old.known }

-- whether the client was asked; if it wasn't, all is as it was
abbrev pub AsksIf : {K : Type 0} → ℕ → Talk K → Talk K → Bool → Type 0
AsksIf most old new true = Asks most old new
AsksIf most old new false = (wants_asking most old ≡ false) × (new ≡ old)

-- the request was answered, and the service is then t; if there was none, nothing was done
abbrev pub AnswersNext : {S K : Type 0} → Rule → (S → Command → Reply → S → Type 0) → (S → K) → List ℕ → MappingData → S → S → Talk K → Talk K → Option Whole → Type 0
AnswersNext rule answers knows index mapping s t old new None = (standing rule.most old ≡ []) × (t ≡ s) × (new ≡ old)
AnswersNext {S} rule answers knows index mapping s t old new (Some w) = (q : Standing) × IsStanding w q × (from : S) × Answers rule answers knows index mapping q from t old new

-- the service was called with the first commands of the first request that waits, after it went on from what the client knew
pub record Breaks {S K : Type 0} (rule : Rule) (answers : S → Command → Reply → S → Type 0) (knows : S → K) (index : List ℕ) (mapping : MappingData) (t : S) (old : Talk K) : Type 0 where
  pub q : Standing
  pub rest : List ℕ
  pub ended : Bool
  pub from : S
  pub is_first : IsNext (first rule.most old.waiting) q rest ended
  pub resumed : IfSome old.known (λ k. knows from ≡ k)
  pub begun : Begun answers (work_by rule index mapping q) from t

-- nothing is answered any more, and all else is as it was
abbrev pub Ends : {K : Type 0} → Talk K → Talk K → Type 0
Ends old new = (new.waiting ≡ old.waiting) × (new.unsent ≡ old.unsent) × (new.ended ≡ true) × (new.known ≡ old.known) × (new.has_asked ≡ old.has_asked)

-- memory ran out: the conversation ends, so that nothing is done twice, and the service is as it was or was called with the first commands of a request
abbrev pub BreaksNext : {S K : Type 0} → Rule → (S → Command → Reply → S → Type 0) → (S → K) → List ℕ → MappingData → S → S → Talk K → Talk K → Type 0
BreaksNext rule answers knows index mapping s t old new = Ends old new × ((t ≡ s) ⊎ Breaks rule answers knows index mapping t old)
