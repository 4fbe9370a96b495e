-- Requests that a service answers one after another.
use Rattle.std.specs.Prelude.{◌≡◌, ℕ, Bool, false, List, [], ◌∷◌, ◌++◌, length, Option, Some}
use Rattle.std.specs.Io.KnownBytes.{Appends}
use Rattle.doc.specs.Mapping.{MappingData}
use Rattle.wire.specs.Bytes.{IsFront}
use Rattle.wire.specs.declared.fault.StreamFault.{StreamFault}
use Rattle.wire.specs.declared.fault.StreamFault.TheVariants.{Read, Write, NoMemory}
use Rattle.front.specs.Command.{Command}
use Rattle.front.specs.Reply.{Reply}
use Rattle.wire.specs.Requests.{Standing, requests}
use Rattle.front.specs.Calls.{Calls}
use Rattle.front.specs.Work.{Work, work_of, commands, page}

-- the service was called with exactly the commands of this work, and this is the page of its replies, by a server that greets or one that doesn't
pub record Answered {S : Type 0} (greets : Bool) (answers : S → Command → Reply → S → Type 0) (index : List ℕ) (w : Work) (s : S) (out : List ℕ) (t : S) : Type 0 where
  pub replies : List Reply
  pub whys : List (List ℕ)
  pub called : Calls answers s (commands w) replies t
  pub is_page : out ≡ page greets whys index w replies

-- the service was called with the first commands of this work
pub record Begun {S : Type 0} (answers : S → Command → Reply → S → Type 0) (w : Work) (s t : S) : Type 0 where
  pub done : List Command
  pub left : List Command
  pub split : commands w ≡ done ++ left
  pub replies : List Reply
  pub called : Calls answers s done replies t

-- these requests were answered in order, and these are their pages
abbrev pub Serves : {S : Type 0} → (S → Command → Reply → S → Type 0) → List ℕ → MappingData → S → List Standing → List ℕ → S → Type 0
Serves {S} answers index mapping s [] out t = (t ≡ s) × (out ≡ [])
Serves {S} answers index mapping s (q ∷ qs) out t =
    (m : S) × (one : List ℕ) × (rest : List ℕ) × Answered false answers index (work_of index mapping q) s one m × Serves answers index mapping m qs rest t × (out ≡ one ++ rest)

-- some commands of the first of these requests were done, and nothing was written
abbrev pub HasBegun : {S : Type 0} → (S → Command → Reply → S → Type 0) → List ℕ → MappingData → S → List Standing → List ℕ → S → Type 0
HasBegun answers index mapping s [] part t = (t ≡ s) × (part ≡ [])
HasBegun answers index mapping s (q ∷ qs) part t = Begun answers (work_of index mapping q) s t × (part ≡ [])

-- all commands of the first of these requests were done, and a beginning of its page was written
abbrev pub HasPage : {S : Type 0} → (S → Command → Reply → S → Type 0) → List ℕ → MappingData → S → List Standing → List ℕ → S → Type 0
HasPage answers index mapping s [] part t = ⊥
HasPage answers index mapping s (q ∷ qs) part t = (one : List ℕ) × Answered false answers index (work_of index mapping q) s one t × IsFront part one

-- what was done for the requests after those that were answered. If reading failed, nothing. If writing failed, all commands of the first one, and a beginning
-- of its page was written. If memory ran out, some commands of the first one
abbrev pub Partly : {S : Type 0} → (S → Command → Reply → S → Type 0) → List ℕ → MappingData → StreamFault → S → List Standing → List ℕ → S → Type 0
Partly answers index mapping Read s qs part t = (t ≡ s) × (part ≡ [])
Partly answers index mapping Write s qs part t = HasPage answers index mapping s qs part t
Partly answers index mapping NoMemory s qs part t = HasBegun answers index mapping s qs part t

-- the first of these requests were answered, and those after them in part, depending on the fault that ended the stream
pub record CutShort {S : Type 0} (answers : S → Command → Reply → S → Type 0) (index : List ℕ) (mapping : MappingData) (fault : StreamFault) (s : S) (qs : List Standing) (out : List ℕ) (t : S) : Type 0 where
  pub done : List Standing
  pub left : List Standing
  pub split : qs ≡ done ++ left
  pub middle : S
  pub whole : List ℕ
  pub served : Serves answers index mapping s done whole middle
  pub part : List ℕ
  pub partly : Partly answers index mapping fault middle left part t
  pub written : out ≡ whole ++ part

-- the requests of the bytes were answered, this is how many they are, and their pages were written
pub record Served {S : Type 0} (answers : S → Command → Reply → S → Type 0) (index : List ℕ) (mapping : MappingData) (s t : S) (old new : Option (List ℕ)) (count : ℕ) (bytes : List ℕ) : Type 0 where
  pub out : List ℕ
  pub serves : Serves answers index mapping s (requests 1048576 bytes) out t
  pub written : Appends old new out
  pub counted : count ≡ length (requests 1048576 bytes)

-- the first requests of the bytes were answered, those after them in part, depending on the fault, and what was written is a beginning of their pages
pub record Stopped {S : Type 0} (answers : S → Command → Reply → S → Type 0) (index : List ℕ) (mapping : MappingData) (s t : S) (old new : Option (List ℕ)) (fault : StreamFault) (bytes : List ℕ) : Type 0 where
  pub out : List ℕ
  pub cut : CutShort answers index mapping fault s (requests 1048576 bytes) out t
  pub written : Appends old new out

-- the first requests of the bytes were answered, and the bytes that are left have the others
pub record Going {S : Type 0} (answers : S → Command → Reply → S → Type 0) (index : List ℕ) (mapping : MappingData) (s t : S) (old new left : Option (List ℕ)) (count : ℕ) (bytes : List ℕ) : Type 0 where
  pub rest : List ℕ
  pub is_left : left ≡ Some rest
  pub done : List Standing
  pub split : requests 1048576 bytes ≡ done ++ requests 1048576 rest
  pub counted : count ≡ length done
  pub out : List ℕ
  pub serves : Serves answers index mapping s done out t
  pub written : Appends old new out
