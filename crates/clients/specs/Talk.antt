-- A conversation as its bytes, and what its client knows.
use Rattle.std.specs.Prelude.{ℕ, List, [], Bool, false, Option, None}
use Rattle.clients.specs.declared.conversation.Conversation.{Conversation}

-- the bytes that were received and aren't answered, the bytes of pages that aren't sent, whether nothing is answered any more, whether the client was asked for
-- the body of the request that waits, and what the client knows of the service, if it got a reply
pub record Talk (K : Type 0) : Type 0 where
  pub waiting : List ℕ
  pub unsent : List ℕ
  pub ended : Bool
  pub has_asked : Bool
  pub known : Option K

abbrev pub talk : {K : Type 0} → Conversation K → Talk K
talk c = record { waiting = c.waiting.items; unsent = c.page; ended = c.ended; has_asked = c.has_asked; known = c.known }

abbrev pub begun : {K : Type 0} → Talk K
begun = record { waiting = []; unsent = []; ended = false; has_asked = false; known = None }
