-- The requests that stand whole in some bytes.
use Rattle.std.specs.Prelude.{ℕ, zero, suc, List, [], ◌∷◌, length, if◌then◌else◌}
use Rattle.wire.specs.Fault.{Fault}
use Rattle.wire.specs.Framing.{Request, First, none, broken, asked, first}

-- a request that stands whole: a fault, after which the stream ends, or what says what it asks
pub data Standing : Type 0 where
  bad : Fault → Standing
  good : Request → Standing

-- the first request and, where the stream doesn't end with it, those of the bytes after it
abbrev pub requests_after : First → (List ℕ → List Standing) → List Standing
requests_after none more = []
requests_after (broken f) more = bad f ∷ []
requests_after (asked r closes rest) more = good r ∷ (if closes then [] else more rest)

-- the first requests, so many at most, each with a body of at most so many bytes
abbrev pub requests_in : ℕ → ℕ → List ℕ → List Standing
requests_in most zero bytes = []
requests_in most (suc n) bytes = requests_after (first most bytes) (requests_in most n)

-- the requests that stand whole, in order, up to the first after which the stream ends; each takes a byte at least
unfoldable pub requests : ℕ → List ℕ → List Standing
requests most bytes = requests_in most (suc (length bytes)) bytes
