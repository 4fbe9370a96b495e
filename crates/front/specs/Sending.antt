-- Pages on their way out.
use Rattle.std.specs.Prelude.{◌≡◌, ℕ, List, ◌++◌, codes, length, Option}
use Rattle.std.specs.Io.KnownBytes.{Appends}

-- n bytes, the first that weren't sent, were written
pub record Sent (n : ℕ) (before after : Option (List ℕ)) (old new : List ℕ) : Type 0 where
  pub bytes : List ℕ
  pub count : length bytes ≡ n
  pub written : Appends before after bytes
  pub split : old ≡ bytes ++ new

-- the interim response that asks a client for the body of its request
abbrev pub asking : List ℕ
asking = codes "HTTP/1.1 100 Continue\r\n\r\n"
