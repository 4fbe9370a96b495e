-- What was read of a request.
use Rattle.std.specs.Prelude.{◌≡◌, ◌≤◌, ◌<◌, ℕ, Bool, true, List, ◌++◌, map, take, drop, length, Option, Some, None}
use Rattle.wire.specs.declared.reading.Whole.{Whole}
use Rattle.wire.specs.declared.reading.Whole.TheVariants.{Broken, Asked}
use Rattle.wire.specs.declared.reading.Request as read
use Rattle.wire.specs.declared.sender.Sender as kept
use Rattle.wire.specs.Fault.{Fault, fault_of}
use Rattle.wire.specs.Framing.{Request, Sender, First, none, broken, asked}
use Rattle.wire.specs.Requests.{Standing, bad, good}

abbrev pub sender_view : kept.Sender → Sender
sender_view s = record { origins = map (λ v. v.items) s.origins.items; hosts = map (λ v. v.items) s.hosts.items }

abbrev pub request_view : read.Request → Request
request_view r = record { method = r.method.items; target = r.target.items; body = r.body.items; encoded = r.encoded; sender = sender_view r.sender }

-- what was read is what stands first, and what is left is after it
abbrev pub IsRead : First → Option Whole → Option (List ℕ) → Type 0
IsRead f None left = f ≡ none
IsRead f (Some (Broken e)) left = (x : Fault) × (fault_of e ≡ Some x) × (f ≡ broken x)
IsRead f (Some (Asked r)) left = (rest : List ℕ) × (left ≡ Some rest) × (f ≡ asked (request_view r) r.closes rest)

-- the bytes of a body, and those that are left, or too few for it
abbrev pub IsBody : List ℕ → ℕ → Option (List ℕ) → Option (List ℕ) → Type 0
IsBody bytes n None left = length bytes < n
IsBody bytes n (Some body) left = (n ≤ length bytes) × (body ≡ take n bytes) × (left ≡ Some (drop n bytes))

-- the bytes read so far, and those left, are the bytes
pub record Filling (left : Option (List ℕ)) (body : List ℕ) (bytes : List ℕ) : Type 0 where
  pub rest : List ℕ
  pub is_left : left ≡ Some rest
  pub whole : bytes ≡ body ++ rest

-- the request that was read
abbrev pub IsStanding : Whole → Standing → Type 0
IsStanding (Broken e) q = (x : Fault) × (fault_of e ≡ Some x) × (q ≡ bad x)
IsStanding (Asked r) q = q ≡ good (request_view r)

-- whether the stream ends after it
abbrev pub ends : Whole → Bool
ends (Broken e) = true
ends (Asked r) = r.closes
