-- How long a request is, and what stands first in some bytes.
use Rattle.std.specs.Prelude.{ℕ, ◌-◌, nat_le, nat_lt, ◌==◌, ◌&&◌, ◌||◌, not, true, false, ⊤, bytes_eq, codes, map, List, [], ◌∷◌, take, drop, length, Bool, Option, Some, None, Result, Ok, Err, if◌then◌else◌}
use Rattle.std.specs.List.{list_any, slice_split, prefix_len, suffix_len}
use Rattle.std.specs.Char.{to_ascii_lowercase, is_ascii_whitespace}
use Rattle.std.specs.Str.{all_ascii_digits}
use Rattle.std.specs.Str.Parse.{digits_value}
use Rattle.doc.specs.Outcome.{◌>>=◌}
use Rattle.wire.specs.Cut.{Cut, short, long, whole, cut}
use Rattle.wire.specs.Fault.{Fault, bad_head, transfer_coding, body_too_large}
use Rattle.wire.specs.Head.{HeadData}
use Rattle.wire.specs.HeadReading.{head_of}

-- how long a body is, whether the stream ends after it, whether it is encoded, and whether its sender waits until it is asked for it
pub record Frame : Type 0 where
  pub length : ℕ
  pub closes : Bool
  pub encoded : Bool
  pub expects : Bool

-- names are equal but for the case of ASCII letters
abbrev pub is_named : List ℕ → List ℕ → Bool
is_named name wanted = bytes_eq (map to_ascii_lowercase name) (map to_ascii_lowercase wanted)

-- digits without the zeros in front of them
abbrev pub significant : List ℕ → List ℕ
significant [] = []
significant (d ∷ ds) = if d == 48 then significant ds else d ∷ ds

-- a number as its significant digits
abbrev pub numeral_of : List ℕ → Result (List ℕ) Fault
numeral_of value = if nat_lt 0 (length value) && all_ascii_digits value then Ok (significant value) else Err bad_head

-- the number, where there is none yet or it is the same
abbrev pub agreed : Option (List ℕ) → List ℕ → Result (Option (List ℕ)) Fault
agreed None n = Ok (Some n)
agreed (Some m) n = if bytes_eq m n then Ok (Some m) else Err bad_head

abbrev pub with_length : Option (List ℕ) → List ℕ × List ℕ → Result (Option (List ℕ)) Fault
with_length so_far f = if is_named f.0 (codes "content-length") then (numeral_of f.1 >>= λ n. agreed so_far n) else Ok so_far

-- the one number of all fields `content-length`
abbrev pub lengths : Option (List ℕ) → List (List ℕ × List ℕ) → Result (Option (List ℕ)) Fault
lengths so_far [] = Ok so_far
lengths so_far (f ∷ fs) = with_length so_far f >>= λ n. lengths n fs

-- a body may have so many bytes at most
abbrev pub size_of : ℕ → Option (List ℕ) → Result ℕ Fault
size_of most None = Ok 0
size_of most (Some n) = if nat_lt most (digits_value 10 n) then Err body_too_large else Ok (digits_value 10 n)

abbrev pub is_coded : List (List ℕ × List ℕ) → Bool
is_coded fields = list_any (λ f. is_named f.0 (codes "transfer-encoding")) fields

-- no transfer coding is known
abbrev pub uncoded : Bool → Result ⊤ Fault
uncoded true = Err transfer_coding
uncoded false = Ok tt

-- the text without the white space at its front
abbrev pub without_front : List ℕ → List ℕ
without_front t = drop (prefix_len is_ascii_whitespace t) t

-- and without that at its end
abbrev pub trimmed : List ℕ → List ℕ
trimmed t = take (length (without_front t) - suffix_len is_ascii_whitespace (without_front t)) (without_front t)

abbrev pub is_close : List ℕ → Bool
is_close token = is_named (trimmed token) (codes "close")

-- whether `close` is one of the tokens between the commas
abbrev pub lists_close : List ℕ → Bool
lists_close value = list_any is_close (slice_split (λ b. b == 44) value)

-- whether a field asks that the stream ends
abbrev pub closing : List (List ℕ × List ℕ) → Bool
closing fields = list_any (λ f. is_named f.0 (codes "connection") && lists_close f.1) fields

-- a stream ends after a request of HTTP/1.0, and after one that asks for it
abbrev pub ends_after : HeadData → Bool
ends_after h = h.minor == 0 || closing h.fields

-- whether a body isn't as it is read: a field names a coding of it
abbrev pub is_encoded : List (List ℕ × List ℕ) → Bool
is_encoded fields = list_any (λ f. is_named f.0 (codes "content-encoding") && not (is_named f.1 (codes "identity"))) fields

abbrev pub has_expectation : List (List ℕ × List ℕ) → Bool
has_expectation fields = list_any (λ f. is_named f.0 (codes "expect") && is_named f.1 (codes "100-continue")) fields

-- whether the sender waits with its body until it is asked for it; one of HTTP/1.0 never does
abbrev pub is_expecting : HeadData → Bool
is_expecting h = not (h.minor == 0) && has_expectation h.fields

-- the faults in order: of the lengths, of a transfer coding, of the size
unfoldable pub framing : ℕ → HeadData → Result Frame Fault
framing most h =
    lengths None h.fields >>= λ n. uncoded (is_coded h.fields) >>= λ u. size_of most n
    >>= λ size. Ok (record { length = size; closes = ends_after h; encoded = is_encoded h.fields; expects = is_expecting h })

-- the values of the fields with a name
abbrev pub values_of : List ℕ → List (List ℕ × List ℕ) → List (List ℕ)
values_of name [] = []
values_of name (f ∷ fs) = if is_named f.0 name then f.1 ∷ values_of name fs else values_of name fs

-- who sends a request, as its head says: of which pages it comes, and under which names it looked for the server
pub record Sender : Type 0 where
  pub origins : List (List ℕ)
  pub hosts : List (List ℕ)

abbrev pub sender_of : List (List ℕ × List ℕ) → Sender
sender_of fields = record { origins = values_of (codes "origin") fields; hosts = values_of (codes "host") fields }

-- a request that stands whole: the parts that say what it asks, whether its body is encoded, and who sends it
pub record Request : Type 0 where
  pub method : List ℕ
  pub target : List ℕ
  pub body : List ℕ
  pub encoded : Bool
  pub sender : Sender

-- what stands first: no whole request; a fault, after which the stream ends; or a request, whether the stream ends after it, and the bytes after it
pub data First : Type 0 where
  none : First
  broken : Fault → First
  asked : Request → Bool → List ℕ → First

abbrev pub head_or_bad : Option HeadData → Result HeadData Fault
head_or_bad None = Err bad_head
head_or_bad (Some h) = Ok h

-- what a head says of its request
pub record Framed : Type 0 where
  pub method : List ℕ
  pub target : List ℕ
  pub sender : Sender
  pub frame : Frame

unfoldable pub framed : ℕ → List ℕ → Result Framed Fault
framed most bytes = head_or_bad (head_of bytes) >>= λ h. framing most h >>= λ f. Ok (record { method = h.method; target = h.target; sender = sender_of h.fields; frame = f })

abbrev pub with_body : List ℕ → Result Framed Fault → First
with_body rest (Err f) = broken f
with_body rest (Ok x) =
    if nat_le x.frame.length (length rest)
    then asked (record { method = x.method; target = x.target; body = take x.frame.length rest; encoded = x.frame.encoded; sender = x.sender }) x.frame.closes (drop x.frame.length rest)
    else none

abbrev pub after_cut : ℕ → Cut → First
after_cut most short = none
after_cut most long = broken bad_head
after_cut most (whole head rest) = with_body rest (framed most head)

-- what stands first
unfoldable pub first : ℕ → List ℕ → First
first most bytes = after_cut most (cut bytes)

-- whether the sender of a head waits until it is asked for its body, which hasn't come whole
abbrev pub body_is_expected : List ℕ → Result Framed Fault → Bool
body_is_expected rest (Err f) = false
body_is_expected rest (Ok x) = x.frame.expects && nat_lt (length rest) x.frame.length

abbrev pub cut_is_expected : ℕ → Cut → Bool
cut_is_expected most short = false
cut_is_expected most long = false
cut_is_expected most (whole head rest) = body_is_expected rest (framed most head)

-- whether the sender of the first request waits until it is asked for its body, of which a part is missing
unfoldable pub is_expected : ℕ → List ℕ → Bool
is_expected most bytes = cut_is_expected most (cut bytes)
