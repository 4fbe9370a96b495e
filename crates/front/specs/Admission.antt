-- Who may ask: pages of which origins (RFC 6454), and under which names of the server.
use Rattle.std.specs.Prelude.{ℕ, ◌-◌, ◌==◌, ◌&&◌, ◌||◌, not, Bool, bytes_eq, codes, drop, length, List, [], ◌∷◌, ◌++◌, Result, ⊤, if◌then◌else◌}
use Rattle.std.specs.Char.{is_ascii_digit}
use Rattle.std.specs.List.{list_all, list_any}
use Rattle.doc.specs.Outcome.{◌>>=◌}
use Rattle.front.specs.declared.page.Media.TheVariants as media
use Rattle.front.specs.declared.page.Status.TheVariants as status
use Rattle.front.specs.Asking.{or_nothing}
use Rattle.front.specs.Fault.{Fault, foreign_origin, foreign_host}
use Rattle.front.specs.Page.{response, with_fields}
use Rattle.front.specs.Target.{check}
use Rattle.wire.specs.Framing.{Request, Sender, is_named}
use Rattle.wire.specs.Pieces.{cut_at, text_of}

-- the origins whose pages may ask, and the names with a dot under which the server is known
pub record Admission : Type 0 where
  pub origins : List (List ℕ)
  pub names : List (List ℕ)

abbrev pub lists : List (List ℕ) → List ℕ → Bool
lists texts wanted = list_any (λ t. bytes_eq t wanted) texts

-- whether pages of all origins may ask
abbrev pub lists_all : Admission → Bool
lists_all a = lists a.origins (codes "*")

abbrev pub is_allowed : Admission → List ℕ → Bool
is_allowed a origin = lists_all a || lists a.origins origin

abbrev pub has_dot : List ℕ → Bool
has_dot name = list_any (λ b. b == 46) name

-- whether a name is an address: no name of the network has only digits and dots
abbrev pub is_address : List ℕ → Bool
is_address name = list_all (λ b. b == 46 || is_ascii_digit b) name

abbrev pub is_below_localhost : List ℕ → Bool
is_below_localhost name = is_named (drop (length name - 10) name) (codes ".localhost")

abbrev pub is_own : Admission → List ℕ → Bool
is_own a name = list_any (λ n. is_named n name) a.names

-- whether the server may be known under a name. Whoever owns a name with a dot can bind it to this machine, so the server must have that name as its own
abbrev pub is_known : Admission → List ℕ → Bool
is_known a name = not (has_dot name) || is_address name || is_below_localhost name || is_own a name

-- whether the server may be known under a host, which is a name and maybe a port after it
abbrev pub is_known_host : Admission → List ℕ → Bool
is_known_host a host = is_known a (cut_at 58 host).0

-- whether the sender of a request may ask anything, or the first fault
unfoldable pub admitted : Admission → Sender → Result ⊤ Fault
admitted a s =
    check (list_all (is_allowed a) s.origins) foreign_origin >>= λ u. check (list_all (is_known_host a) s.hosts) foreign_host

-- whether a browser asks with this request if a page of another origin may send one (the Fetch standard, CORS-preflight)
abbrev pub is_preflight : Request → Bool
is_preflight r = bytes_eq r.method (codes "OPTIONS") && not (length r.sender.origins == 0)

abbrev pub preflight_page : List ℕ
preflight_page = response media.Json status.Good (codes "access-control-allow-headers: authorization, *\r\naccess-control-allow-methods: DELETE, GET, HEAD, POST, PUT\r\naccess-control-allow-private-network: true\r\naccess-control-max-age: 600\r\n") []

abbrev pub granted : Admission → List ℕ → List ℕ
granted a origin = if lists_all a then codes "*" else or_nothing (text_of origin)

-- the fields by which a browser hands a page to the pages of an origin
unfoldable pub opening : List ℕ → List ℕ
opening origin = codes "\r\naccess-control-allow-origin: " ++ (origin ++ codes "\r\nvary: origin")

-- a page, opened to the first of these origins; if there is none, the page stays as it is
abbrev pub opened : Admission → List (List ℕ) → List ℕ → List ℕ
opened a [] page = page
opened a (origin ∷ others) page = with_fields (opening (granted a origin)) page
