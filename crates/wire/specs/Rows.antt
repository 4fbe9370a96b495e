-- Worked rows of the requests that stand in some bytes.
use Rattle.std.specs.Prelude.{◌≡◌, ℕ, true, false, List, [], ◌∷◌, ◌++◌, codes, take}
use Rattle.wire.specs.Fault.{bad_head, transfer_coding, body_too_large}
use Rattle.wire.specs.Framing.{Request, Sender, is_expected}
use Rattle.wire.specs.Requests.{bad, good, requests}

abbrev pub put_text : List ℕ
put_text = codes "PUT /books/_doc/1 HTTP/1.1\r\nhost: x\r\ncontent-length: 7\r\n\r\n{\"n\":1}"

abbrev pub put_request : Request
put_request = record { method = codes "PUT"; target = codes "/books/_doc/1"; body = codes "{\"n\":1}"; encoded = false; sender = record { origins = []; hosts = codes "x" ∷ [] } }

-- that of a head without these fields
abbrev pub nobody : Sender
nobody = record { origins = []; hosts = [] }

-- one request stands whole; without its last byte none does; one is read behind a HEAD
pub record RequestRows : Type 0 where
  pub put : requests 1048576 put_text ≡ good put_request ∷ []
  pub cut : requests 1048576 (take 64 put_text) ≡ []
  pub twice : requests 1048576 (put_text ++ put_text) ≡ good put_request ∷ good put_request ∷ []
  pub head : requests 1048576 (codes "HEAD / HTTP/1.1\r\n\r\nGET / HTTP/1.1\r\n\r\n") ≡ good (record { method = codes "HEAD"; target = codes "/"; body = []; encoded = false; sender = nobody }) ∷ good (record { method = codes "GET"; target = codes "/"; body = []; encoded = false; sender = nobody }) ∷ []
  pub sender : requests 1048576 (codes "GET / HTTP/1.1\r\nOrigin: http://a\r\nhost: b:1\r\n\r\n") ≡ good (record { method = codes "GET"; target = codes "/"; body = []; encoded = false; sender = record { origins = codes "http://a" ∷ []; hosts = codes "b:1" ∷ [] } }) ∷ []
  pub version : requests 1048576 (codes "GET / HTTP/9.9\r\n\r\n") ≡ bad bad_head ∷ []
  pub chunked : requests 1048576 (codes "GET / HTTP/1.1\ntransfer-encoding: chunked\n\nGET") ≡ bad transfer_coding ∷ []
  pub large : requests 1048576 (codes "GET / HTTP/1.1\ncontent-length: 1048577\n\n") ≡ bad body_too_large ∷ []
  pub small : requests 9 (codes "GET / HTTP/1.1\ncontent-length: 10\n\n") ≡ bad body_too_large ∷ []
  pub packed : requests 1048576 (codes "GET / HTTP/1.1\ncontent-encoding: GZip\n\n") ≡ good (record { method = codes "GET"; target = codes "/"; body = []; encoded = true; sender = nobody }) ∷ []
  pub plain : requests 1048576 (codes "GET / HTTP/1.1\ncontent-encoding: identity\n\n") ≡ good (record { method = codes "GET"; target = codes "/"; body = []; encoded = false; sender = nobody }) ∷ []
  pub expected : is_expected 1048576 (codes "PUT / HTTP/1.1\nexpect: 100-Continue\ncontent-length: 2\n\n{") ≡ true
  pub come : is_expected 1048576 (codes "PUT / HTTP/1.1\nexpect: 100-continue\ncontent-length: 2\n\n{}") ≡ false
  pub old : is_expected 1048576 (codes "PUT / HTTP/1.0\nexpect: 100-continue\ncontent-length: 2\n\n") ≡ false
  pub plus : requests 1048576 (codes "GET / HTTP/1.1\ncontent-length: +7\n\n") ≡ bad bad_head ∷ []
