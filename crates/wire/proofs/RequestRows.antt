-- The worked rows compute.
use Rattle.std.proofs.Common.{◌≡◌, true, false, [], ◌∷◌, ◌++◌, codes, take, refl}
use Rattle.std.specs.Char.{encode_utf8}
use Rattle.std.specs.Str.{chars, is_utf8}
use Rattle.httparse.specs.Grammar.{is_token_byte, trim_ows}
use Rattle.wire.specs.Cut.{cut}
use Rattle.wire.specs.Fault.{bad_head, transfer_coding, body_too_large}
use Rattle.wire.specs.Framing.{framing, framed, first, is_expected}
use Rattle.wire.specs.HeadReading.{head_of}
use Rattle.wire.specs.Requests.{bad, good, requests}
use Rattle.wire.specs.Rows.{put_text, put_request, nobody}

pub put : requests 1048576 put_text ≡ good put_request ∷ []
unfolding requests first cut framed framing head_of is_token_byte trim_ows is_utf8 chars encode_utf8
put = refl

pub cut_short : requests 1048576 (take 64 put_text) ≡ []
unfolding requests first cut framed framing head_of is_token_byte trim_ows is_utf8 chars encode_utf8
cut_short = refl

pub twice : requests 1048576 (put_text ++ put_text) ≡ good put_request ∷ good put_request ∷ []
unfolding requests first cut framed framing head_of is_token_byte trim_ows is_utf8 chars encode_utf8
twice = refl

pub head : requests 1048576 (codes "HEAD / HTTP/1.1\r\n\r\nGET / HTTP/1.1\r\n\r\n") ≡ good (record { method = codes "HEAD"; target = codes "/"; body = []; encoded = false; sender = nobody }) ∷ good (record { method = codes "GET"; target = codes "/"; body = []; encoded = false; sender = nobody }) ∷ []
unfolding requests first cut framed framing head_of is_token_byte trim_ows is_utf8 chars encode_utf8
head = refl

pub sender : requests 1048576 (codes "GET / HTTP/1.1\r\nOrigin: http://a\r\nhost: b:1\r\n\r\n") ≡ good (record { method = codes "GET"; target = codes "/"; body = []; encoded = false; sender = record { origins = codes "http://a" ∷ []; hosts = codes "b:1" ∷ [] } }) ∷ []
unfolding requests first cut framed framing head_of is_token_byte trim_ows is_utf8 chars encode_utf8
sender = refl

pub version : requests 1048576 (codes "GET / HTTP/9.9\r\n\r\n") ≡ bad bad_head ∷ []
unfolding requests first cut framed framing head_of is_token_byte trim_ows is_utf8 chars encode_utf8
version = refl

pub chunked : requests 1048576 (codes "GET / HTTP/1.1\ntransfer-encoding: chunked\n\nGET") ≡ bad transfer_coding ∷ []
unfolding requests first cut framed framing head_of is_token_byte trim_ows is_utf8 chars encode_utf8
chunked = refl

pub large : requests 1048576 (codes "GET / HTTP/1.1\ncontent-length: 1048577\n\n") ≡ bad body_too_large ∷ []
unfolding requests first cut framed framing head_of is_token_byte trim_ows is_utf8 chars encode_utf8
large = refl

pub plus : requests 1048576 (codes "GET / HTTP/1.1\ncontent-length: +7\n\n") ≡ bad bad_head ∷ []
unfolding requests first cut framed framing head_of is_token_byte trim_ows is_utf8 chars encode_utf8
plus = refl

pub small : requests 9 (codes "GET / HTTP/1.1\ncontent-length: 10\n\n") ≡ bad body_too_large ∷ []
unfolding requests first cut framed framing head_of is_token_byte trim_ows is_utf8 chars encode_utf8
small = refl

pub packed : requests 1048576 (codes "GET / HTTP/1.1\ncontent-encoding: GZip\n\n") ≡ good (record { method = codes "GET"; target = codes "/"; body = []; encoded = true; sender = nobody }) ∷ []
unfolding requests first cut framed framing head_of is_token_byte trim_ows is_utf8 chars encode_utf8
packed = refl

pub plain : requests 1048576 (codes "GET / HTTP/1.1\ncontent-encoding: identity\n\n") ≡ good (record { method = codes "GET"; target = codes "/"; body = []; encoded = false; sender = nobody }) ∷ []
unfolding requests first cut framed framing head_of is_token_byte trim_ows is_utf8 chars encode_utf8
plain = refl

pub expected : is_expected 1048576 (codes "PUT / HTTP/1.1\nexpect: 100-Continue\ncontent-length: 2\n\n{") ≡ true
unfolding is_expected cut framed framing head_of is_token_byte trim_ows is_utf8 chars encode_utf8
expected = refl

pub come : is_expected 1048576 (codes "PUT / HTTP/1.1\nexpect: 100-continue\ncontent-length: 2\n\n{}") ≡ false
unfolding is_expected cut framed framing head_of is_token_byte trim_ows is_utf8 chars encode_utf8
come = refl

pub old : is_expected 1048576 (codes "PUT / HTTP/1.0\nexpect: 100-continue\ncontent-length: 2\n\n") ≡ false
unfolding is_expected cut framed framing head_of is_token_byte trim_ows is_utf8 chars encode_utf8
old = refl
