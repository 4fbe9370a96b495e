use Rattle.wire.proofs.RequestRows.{put, cut_short, twice, head, sender, version, chunked, large, small, packed, plain, expected, come, old, plus}
use Rattle.wire.proofs.laws.request_rows.Goals as goal

pub returns : goal.returns
returns c = record { put = put; cut = cut_short; twice = twice; head = head; sender = sender; version = version; chunked = chunked; large = large; small = small; packed = packed; plain = plain; expected = expected; come = come; old = old; plus = plus }
