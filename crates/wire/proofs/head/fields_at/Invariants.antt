use Rattle.std.proofs.Common.{◌≡◌, map, take}
use Rattle.httparse.specs.Spans.{header_bytes}
use Rattle.wire.specs.HeadView.{field_view}
use Rattle.wire.proofs.head.fields_at.Given as goal

abbrev pub invariant-loop-span : goal.invariant-loop-span
invariant-loop-span l = map field_view l.fields.items ≡ map (header_bytes l.bytes) (take l.span-index l.spans)
