-- What a head that was read holds.
use Rattle.std.specs.Prelude.{List, map, ℕ}
use Rattle.wire.specs.declared.head.Field.{Field}
use Rattle.wire.specs.declared.head.Head.{Head}
use Rattle.wire.specs.Head.{HeadData}

abbrev pub field_view : Field → List ℕ × List ℕ
field_view f = (f.name.now, f.value.now)

abbrev pub head_view : Head → HeadData
head_view h = record { method = h.method.now; target = h.target.now; minor = h.minor; fields = map field_view h.fields.items }
