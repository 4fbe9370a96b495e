use Rattle.std.proofs.Common.{◌≡◌, ◌++◌, drop, map}
use Rattle.wire.specs.Framing.{values_of}
use Rattle.wire.specs.HeadView.{field_view}
use Rattle.wire.proofs.sender.values_of.Given as goal

-- those of the fields that are left are still to come
abbrev pub invariant-loop-field : goal.invariant-loop-field
invariant-loop-field l = map (λ x. x.items) l.values.items ++ values_of l.name (map field_view (drop l.field-index l.fields)) ≡ values_of l.name (map field_view l.fields)
