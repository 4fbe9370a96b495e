use Rattle.std.proofs.Common.{◌≡◌, drop, map}
use Rattle.wire.specs.Framing.{is_encoded}
use Rattle.wire.specs.HeadView.{field_view}
use Rattle.wire.proofs.framing.is_encoded.Given as goal

-- the fields that are left decide
abbrev pub invariant-loop-field : goal.invariant-loop-field
invariant-loop-field l = is_encoded (map field_view (drop l.field-index l.fields)) ≡ is_encoded (map field_view l.fields)
