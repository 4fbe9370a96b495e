use Rattle.std.proofs.Common.{◌≡◌, drop, map}
use Rattle.wire.specs.Framing.{has_expectation}
use Rattle.wire.specs.HeadView.{field_view}
use Rattle.wire.proofs.framing.has_expectation.Given as goal

-- the fields that are left decide
abbrev pub invariant-loop-field : goal.invariant-loop-field
invariant-loop-field l = has_expectation (map field_view (drop l.field-index l.fields)) ≡ has_expectation (map field_view l.fields)
