use Rattle.std.proofs.Common.{◌≡◌, drop, map, None, option_copied}
use Rattle.wire.specs.Framing.{lengths}
use Rattle.wire.specs.HeadView.{field_view}
use Rattle.wire.proofs.framing.length_of.Given as goal

-- the fields that are left decide
abbrev pub invariant-loop-field : goal.invariant-loop-field
invariant-loop-field l = lengths (option_copied l.length) (map field_view (drop l.field-index l.fields)) ≡ lengths None (map field_view l.fields)
