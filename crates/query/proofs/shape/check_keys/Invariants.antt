use Rattle.std.proofs.Common.{◌≡◌, ◌||◌}
use Rattle.serde_json.specs.View.{view, members_view}
use Rattle.doc.specs.Mapping.{all_keys}
use Rattle.query.specs.Keys.{is_key}
use Rattle.query.specs.Shape.{named, check, is_ignored}
use Rattle.query.proofs.shape.check_keys.Given as goal

-- the keys that are left decide
abbrev pub invariant-loop-name : goal.invariant-loop-name
invariant-loop-name l = check (all_keys (λ k. is_key l.keys k || is_ignored k) (members_view l.name-iterator)) ≡ named (is_key l.keys) (view l.value)
