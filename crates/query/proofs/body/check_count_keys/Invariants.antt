use Rattle.std.proofs.Common.{◌≡◌}
use Rattle.serde_json.specs.View.{members_view}
use Rattle.doc.specs.Mapping.{all_keys}
use Rattle.query.specs.Body.{is_count_key}
use Rattle.query.proofs.body.check_count_keys.Given as goal

abbrev pub invariant-loop-name : goal.invariant-loop-name
invariant-loop-name l = all_keys is_count_key (members_view l.name-iterator) ≡ all_keys is_count_key (members_view l.members.entries)
