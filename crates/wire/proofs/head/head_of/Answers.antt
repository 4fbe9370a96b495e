use Rattle.std.proofs.Common.{option_map}
use Rattle.wire.specs.HeadView.{head_view}
use Rattle.wire.proofs.HeadLaws.{is_head_if_ok}
use Rattle.wire.proofs.head.head_of.Goals as goal

pub returns : goal.returns
returns c = is_head_if_ok (option_map head_view) c.args.bytes.now c.parse.result c.parse.ensures
