use Rattle.std.proofs.Common.{rules, ◌<◌, sym, ◌∙◌}
use Rattle.node.proofs.Receipts.{none_above, not_up}
use Rattle.node.proofs.gathering.is_taken.Goals as goal

pub returns-else-place-most : goal.returns-else-place-most
returns-else-place-most g c =
    let above : c.args.most < c.args.place = search rules in
    not_up c.args.place c.args.most above ∙ sym (none_above c.args.most c.args.place c.args.before.now c.requires above)
