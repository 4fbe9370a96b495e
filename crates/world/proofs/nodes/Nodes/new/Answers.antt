use Rattle.std.proofs.Common.{◌≡◌, [], refl, ◌∙◌}
use Rattle.world.proofs.Begun.{begun_new}
use Rattle.world.proofs.nodes.Nodes.new.Goals as goal

pub returns : goal.returns
returns c =
    let none : c.new-2.result.bytes.items ≡ [] = c.new-2.ensures.bytes ∙ c.new.ensures.items in
    let state = begun_new c.args.copies c.new-2.result.bytes.items c.in-Ok.master.state none c.in-Ok.ensures.state in
    rw (state, c.in-Ok-copy.ensures, c.in-Ok-begun.ensures.copies, c.new-3.ensures.items, c.new-4.ensures.items) refl
