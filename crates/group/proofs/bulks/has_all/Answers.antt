use Rattle.std.proofs.Common.{true, length, refl}
use Rattle.std.specs.Prelude.{IsTrue}
use Rattle.std.proofs.lemmas.List.Elements.{at_read, AllWithin-more, AllWithin-upto, All-from_all_within}
use Rattle.node.specs.Heard.{HasEntry}
use Rattle.group.proofs.bulks.has_all.Goals as goal

pub loop-entry-preserved : goal.loop-entry-preserved
loop-entry-preserved g c =
    let yes : IsTrue true = refl in
    let here = at_read c.args.entries.now (HasEntry c.args.heard.now) c.loop-entry.entry-index c.entry-item.result c.loop-entry-test.true c.entry-item.is (c.if-not-has.ensures.among yes) in
    AllWithin-more (HasEntry c.args.heard.now) c.args.entries.now 0 c.loop-entry.entry-index c.loop-entry.invariant here

pub returns : goal.returns
returns g c = λ _. All-from_all_within (HasEntry c.args.heard.now) c.args.entries.now (AllWithin-upto (HasEntry c.args.heard.now) c.args.entries.now 0 c.loop-entry.entry-index (length c.args.entries.now) c.loop-entry-test.false c.loop-entry.invariant)
