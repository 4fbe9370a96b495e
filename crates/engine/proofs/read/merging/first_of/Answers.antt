use Rattle.std.proofs.Common.{sym}
use Rattle.engine.specs.Entry.{entry_view}
use Rattle.engine.proofs.PartLaws.{next-left, next-less, next-equal, next-greater, not_empty, empty}
use Rattle.engine.proofs.read.merging.first_of.Goals as goal

pub returns-then-is_empty-3-clause-some : goal.returns-then-is_empty-3-clause-some
returns-then-is_empty-3-clause-some c =
    next-left entry_view c.args.left.now c.args.right.now c.index-left-0.result (not_empty c.args.left.now c.if-is_empty.ensures) c.index-left-0.is (empty c.args.right.now c.if-is_empty-3.ensures) c.requires.left

pub returns-in-Less-clause-some : goal.returns-in-Less-clause-some
returns-in-Less-clause-some c =
    next-less entry_view c.args.left.now c.args.right.now c.index-left-0.result c.index-right-0-2.result
    (record {
      some_x = not_empty c.args.left.now c.if-is_empty.ensures;
      is_x = c.index-left-0.is;
      sorted_x = c.requires.left;
      some_y = not_empty c.args.right.now c.if-is_empty-3.ensures;
      is_y = c.index-right-0-2.is;
      sorted_y = c.requires.right;
    }) (sym c.in-Less.ensures)

pub returns-in-Equal-clause-some : goal.returns-in-Equal-clause-some
returns-in-Equal-clause-some c =
    next-equal entry_view c.args.left.now c.args.right.now c.index-left-0.result c.index-right-0-2.result
    (record {
      some_x = not_empty c.args.left.now c.if-is_empty.ensures;
      is_x = c.index-left-0.is;
      sorted_x = c.requires.left;
      some_y = not_empty c.args.right.now c.if-is_empty-3.ensures;
      is_y = c.index-right-0-2.is;
      sorted_y = c.requires.right;
    }) (sym c.in-Equal.ensures)

pub returns-in-Greater-clause-some : goal.returns-in-Greater-clause-some
returns-in-Greater-clause-some c =
    next-greater entry_view c.args.left.now c.args.right.now c.index-left-0.result c.index-right-0-2.result
    (record {
      some_x = not_empty c.args.left.now c.if-is_empty.ensures;
      is_x = c.index-left-0.is;
      sorted_x = c.requires.left;
      some_y = not_empty c.args.right.now c.if-is_empty-3.ensures;
      is_y = c.index-right-0-2.is;
      sorted_y = c.requires.right;
    }) (sym c.in-Greater.ensures)
