use Rattle.std.proofs.Common.{◌≤◌, length, arith, sym}
use Rattle.published.proofs.Chains.{prefix-GoesOn, same-book}
use Rattle.published.proofs.note.is_before.Goals as goal

pub compare-requires : goal.compare-requires
compare-requires c = record { one = same-book c.args.second.now.front.book c.args.first.now.front.book (sym c.requires.cell) }

pub compare-requires-else-count : goal.compare-requires-else-count
compare-requires-else-count c = record { one = same-book c.args.first.now.front.book c.args.second.now.front.book c.requires.cell }

pub returns-then-count : goal.returns-then-count
returns-then-count c =
    let le : length c.args.first.now.front.log ≤ length c.args.second.now.front.log = omega (arith, c.count.ensures.length, c.count-2.ensures.length, c.if-count.true) in
    let begins = c.compare.ensures.begins le in
    record { history = begins; listing = prefix-GoesOn c.args.first.now.front.log c.args.second.now.front.log _ _ begins c.compare.ensures.chain c.args.first.now.last c.args.second.now.last }

pub returns-else-count : goal.returns-else-count
returns-else-count c =
    let le : length c.args.second.now.front.log ≤ length c.args.first.now.front.log = omega (arith, c.count.ensures.length, c.count-2.ensures.length, c.if-count.false) in
    let begins = c.compare-else-count.ensures.begins le in
    record { history = begins; listing = prefix-GoesOn c.args.second.now.front.log c.args.first.now.front.log _ _ begins c.compare-else-count.ensures.chain c.args.second.now.last c.args.first.now.last }
