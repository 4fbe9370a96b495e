use Rattle.std.proofs.Common.{sym, ◌∙◌, ap}
use Rattle.logbook.specs.Pages.{nib, may_write}
use Rattle.chronicle.specs.Written.{line, written}
use Rattle.chronicle.proofs.Lines.{entries-unused, last-unused}
use Rattle.chronicle.proofs.writer.Writer.begin.Goals as goal

pub invariant_of-result : goal.invariant_of-result
invariant_of-result g c = (c.requires.book, c.requires.right ∙ ap (λ k. nib may_write k 0) (sym (last-unused c.args.first.key c.args.seen.log c.requires.unused)))

pub returns : goal.returns
returns g c = ap (λ entries. written (line c.args.seen.book c.args.first.key) entries) (entries-unused c.args.first.key c.args.seen.log c.requires.unused)
