use Rattle.std.proofs.Common.{◌≡◌, true, length, ap, ◌∙◌, arith}
use Rattle.op.specs.Rules.{is_record}
use Rattle.op.specs.Format.{spelling}
use Rattle.op.specs.Reading.{record_of}
use Rattle.op.proofs.Lengths.{length_fits}
use Rattle.op.proofs.RulesLaws.{record_is}
use Rattle.op.proofs.Spellings.{spelling_read}
use Rattle.op.proofs.writing.encode.Goals as goal

pub returns-clause-reads : goal.returns-clause-reads
returns-clause-reads c =
    let out : c.put_record.new.out.items ≡ spelling c.args.found.now = rw c.in_ok-out.ensures.items at c.in_ok-put_record.ensures in
    let tested : is_record c.args.found.now ≡ true = grind arith in
    let few = length_fits (length (spelling c.args.found.now)) c.in_ok-len.len c.in_ok-len.ensures.len in
    ap record_of out ∙ spelling_read c.args.found.now (record_is c.args.found.now tested) c.in_ok-len.ensures.typed few
