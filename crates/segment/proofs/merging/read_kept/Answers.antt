use Rattle.std.proofs.Common.{◌∙◌}
use Rattle.segment.proofs.MergedLaws.{doc_read}
use Rattle.segment.proofs.merging.read_kept.Goals as goal

pub returns-in-Ok : goal.returns-in-Ok
returns-in-Ok c =
    let text = c.as_bytes.ensures.value ∙ c.as_str.ensures.text in
    doc_read c.args.mapping.now c.args.source.now c.in-Ok.doc (rw text at c.in-Ok.ensures.reads) (rw text at c.in-Ok.ensures.source)
