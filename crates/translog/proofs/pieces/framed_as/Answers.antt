use Rattle.std.proofs.Common.{◌<◌, ◌^◌, length, arith}
use Rattle.translog.specs.Frames.{framed}
use Rattle.translog.proofs.PieceWriting.{memory_alone, small_content}
use Rattle.translog.proofs.pieces.framed_as.Goals as goal

pub returns-then-groups-clause-memory : goal.returns-then-groups-clause-memory
returns-then-groups-clause-memory c =
    let small : length c.args.content.now < 2 ^ 32 = small_content c.args.group.now c.args.content.now (λ i. omega (arith, c.type_inv.content i)) c.requires.reads in
    memory_alone c.args.content.now (framed c.args.content.now) c.of.result small c.of.ensures.frame c.of.ensures.no_failure

pub returns-clause-memory : goal.returns-clause-memory
returns-clause-memory c =
    let small : length c.args.content.now < 2 ^ 32 = small_content c.args.group.now c.args.content.now (λ i. omega (arith, c.type_inv.content i)) c.requires.reads in
    memory_alone c.args.content.now _ c.behind.result small c.behind.ensures.frame c.behind.ensures.no_failure
