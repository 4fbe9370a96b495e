use Rattle.std.proofs.Common.{◌∙◌, arith, sym}
use Rattle.engine.proofs.IdFilterLaws.{hash-more, hash-end}
use Rattle.engine.proofs.ids.id_filter.hash_of.Goals as goal

pub loop-byte-preserved : goal.loop-byte-preserved
loop-byte-preserved c = record {
  small = omega arith;
  left = sym (hash-more c.args.bytes.now c.loop-byte.byte-index c.loop-byte.hash 0 c.loop-byte-test.true) ∙ c.loop-byte.invariant.left;
}

pub returns : goal.returns
returns c = hash-end c.args.bytes.now c.loop-byte.byte-index c.loop-byte.hash (omega (arith, c.loop-byte-test.false)) c.loop-byte.invariant.left
