use Rattle.std.proofs.Common.{◌<◌, ◌∙◌, false, length, get_or, refl, arith}
use Rattle.std.proofs.lemmas.List.{length-set}
use Rattle.engine.proofs.IdTablesLaws.{among-set, at_get, room-more}
use Rattle.engine.proofs.operations.latest.make_room.Goals as goal

-- one table more
pub loop-at-preserved : goal.loop-at-preserved
loop-at-preserved c =
    let ts = c.loop-at.tables in
    let so_far = c.loop-at.invariant in
    let lt : c.loop-at.at < length ts = omega (arith, c.loop-at-test.true, so_far.2, c.loop-at.auto.at-end) in (
      λ id. among-set ts _ c.loop-at.at (get_or ts c.loop-at.at c.index-tables-at.result) c.reserve.new.self (λ b n. n) (λ w. false) (λ n. refl) (λ w is. cc) lt (at_get ts c.loop-at.at c.index-tables-at.result lt) refl
          (λ w. c.in_ok-reserve.ensures.entries.2 (record { 0 = w })) id ∙ so_far.0 id,
      room-more ts c.loop-at.at c.reserve.new.self (λ p. get_or c.args.counts.now p 0) lt so_far.1 (omega (arith, c.in_ok-reserve.ensures.ok)),
      length-set ts c.loop-at.at c.reserve.new.self ∙ so_far.2,
    )
