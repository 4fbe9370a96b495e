use Rattle.std.proofs.Common.{refl}
use Rattle.engine.specs.Parts.{all_published}
use Rattle.engine.proofs.SwapLaws.{splits-none, one-goes, one-stays, told-at}
use Rattle.engine.proofs.job.swapping.split.Goals.{then-is_among+in_ok-push, else-is_among+in_ok-push-2}
use Rattle.engine.proofs.job.swapping.split.Goals as goal

-- it is told by its number where all are
pub is_among-requires : goal.is_among-requires
is_among-requires c = λ by. told-at (all_published c.args.taken.now) c.args.parts.now c.loop-part.part-index c.part-item.result c.loop-part-test.true c.part-item.is (c.requires by)

pub loop-part-init : goal.loop-part-init
loop-part-init c = splits-none (all_published c.args.taken.now) c.args.parts.now c.new-stay.result.items c.new-go.result.items c.new-stay.ensures.items c.new-go.ensures.items

-- one part more
pub loop-part-preserved : goal.loop-part-preserved
loop-part-preserved c =
    let taken = all_published c.args.taken.now in
    let ps = c.args.parts.now in
    let i = c.loop-part.part-index in
    elim c.if-is_among.branch [
      | then-is_among+in_ok-push w ↦ one-goes taken ps i c.part-item.result c.in_ok-copy.copy c.loop-part.stay.items c.loop-part.go.items c.if-is_among.stay.items c.if-is_among.go.items c.loop-part-test.true c.part-item.is c.in_ok-copy.ensures c.loop-part.invariant
          (w.if-is_among.ensures.yes refl) (rw w.stay-is refl) (rw (w.go-is, w.in_ok-push.ensures.items) refl)
      | else-is_among+in_ok-push-2 w ↦ one-stays taken ps i c.part-item.result c.in_ok-copy.copy c.loop-part.stay.items c.loop-part.go.items c.if-is_among.stay.items c.if-is_among.go.items c.loop-part-test.true c.part-item.is c.in_ok-copy.ensures c.loop-part.invariant
          (w.if-is_among.ensures.no refl) (rw (w.stay-is, w.in_ok-push-2.ensures.items) refl) (rw w.go-is refl)
    ]
