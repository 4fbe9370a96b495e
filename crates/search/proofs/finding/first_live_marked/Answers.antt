use Rattle.std.proofs.Common.{◌&&◌, Bool, ap, arith, length, sym}
use Rattle.segment.proofs.Joins.{length-zip}
use Rattle.search.proofs.finding.first_live_marked.Goals as goal

-- there are as many marks as before
pub first_marked-requires : goal.first_marked-requires
first_marked-requires c =
    omega (arith, ap length c.intersect.ensures, length-zip (λ (a b : Bool). a && b) c.args.marks c.args.live.now (sym c.requires.same), c.requires.few)
