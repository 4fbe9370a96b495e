use Rattle.std.proofs.Common.{◌≡◌, ◌∙◌, ◌&&◌, not, ap, sym, arith, length, Bool}
use Rattle.std.proofs.lemmas.Bool.Decides.{nat_tests}
use Rattle.segment.proofs.Joins.{length-zip}
use Rattle.engine.proofs.read.part.subtract_fitting.Goals as goal

-- as many as before
pub returns-then-len : goal.returns-then-len
returns-then-len c =
    let same : length c.args.marks.now ≡ length c.args.others.now = grind (arith, nat_tests, c.if-len.true, c.len.ensures, c.len-2.ensures) in
    ap length c.subtract.ensures ∙ length-zip (λ (a b : Bool). a && not b) c.args.marks.now c.args.others.now same ∙ sym same
