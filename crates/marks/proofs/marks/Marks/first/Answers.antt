use Rattle.std.proofs.Common.{◌≡◌, ◌∙◌, ◌*◌, ap, arith, length, take, subst, IfOk}
use Rattle.marks.specs.Bits.{marked_from}
use Rattle.marks.specs.Lists.{places}
use Rattle.marks.proofs.Runs.{places-marked}
use Rattle.marks.proofs.Views.{length-marks}
use Rattle.marks.proofs.marks.Marks.first.Goals as goal

pub first-requires : goal.first-requires
first-requires c = omega (arith, c.requires, c.self.invariant.whole, ap length c.deref.ensures.value, ap length c.self.view_is, length-marks c.self.inside.words.items c.self.inside.len)

pub returns : goal.returns
returns c =
    let words = c.self.inside.words.items in
    subst (λ ps. IfOk c.first.result (λ v. v.items ≡ take c.args.wanted ps))
    (ap (λ ws. marked_from ws 0 (64 * length ws)) c.deref.ensures.value
    ∙ places-marked words c.self.inside.len (64 * length words) (omega (arith, c.self.invariant.whole)) c.self.invariant.clean
    ∙ ap (places (λ b. b)) c.self.view_is)
    c.first.ensures
