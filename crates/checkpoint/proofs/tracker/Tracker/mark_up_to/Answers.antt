use Rattle.std.proofs.Common.{◌≡◌, sym, ap, ◌∙◌, arith}
use Rattle.std.proofs.lemmas.Int.{to_z-of_z}
use Rattle.op.specs.Checkpoint.{known}
use Rattle.checkpoint.specs.Numbers.{with_below}
use Rattle.checkpoint.specs.Window.{numbers_of}
use Rattle.checkpoint.proofs.Windows.{less_stays}
use Rattle.checkpoint.proofs.tracker.Tracker.mark_up_to.Goals as goal

pub returns-then-end-self : goal.returns-then-end-self
returns-then-end-self c =
    let end : c.count-end.result ≡ known c.args.checkpoint = grind (arith, to_z-of_z, c.count-end.ensures.counted) in
    sym c.self.view_is ∙ sym (less_stays c.self.inside.count c.count-end.result c.self.inside.words c.if-end-self.true) ∙ ap (λ n. with_below (numbers_of c.self.inside.count c.self.inside.words) n) end ∙ ap (λ ns. with_below ns (known c.args.checkpoint)) c.self.view_is

pub returns : goal.returns
returns c =
    let end : c.count-end.result ≡ known c.args.checkpoint = grind (arith, to_z-of_z, c.count-end.ensures.counted) in
    c.settle-self-inside.ensures.numbers ∙ c.raise.ensures.numbers ∙ ap (λ n. with_below (numbers_of c.self.inside.count c.self.inside.words) n) end ∙ ap (λ ns. with_below ns (known c.args.checkpoint)) c.self.view_is
