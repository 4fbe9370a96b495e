use Rattle.std.proofs.Common.{◌≡◌, ◌≤◌, ap, refl, arith}
use Rattle.replica.specs.Copy.{Copy, operations}
use Rattle.replica.proofs.Tails.{filled, none_from, numbered}
use Rattle.replica.specs.Searched.{Searched}
use Rattle.replica.proofs.state.State.tail.Goals as goal

pub loop-number-init : goal.loop-number-init
loop-number-init c =
    let s = c.args.self.now.copy in
    let known : c.self.inside.known ≡ s.known = ap (λ (x : Copy). x.known) (ap (λ (v : Searched). v.copy) c.self.view_is) in
    let le : c.min-number.result ≤ s.known = omega (arith, c.min-number.ensures, known) in
    rw (c.new-items.ensures.items, none_from (filled (operations s) c.args.term) (numbered (operations s) c.args.term) s.known c.min-number.result le) refl
