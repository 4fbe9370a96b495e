use Rattle.std.proofs.Common.{◌≡◌, refl, sym, ap, ◌∙◌, arith}
use Rattle.op.specs.Ids.{with}
use Rattle.checkpoint.specs.Numbers.{run}
use Rattle.checkpoint.proofs.Windows.{run_of, number-set, number_there, set_signed}
use Rattle.checkpoint.proofs.tracker.Tracker.mark.Goals as goal

pub returns-then-number-self-clause-window : goal.returns-then-number-self-clause-window
returns-then-number-self-clause-window c =
    let count : run c.args.self.now ≡ c.self.inside.count = sym (ap run c.self.view_is) ∙ run_of c.self.inside.count c.self.inside.words c.self.invariant.gap in
    ((λ _. omega (arith, count, c.if-number-self.true)), (λ _. refl))

pub returns-then-number-self-clause-ok : goal.returns-then-number-self-clause-ok
returns-then-number-self-clause-ok c = sym c.self.view_is ∙ sym (number_there c.self.inside.count c.args.number c.self.inside.words c.if-number-self.true) ∙ ap (λ ns. with ns c.args.number) c.self.view_is

pub returns-then-number-self-ge-WINDOW-clause-window : goal.returns-then-number-self-ge-WINDOW-clause-window
returns-then-number-self-ge-WINDOW-clause-window c =
    let count : run c.args.self.now ≡ c.self.inside.count = sym (ap run c.self.view_is) ∙ run_of c.self.inside.count c.self.inside.words c.self.invariant.gap in
    ((λ e. absurd (cc)), (λ lt. absurd (omega (arith, count, lt))))

pub settle-self-inside-requires-clause-signed : goal.settle-self-inside-requires-clause-signed
settle-self-inside-requires-clause-signed c = set_signed c.self.inside.count c.args.number c.self.inside.words c.set.new.words 9223372036854775808 c.set.ensures (omega arith) (omega arith) (omega arith) c.self.invariant.signed

pub returns-clause-window : goal.returns-clause-window
returns-clause-window c =
    let count : run c.args.self.now ≡ c.self.inside.count = sym (ap run c.self.view_is) ∙ run_of c.self.inside.count c.self.inside.words c.self.invariant.gap in
    ((λ _. omega (arith, count)), (λ _. refl))

pub returns-clause-ok : goal.returns-clause-ok
returns-clause-ok c = c.settle-self-inside.ensures.numbers ∙ sym (number-set c.self.inside.count c.args.number c.self.inside.words c.set.new.words c.set.ensures (omega arith) (omega arith)) ∙ ap (λ ns. with ns c.args.number) c.self.view_is
