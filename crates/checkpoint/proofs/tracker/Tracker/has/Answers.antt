use Rattle.std.proofs.Common.{◌∙◌, ap, sym, arith}
use Rattle.std.proofs.lemmas.Bool.Decides.{nat_tests}
use Rattle.op.specs.Ids.{has}
use Rattle.checkpoint.proofs.Windows.{has_number}
use Rattle.checkpoint.proofs.tracker.Tracker.has.Goals as goal

pub returns-then-number-self : goal.returns-then-number-self
returns-then-number-self c = sym (sym (ap (λ ns. has ns c.args.number) c.self.view_is) ∙ has_number c.self.inside.count c.args.number c.self.inside.words ∙ grind (arith, nat_tests, c.if-number-self.true))

pub returns-then-number-self-lt-WINDOW : goal.returns-then-number-self-lt-WINDOW
returns-then-number-self-lt-WINDOW c = sym (sym (ap (λ ns. has ns c.args.number) c.self.view_is) ∙ has_number c.self.inside.count c.args.number c.self.inside.words ∙ grind (arith, nat_tests, c.if-number-self.false, c.if-number-self-lt-WINDOW.true, c.is_marked.ensures))

pub returns-else-number-self-lt-WINDOW : goal.returns-else-number-self-lt-WINDOW
returns-else-number-self-lt-WINDOW c = sym (sym (ap (λ ns. has ns c.args.number) c.self.view_is) ∙ has_number c.self.inside.count c.args.number c.self.inside.words ∙ grind (arith, nat_tests, c.if-number-self.false, c.if-number-self-lt-WINDOW.false))
