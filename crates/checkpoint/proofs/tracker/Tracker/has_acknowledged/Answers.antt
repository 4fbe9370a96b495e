use Rattle.std.proofs.Common.{◌≡◌, ◌<◌, ◌-◌, true, false, List, ℕ, sym, ◌∙◌, subst, arith}
use Rattle.std.specs.Prelude.{nat_eq}
use Rattle.std.specs.Cmp.Lexicographic.{pointwise}
use Rattle.std.proofs.lemmas.Bool.Decides.{nat_tests}
use Rattle.op.specs.Ids.{has}
use Rattle.checkpoint.specs.Numbers.{marked}
use Rattle.checkpoint.proofs.Windows.{nothing_below, nothing_at, adds_below}
use Rattle.checkpoint.proofs.tracker.Tracker.has_acknowledged.Goals as goal

pub returns-then-seq-eq0 : goal.returns-then-seq-eq0
returns-then-seq-eq0 c =
    let none : 0 ≡ c.args.seq = grind (arith, nat_tests, c.if-seq-eq0.true) in
    let same = subst (λ (ns : List ℕ). pointwise nat_eq ns (marked ns 0 c.args.below) ≡ true) c.self.view_is (nothing_below c.self.inside.count c.args.below c.self.inside.words c.if-below-self.true) in
    grind (arith, nat_tests, none) ∙ sym (subst (λ (seq : ℕ). pointwise nat_eq c.args.self.now (marked c.args.self.now seq c.args.below) ≡ true) none same)

pub returns-else-seq-eq0 : goal.returns-else-seq-eq0
returns-else-seq-eq0 c =
    let some : 0 < c.args.seq = grind (arith, nat_tests, c.if-seq-eq0.false) in
    c.has.ensures ∙ subst (λ (ns : List ℕ). has ns (c.args.seq - 1) ≡ pointwise nat_eq ns (marked ns c.args.seq c.args.below)) c.self.view_is (nothing_at c.self.inside.count c.args.seq c.args.below c.self.inside.words c.if-below-self.true some)

pub returns-else-below-self : goal.returns-else-below-self
returns-else-below-self c =
    grind (arith, nat_tests, c.if-below-self.false) ∙ sym (subst (λ (ns : List ℕ). pointwise nat_eq ns (marked ns c.args.seq c.args.below) ≡ false) c.self.view_is (adds_below c.self.inside.count c.args.seq c.args.below c.self.inside.words c.self.invariant.gap c.if-below-self.false))
