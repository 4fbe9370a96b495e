use Rattle.std.proofs.Common.{◌≤◌, length, ap, subst, sym, List}
use mathlib.Core.List.{IsPrefix}
use Rattle.published.specs.declared.listing.Listing.{Listing}
use Rattle.published.specs.Beginning.{Beginning}
use Rattle.chronicle.proofs.Lines.{prefix_shorter}
use Rattle.published.proofs.front.Front.compare.Goals as goal

pub returns-clause-begins : goal.returns-clause-begins
returns-clause-begins c = λ le.
    let both = c.learn.new.self.log in
    let mine = c.self.inside.seen.log in
    let its = c.other.inside.seen.log in
    let this : IsPrefix mine both = subst (λ (l : List Listing). IsPrefix l both) (ap (λ s. s.log) c.again-both.ensures) c.learn.ensures.2 in
    let shorter : length mine ≤ length its = subst (λ (b : Beginning). length mine ≤ length b.log) (sym c.other.view_is) (subst (λ (b : Beginning). length b.log ≤ length c.args.other.now.log) (sym c.self.view_is) le) in
    let pre : IsPrefix mine its = prefix_shorter mine its both this c.learn.ensures.3 shorter in
    subst (λ (b : Beginning). IsPrefix b.log c.args.other.now.log) c.self.view_is (subst (λ (b : Beginning). IsPrefix mine b.log) c.other.view_is pre)
