use Rattle.std.proofs.Common.{◌≡◌, sym, ◌∙◌, ap, subst}
use mathlib.Core.List.{IsPrefix}
use Rattle.chronicle.specs.Log.{entries_of, last_of, first_of}
use Rattle.chronicle.proofs.Lines.{prefix_trans, prefix-entries, entries-same, stands-later}
use Rattle.chronicle.proofs.writer.Writer.has.Goals as goal

pub returns-clause-begins : goal.returns-clause-begins
returns-clause-begins g c =
    let first = c.self.inside.first.key in
    let mine = c.self.inside.seen.log in
    let its = c.seen.result.now.log in
    let both = c.learn.new.self.log in
    let after = c.look.new.seen.log in
    let this : IsPrefix mine both = subst (λ l. IsPrefix l both) (ap (λ s. s.log) c.again-seen.ensures) c.learn.ensures.2 in
    let is : last_of first mine ≡ c.self.inside.pen.nib.key = ap (λ n. n.key) (sym c.self.invariant.1) in
    let same : entries_of first after ≡ entries_of first mine = entries-same first c.self.inside.pen.nib.key mine after is (prefix_trans mine both after this c.look.ensures.grown) c.look.ensures.unused in
    let one : first_of its ≡ first = ap (λ w. w.line.first) (sym c.seen.ensures) ∙ (ap (λ l. l.first) c.requires.line ∙ sym (ap (λ w. w.line.first) c.self.view_is)) in
    let shown : entries_of first its ≡ c.args.mark.now.entries = ap (λ k. entries_of k its) (sym one) ∙ ap (λ w. w.entries) (sym c.seen.ensures) in
    subst (λ l. IsPrefix c.args.mark.now.entries l) same
    (subst (λ l. IsPrefix l (entries_of first after)) shown (prefix-entries first its after (prefix_trans its both after c.learn.ensures.3 c.look.ensures.grown)))

pub returns-clause-stands : goal.returns-clause-stands
returns-clause-stands g c = λ place what at. stands-later c.args.mark.now.entries (entries_of c.self.inside.first.key c.self.inside.seen.log) (returns-clause-begins g c) place what at
