use Rattle.std.proofs.Common.{◌≡◌, sym, ◌∙◌, ap, subst}
use mathlib.Core.List.{IsPrefix}
use Rattle.chronicle.specs.Log.{entries_of, first_of}
use Rattle.chronicle.proofs.Lines.{prefix_shorter, prefix-entries, stands-one}
use Rattle.chronicle.proofs.writer.Writer.agrees.Goals as goal

pub returns : goal.returns
returns g c =
    let first = c.self.inside.first.key in
    let mine = c.self.inside.seen.log in
    let its = c.seen.result.now.log in
    let both = c.learn.new.self.log in
    let this : IsPrefix mine both = subst (λ l. IsPrefix l both) (ap (λ s. s.log) c.again-both.ensures) c.learn.ensures.2 in
    let one : first_of its ≡ first = ap (λ w. w.line.first) (sym c.seen.ensures) ∙ (ap (λ l. l.first) c.requires.line ∙ sym (ap (λ w. w.line.first) c.self.view_is)) in
    let shown : entries_of first its ≡ c.args.mark.now.entries = ap (λ k. entries_of k its) (sym one) ∙ ap (λ w. w.entries) (sym c.seen.ensures) in
    let own = subst (λ l. IsPrefix l (entries_of first both)) (ap (λ w. w.entries) c.self.view_is) (prefix-entries first mine both this) in
    let other = subst (λ l. IsPrefix l (entries_of first both)) shown (prefix-entries first its both c.learn.ensures.3) in
    let line = entries_of first both in
    record { begins = prefix_shorter c.args.mark.now.entries c.args.self.now.entries line other own; same = stands-one c.args.self.now.entries c.args.mark.now.entries line own other }
