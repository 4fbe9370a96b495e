use Rattle.std.proofs.Common.{◌≡◌, [], ◌∷◌, ◌++◌, Some, length, refl, sym, ◌∙◌, ap, subst}
use Rattle.logbook.specs.Pages.{nib, may_write}
use Rattle.chronicle.specs.Written.{line, written, Stands}
use Rattle.chronicle.specs.Log.{entries_of, written_in, last_of, first_of}
use Rattle.chronicle.proofs.Lines.{added-entries, added-last, added-first, stands-last}
use Rattle.chronicle.proofs.writer.Writer.append_as.Goals as goal

pub invariant_of-self : goal.invariant_of-self
invariant_of-self g c =
    let first = c.self.inside.first.key in
    let after = c.write.new.seen.log in
    let is : last_of first c.self.inside.seen.log ≡ c.self.inside.pen.nib.key = ap (λ n. n.key) (sym c.self.invariant.1) in
    let last : last_of first after ≡ c.new_right-pen.result.1.key = added-last first c.self.inside.pen.nib.key _ c.self.inside.seen.log after is refl c.write.ensures.added ∙ ap (λ w. w.key) c.of-3.ensures in
    let book : c.write.new.seen.book ≡ c.args.self.now.line.book = c.write.ensures.book ∙ ap (λ w. w.line.book) c.self.view_is in
    (c.new_right-pen.ensures.book ∙ (c.requires.book ∙ sym book), c.new_right-pen.ensures.right ∙ ap (λ k. nib may_write k 0) (sym last))

pub returns-clause-grown : goal.returns-clause-grown
returns-clause-grown g c =
    let first = c.self.inside.first.key in
    let mine = c.self.inside.seen.log in
    let after = c.write.new.seen.log in
    let is : last_of first mine ≡ c.self.inside.pen.nib.key = ap (λ n. n.key) (sym c.self.invariant.1) in
    let more : entries_of first after ≡ entries_of first mine ++ g.M.Means.means c.args.what.now ∷ [] = added-entries first c.self.inside.pen.nib.key _ (g.M.Means.means c.args.what.now) mine after is refl (ap (λ x. Some (g.M.Means.means x)) c.of-4.ensures) c.write.ensures.added in
    ap (λ b. written (line b first) (entries_of first after)) c.write.ensures.book
    ∙ (ap (λ entries. written (line c.self.inside.seen.book first) entries) more ∙ ap (λ w. written w.line (w.entries ++ g.M.Means.means c.args.what.now ∷ [])) c.self.view_is)

pub returns-clause-mark : goal.returns-clause-mark
returns-clause-mark g c =
    let first : first_of c.write.new.seen.log ≡ c.self.inside.first.key = added-first c.self.inside.pen.nib.key _ c.self.inside.seen.log c.write.new.seen.log c.write.ensures.added ∙ ap (λ w. w.key) c.of.ensures in
    c.at.ensures ∙ ap (λ k. written_in c.write.new.seen.book k c.write.new.seen.log) first

pub returns-clause-stands : goal.returns-clause-stands
returns-clause-stands g c =
    subst (λ w. Stands w (length c.args.self.now.entries) (g.M.Means.means c.args.what.now)) (sym (returns-clause-mark g c ∙ returns-clause-grown g c)) (stands-last c.args.self.now.entries (g.M.Means.means c.args.what.now))
