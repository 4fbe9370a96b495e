use Rattle.std.proofs.Common.{ap, sym, subst, ◌∙◌, arith, length}
use Rattle.std.proofs.lemmas.List.{length_push}
use Rattle.chronicle.specs.Memory.{IsOf}
use Rattle.chronicle.proofs.ledger.Ledger.push.Goals as goal

-- src/ledger.rt
pub invariant_of-self : goal.invariant_of-self
invariant_of-self g c =
    let entries = ap (λ w. w.entries) c.append-mark.ensures.grown in (
      ap (λ w. w.line.book) c.append-mark.ensures.grown ∙ c.self.invariant.0,
      c.again.ensures ∙ c.append-mark.ensures.mark,
      omega (arith, ap length entries, length_push c.self.inside.writer.entries c.args.entry, c.self.invariant.2),
      subst (λ es. IsOf es c.add.new.self) (sym entries) (c.add.ensures.added c.self.inside.writer.entries c.self.invariant.3),
      λ e. absurd (cc e),
    )
