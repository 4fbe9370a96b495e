use Rattle.std.proofs.Common.{◌≡◌, ◌++◌, ◌∷◌, [], ◌<◌, ℕ, sym, ◌∙◌, ap, subst, rules}
use Rattle.chronicle.specs.Ledger.{LedgerData}
use Rattle.chronicle.specs.Written.{Line}
use Rattle.chronicle.specs.declared.registry.Numbered.{Numbered}
use Rattle.chronicle.specs.Registered.{last_seat, registered, AreRising}
use Rattle.chronicle.proofs.Registries.{rising_more, last_more, seat_self}
use Rattle.chronicle.proofs.registry.Registry.add.Goals as goal

abbrev numbered : {E : Type 0} (number : ℕ) (ledger : LedgerData E) (first : Line) → Numbered E
numbered number ledger first = record { number = number; ledger = ledger; first = first }

-- src/registry.rt
pub of-requires-clause-rising : goal.of-requires-clause-rising
of-requires-clause-rising g c =
    let last = c.self.invariant.3 in
    let less : (last_seat c.self.inside.writer.entries).number < c.args.number = search rules in
    let n = numbered c.args.number c.args.ledger c.again.result.line in
    subst AreRising (sym (ap (λ w. w.entries) (c.append_as-mark.ensures.mark ∙ c.append_as-mark.ensures.grown))) (rising_more c.self.inside.writer.entries n c.self.invariant.2 less)

pub of-requires-2 : goal.of-requires-2
of-requires-2 g c =
    let n = numbered c.args.number c.args.ledger c.again.result.line in
    seat_self c.of.result c.args.number c.args.ledger.line c.again.result.line
    (c.of.ensures ∙ (ap (λ w. last_seat w.entries) (c.append_as-mark.ensures.mark ∙ c.append_as-mark.ensures.grown) ∙ last_more c.self.inside.writer.entries n))

pub invariant_of-self : goal.invariant_of-self
invariant_of-self g c =
    let n = numbered c.args.number c.args.ledger c.again.result.line in
    let less : (last_seat c.self.inside.writer.entries).number < c.args.number = search rules in
    let grown = ap (λ w. w.entries) c.append_as-mark.ensures.grown in (
      ap (λ w. w.line) c.append_as-mark.ensures.grown ∙ c.self.invariant.0,
      c.self.invariant.1,
      subst AreRising (sym grown) (rising_more c.self.inside.writer.entries n c.self.invariant.2 less),
      sym (ap (λ es. (last_seat es).number) grown ∙ ap (λ s. s.number) (last_more c.self.inside.writer.entries n)),
    )

pub returns-clause-last : goal.returns-clause-last
returns-clause-last g c =
    let n = numbered c.args.number c.args.ledger c.again.result.line in
    ap (λ w. (last_seat w.entries).number) c.append_as-mark.ensures.grown ∙ ap (λ s. s.number) (last_more c.self.inside.writer.entries n)

pub returns-clause-added : goal.returns-clause-added
returns-clause-added g c =
    let n = numbered c.args.number c.args.ledger c.again.result.line in
    let seat = c.of.ensures ∙ (ap (λ w. last_seat w.entries) (c.append_as-mark.ensures.mark ∙ c.append_as-mark.ensures.grown) ∙ last_more c.self.inside.writer.entries n) in
    let line : c.again.result.line ≡ c.args.first.now.line = ap (λ w. w.line) c.again.ensures in (
      c.of-2.ensures ∙ ap (λ l. registered c.args.number l c.args.ledger) (ap (λ s. s.first) seat ∙ line),
      ap (λ w. w.entries) c.append_as-mark.ensures.grown
          ∙ (ap (λ l. c.self.inside.writer.entries ++ numbered c.args.number c.args.ledger l ∷ []) line ∙ ap (λ es. es ++ numbered c.args.number c.args.ledger c.args.first.now.line ∷ []) c.self.view_is),
    )
