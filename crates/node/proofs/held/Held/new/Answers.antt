use Rattle.std.proofs.Common.{◌≡◌, true, [], ap, sym, ◌∙◌}
use Rattle.node.proofs.Sound.{held_new}
use Rattle.node.proofs.held.Held.new.Goals as goal

pub invariant_of-result : goal.invariant_of-result
invariant_of-result g c =
    let deeds = c.in-Ok.deeds in
    let kept : deeds.ledger.kept ≡ true = ap (λ r. r.ledger.kept) c.in-Ok.ensures.added.0 ∙ ap (λ l. l.kept) c.kept.ensures in
    let entries : deeds.ledger.entries ≡ [] = ap (λ r. r.ledger.entries) c.in-Ok.ensures.added.0 ∙ ap (λ l. l.entries) c.kept.ensures in (
      ap (λ r. r.number) c.in-Ok.ensures.added.0 ∙ (c.id.ensures ∙ sym (ap (λ x. x.id) c.begun.ensures)),
      held_new deeds.ledger.kept deeds.ledger.entries c.args.copy c.begun.result c.is_logged.ensures c.requires.open c.begun.ensures entries,
      sym kept,
      sym c.requires.copy ∙ sym c.begun.ensures,
    )
