use Rattle.std.proofs.Common.{sym, ◌∙◌, ap}
use Rattle.chronicle.proofs.Registries.{one_seat}
use Rattle.chronicle.proofs.beginning.Beginning.agrees.Goals as goal

pub agrees-requires-3 : goal.agrees-requires-3
agrees-requires-3 g c =
    let one =
    one_seat c.self.inside.seat.entries c.other.inside.seat.entries c.self.invariant.1 c.other.invariant.1 c.self.invariant.0 c.other.invariant.0 c.agrees.ensures.begins c.agrees-2.ensures.begins
    (ap (λ u. u.number) c.other.view_is ∙ (c.requires.number ∙ sym (ap (λ u. u.number) c.self.view_is))) in
    record { line = c.other.invariant.2 ∙ (ap (λ s. s.first) one ∙ sym c.self.invariant.2) }
