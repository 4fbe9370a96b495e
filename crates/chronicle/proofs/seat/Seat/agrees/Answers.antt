use Rattle.std.proofs.Common.{sym, ◌∙◌, ap}
use Rattle.chronicle.proofs.Registries.{one_seat}
use Rattle.chronicle.proofs.seat.Seat.agrees.Goals as goal

pub returns : goal.returns
returns g c =
    sym c.other.view_is
    ∙ (one_seat c.self.inside.mark.entries c.other.inside.mark.entries c.self.invariant.2 c.other.invariant.2 c.self.invariant.1 c.other.invariant.1 c.agrees.ensures.begins c.agrees-2.ensures.begins
    (ap (λ s. s.number) c.other.view_is ∙ (c.requires ∙ sym (ap (λ s. s.number) c.self.view_is))) ∙ c.self.view_is)
