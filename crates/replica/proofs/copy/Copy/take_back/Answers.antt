use Rattle.std.proofs.Common.{◌≡◌, ◌∙◌, false, ap}
use Rattle.replica.specs.Logged.{Logged}
use Rattle.replica.proofs.LogLaws.{same_records}
use Rattle.replica.proofs.copy.Copy.take_back.Goals as goal

-- the log of an open copy is that of its records
pub take_back-requires-clause-own : goal.take_back-requires-clause-own
take_back-requires-clause-own g c =
    let inside = c.self.inside in
    let opened : inside.closed ≡ false = ap (λ (l : Logged). l.closed) c.self.view_is ∙ c.requires in
    same_records (g.D.LogDevice.bytes inside.log.device) inside.state.copy.records c.in-Ok.records.items inside.log.groups (c.self.invariant opened) c.in-Ok.ensures.found
