use Rattle.std.proofs.Common.{subst, IfSome, Option}
use Rattle.published.specs.declared.showing.Showing.{Showing}
use Rattle.cell.specs.Publishing.{IsShownBy}
use Rattle.cell.proofs.Growing.{still_shown}
use Rattle.node.specs.Reading.{standing}
use Rattle.cell.proofs.cell.CopyCell.show.Goals as goal

-- src/cell.rt
pub invariant_of-self : goal.invariant_of-self
invariant_of-self g c =
    let shown : IsShownBy g.J.RegistryName.registry (standing c.self.inside.held).copy c.in-Some.showing = subst (λ (o : Option Showing). IfSome o (IsShownBy g.J.RegistryName.registry (standing c.self.inside.held).copy)) c.in-Some.is c.in_ok-showing.ensures in
    still_shown g.J.RegistryName.registry g.J.IndexName.index.mapping (standing c.self.inside.held).copy c.self.inside.publisher c.publish.new.self c.in-Some.showing c.publish.result c.self.invariant.0 c.self.invariant.1 shown
    c.publish.ensures.book c.publish.ensures.ok c.publish.ensures.shown c.publish.ensures.top
