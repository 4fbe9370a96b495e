use Rattle.std.proofs.Common.{◌≡◌, subst, Option, IfSome, Result, IfOk}
use Rattle.std.specs.declared.alloc.AllocError.{AllocError}
use Rattle.published.specs.Line.{Line, line}
use Rattle.published.specs.Showing.{listing}
use Rattle.published.specs.declared.showing.Showing.{Showing}
use Rattle.cell.specs.Publishing.{IsShownBy}
use Rattle.cell.proofs.Growing.{begun_published}
use Rattle.node.specs.Reading.{standing}
use Rattle.cell.proofs.cell.CopyCell.begin.Goals as goal

-- src/cell.rt
pub invariant_of-result : goal.invariant_of-result
invariant_of-result g c =
    let open_shown : IfSome c.in-Ok-Some.field-0 (IsShownBy g.J.RegistryName.registry (standing c.args.held).copy) = subst (λ (r : Result (Option Showing) AllocError). IfOk r (λ o. IfSome o (IsShownBy g.J.RegistryName.registry (standing c.args.held).copy))) c.in-Ok-Some.is c.showing_in.ensures in
    let shown : IsShownBy g.J.RegistryName.registry (standing c.args.held).copy c.in-Ok-Some.showing = subst (λ (o : Option Showing). IfSome o (IsShownBy g.J.RegistryName.registry (standing c.args.held).copy)) c.in-Ok-Some.field-0-is open_shown in
    begun_published g.J.RegistryName.registry g.J.IndexName.index.mapping (standing c.args.held).copy c.in-Ok.publisher c.in-Ok-Some.showing shown c.requires.mapping (subst (λ (r : Result Line AllocError). IfOk r (λ p. p ≡ line p.book (listing p.book c.in-Ok-Some.showing))) c.in-Ok.is c.begin.ensures)
