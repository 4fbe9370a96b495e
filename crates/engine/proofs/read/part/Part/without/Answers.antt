use Rattle.std.proofs.Common.{◌≡◌, IfOk, refl, sym, subst}
use Rattle.std.specs.Arc.{arc_value}
use Rattle.op.specs.Documents.{Documents}
use Rattle.engine.specs.Parts.{PartData, without}
use Rattle.engine.proofs.ShareLaws.{none-left_out}
use Rattle.engine.proofs.read.part.Part.without.Goals as goal

-- no document has one of the ids
pub returns-else-has_any : goal.returns-else-has_any
returns-else-has_any c =
    let ids = c.args.ids.now in
    let docs = (arc_value c.self.inside.block).documents in
    let live = arc_value c.self.inside.live in
    let none = rw c.deref.ensures at c.if-has_any.ensures refl in
    let same : c.args.self.now.documents ≡ without ids c.args.self.now.documents = subst (λ (p : PartData). p.documents ≡ without ids p.documents) c.self.view_is (sym (none-left_out ids docs live c.self.invariant.whole none)) in
    subst (λ (ds : Documents). IfOk c.copy.result (λ p. p ≡ record c.args.self.now { documents = ds })) same c.copy.ensures
