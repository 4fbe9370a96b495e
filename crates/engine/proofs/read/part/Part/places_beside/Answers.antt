use Rattle.std.proofs.Common.{◌≡◌, ◌<◌, ◌∙◌, ◌||◌, false, ap, sym, subst, arith, length, All, Bool}
use Rattle.std.specs.Arc.{arc_value}
use Rattle.std.proofs.lemmas.List.{length-replicate}
use Rattle.marks.specs.Lists.{places}
use Rattle.segment.proofs.Joins.{length-zip}
use Rattle.segment.proofs.Steps.{places-below}
use Rattle.engine.specs.Parts.{PartData}
use Rattle.engine.proofs.read.part.Part.places_beside.Goals.{in-Some, in_default}
use Rattle.engine.proofs.read.part.Part.places_beside.Goals as goal

pub places-requires : goal.places-requires
places-requires c =
    let docs = (arc_value c.self.inside.block).documents in
    let empty : length c.in_ok-beside.beside ≡ length c.deref-3.result.now = ap length c.in_ok-beside.ensures ∙ length-replicate c.len.result false ∙ c.len.ensures ∙ ap length c.deref-2.ensures ∙ sym (ap length c.deref-3.ensures) in
    let united : length c.unite.new.self ≡ length docs = ap length c.unite.ensures ∙ length-zip (λ (a b : Bool). a || b) c.in_ok-beside.beside c.deref-3.result.now empty ∙ ap length c.deref-3.ensures ∙ c.self.invariant.whole in
    let all : length c.match-other.beside ≡ length docs = elim c.match-other.branch [ in-Some w ↦ ap length w.beside-is ∙ w.subtract_fitting.ensures ∙ united | in_default w ↦ ap length w.beside-is ∙ united ] in
    let len = rw c.deref.ensures at c.len-few.ensures.is in
    omega (arith, all, len, c.len-few.ensures.few)

pub returns : goal.returns
returns c =
    let docs = (arc_value c.self.inside.block).documents in
    let empty : length c.in_ok-beside.beside ≡ length c.deref-3.result.now = ap length c.in_ok-beside.ensures ∙ length-replicate c.len.result false ∙ c.len.ensures ∙ ap length c.deref-2.ensures ∙ sym (ap length c.deref-3.ensures) in
    let united : length c.unite.new.self ≡ length docs = ap length c.unite.ensures ∙ length-zip (λ (a b : Bool). a || b) c.in_ok-beside.beside c.deref-3.result.now empty ∙ ap length c.deref-3.ensures ∙ c.self.invariant.whole in
    let all : length c.match-other.beside ≡ length docs = elim c.match-other.branch [ in-Some w ↦ ap length w.beside-is ∙ w.subtract_fitting.ensures ∙ united | in_default w ↦ ap length w.beside-is ∙ united ] in
    subst (λ ps. All (λ p. p < length c.args.self.now.built) ps) (sym c.in_ok-places.ensures)
    (subst (λ n. All (λ p. p < n) (places (λ (b : Bool). b) c.match-other.beside)) (all ∙ ap (λ (s : PartData). length s.built) c.self.view_is) (places-below (λ (b : Bool). b) c.match-other.beside))
