use Rattle.std.proofs.Common.{◌<◌, ◌∙◌, All, List, ℕ, Bool, length, sym, subst}
use Rattle.marks.specs.Lists.{places}
use Rattle.segment.proofs.Steps.{places-below}
use Rattle.segment.proofs.WeavingLaws.{moved-below}
use Rattle.segment.proofs.weaving.mark_moved.Goals as goal

pub moved-requires : goal.moved-requires
moved-requires c =
    let bs = c.args.others.now in
    subst (λ (ps : List ℕ). All (λ p. p < length c.args.to.now) ps) (sym (c.deref.ensures.value ∙ c.in_ok-found.ensures))
    (subst (λ (n : ℕ). All (λ p. p < n) (places (λ (b : Bool). b) bs)) c.requires.covered (places-below (λ (b : Bool). b) bs))

pub mark-requires : goal.mark-requires
mark-requires c =
    subst (λ (ps : List ℕ). All (λ p. p < length c.args.marks.now) ps) (sym (c.deref-2.ensures.value ∙ c.in_ok-places.ensures))
    (moved-below (length c.args.marks.now) c.args.to.now c.deref.result.now c.requires.within)
