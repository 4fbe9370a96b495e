use Rattle.std.proofs.Common.{◌≡◌, List, [], ◌∷◌, ◌++◌, sym, ◌∙◌, ap, subst, arith}
use Rattle.published.specs.declared.listing.Listing.{Listing}
use Rattle.published.specs.Beginning.{Beginning}
use Rattle.published.specs.Chain.{MayFollow, IsLast}
use Rattle.published.specs.Showing.{listing}
use Rattle.published.proofs.Adding.{adds_moves, adds_hit}
use Rattle.published.proofs.Chains.{last-snoc}
use Rattle.published.proofs.front.History.add.Goals as goal

pub compare_exchange-found-requires : goal.compare_exchange-found-requires
compare_exchange-found-requires c =
    let h = c.self.invariant.2 in
    let offer = c.plain-offer.ensures in
    let pen = c.no_pen-pen.ensures in
    let seen = c.again-seen.ensures in
    let ask : c.plain-offer.result.ask ≡ listing c.self.inside.seen.book c.args.showing = offer.1 ∙ ap (λ s. listing s.book c.args.showing) c.again.ensures in
    let may : MayFollow c.self.inside.seen.log (listing c.self.inside.seen.book c.args.showing) =
    subst (λ (b : Beginning). MayFollow b.log (listing b.book c.args.showing)) (sym c.self.view_is) c.requires.may in (
      ap (λ w. w.tracked) h,
      ap (λ s. s.book) seen ∙ sym (ap (λ w. w.book) h),
      pen.0 ∙ sym (ap (λ w. w.book) h),
      offer.0 ∙ sym (ap (λ s. s.names) seen),
      rw (ap (λ w. w.key) h, ap (λ s. s.log) seen, pen.1, ask, offer.3) (adds_moves c.self.inside.seen.log (listing c.self.inside.seen.book c.args.showing) c.self.inside.count (sym c.self.invariant.0) may),
    )

pub invariant_of-result : goal.invariant_of-result
invariant_of-result c =
    let seen = c.again-seen.ensures in
    let mine = c.self.inside.seen.log in
    let l = listing c.self.inside.seen.book c.args.showing in
    let ask : c.plain-offer.result.ask ≡ l = c.plain-offer.ensures.1 ∙ ap (λ s. listing s.book c.args.showing) c.again.ensures in
    let same : c.compare_exchange-found.result ≡ c.self.inside.count = omega (arith, c.if-found-count.false) in
    let hit = adds_hit c.self.inside.count c.compare_exchange-found.result c.again-seen.result.log c.compare_exchange-found.new.seen.log c.plain-offer.result.ask same c.compare_exchange-found.ensures.7 in
    let log : c.again-2.result.log ≡ mine ++ l ∷ [] = ap (λ s. s.log) c.again-2.ensures ∙ (hit.0 ∙ (ap (λ s. s.log ++ c.plain-offer.result.ask ∷ []) seen ∙ ap (λ x. mine ++ x ∷ []) ask)) in
    let book : c.again-2.result.book ≡ c.self.inside.seen.book = ap (λ s. s.book) c.again-2.ensures ∙ (c.compare_exchange-found.ensures.0 ∙ ap (λ s. s.book) seen) in
    record { last = subst (λ (ls : List Listing). IsLast ls (listing c.again-2.result.book c.args.showing)) (sym log) (subst (λ b. IsLast (mine ++ l ∷ []) (listing b c.args.showing)) (sym book) (last-snoc mine l)) }
