use Rattle.std.proofs.Common.{◌≡◌, sym, ◌∙◌, ap}
use Rattle.chronicle.proofs.Steps.{make_moves}
use Rattle.chronicle.proofs.chronicle.Chronicle.new_right.Goals as goal

pub compare_exchange-requires : goal.compare_exchange-requires
compare_exchange-requires g c =
    let h = c.self.invariant in
    let offer = c.plain-offer.ensures in
    let pen = c.no_pen-pen.ensures in
    let book : c.args.seen.now.book ≡ c.self.inside.head.book = c.requires.book ∙ sym (ap (λ w. w.book) h ∙ c.self.view_is) in (
      ap (λ w. w.tracked) h,
      book,
      pen.0 ∙ book,
      offer.0,
      rw (ap (λ w. w.key) h, pen.1, offer.3) (make_moves c.args.seen.now.log c.plain-offer.result.ask),
    )
