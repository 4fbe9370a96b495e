use Rattle.std.proofs.Common.{◌≡◌, sym, ◌∙◌, ap}
use Rattle.chronicle.proofs.Steps.{write_moves}
use Rattle.chronicle.proofs.chronicle.Chronicle.write.Goals as goal

pub compare_exchange-requires : goal.compare_exchange-requires
compare_exchange-requires g c =
    let h = c.self.invariant in
    let offer = c.plain-offer.ensures in
    let book : c.self.inside.head.book ≡ c.args.self.now = ap (λ w. w.book) h ∙ c.self.view_is in
    let own : c.plain-offer.result.ask.right ≡ c.args.pen.now.nib.key = ap (λ e. e.right) offer.1 ∙ c.requires.own in (
      ap (λ w. w.tracked) h,
      c.requires.books.0 ∙ sym book,
      c.requires.books.1 ∙ sym book,
      offer.0,
      rw (ap (λ w. w.key) h, offer.3) (write_moves c.args.seen.now.log c.args.pen.now.nib c.plain-offer.result.ask c.requires.right own),
    )
