use Rattle.std.proofs.Common.{◌∙◌, sym}
use Rattle.segment.proofs.ListingLaws.{listed-texts, listed-tree}
use Rattle.segment.proofs.texts.unite.Goals as goal

pub returns : goal.returns
returns c =
    let m = c.in_ok-united.united in
    λ w. sym (listed-tree m c.in_ok-united.ensures.ordered w) ∙ listed-texts m.entries c.args.pairs.items c.in_ok-united.ensures.same w
