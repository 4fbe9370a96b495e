use Rattle.std.proofs.Common.{◌∙◌, sym}
use Rattle.std.proofs.lemmas.Cmp.{int_cmp_total}
use Rattle.segment.proofs.ListingLaws.{listed-ordered}
use Rattle.segment.proofs.longs.unite.Goals as goal

pub returns : goal.returns
returns c = λ z. sym (listed-ordered int_cmp_total c.in_ok-united.united.entries c.in_ok-united.ensures.ordered z) ∙ c.in_ok-united.ensures.same z
