use Rattle.std.proofs.Common.{◌++◌, ◌∙◌, ap, int_eq}
use Rattle.segment.specs.Places.{places_listed}
use Rattle.segment.specs.Posted.{places_so_far_long}
use Rattle.segment.proofs.ListingLaws.{listed-append}
use Rattle.segment.proofs.longs.Longs.join.Goals as goal

-- the later pairs stand behind the others
pub returns : goal.returns
returns c = λ z.
    let first = c.in_ok-listed.listed.items in
    let more = c.in_ok-more.more.items in
    ap (places_listed (int_eq z)) c.in_ok-append.ensures.items ∙ ap (λ es. places_listed (int_eq z) (es ++ more)) c.in_ok-reserve_exact.ensures.items ∙ listed-append (int_eq z) first more
    ∙ ap (λ ps. ps ++ places_listed (int_eq z) more) (c.in_ok-listed.ensures z ∙ ap (λ l. places_so_far_long l z) c.replace.ensures.value)
    ∙ ap (λ ps. places_so_far_long c.args.self.now z ++ ps) (c.in_ok-more.ensures z)
