use Rattle.std.proofs.Common.{◌++◌, ◌∙◌, ap}
use Rattle.segment.specs.Places.{places_listed}
use Rattle.segment.specs.Posted.{places_so_far}
use Rattle.segment.proofs.ListingLaws.{has_bytes, listed-append}
use Rattle.segment.proofs.texts.Texts.join.Goals as goal

-- the later pairs stand behind the others
pub returns : goal.returns
returns c = λ w.
    let first = c.in_ok-listed.listed.items in
    let more = c.in_ok-more.more.items in
    ap (places_listed (has_bytes w)) c.in_ok-append.ensures.items ∙ ap (λ es. places_listed (has_bytes w) (es ++ more)) c.in_ok-reserve_exact.ensures.items ∙ listed-append (has_bytes w) first more
    ∙ ap (λ ps. ps ++ places_listed (has_bytes w) more) (c.in_ok-listed.ensures w ∙ ap (λ t. places_so_far t w) c.replace.ensures.value)
    ∙ ap (λ ps. places_so_far c.args.self.now w ++ ps) (c.in_ok-more.ensures w)
