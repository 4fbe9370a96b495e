use Rattle.std.proofs.Common.{◌≡◌, ◌∙◌, List, arith, ap, sym, length}
use Rattle.std.specs.List.{dedup}
use Rattle.std.specs.Map.{keys_of}
use Rattle.std.proofs.lemmas.List.{length-map}
use Rattle.segment.specs.declared.places.Places.{Places}
use Rattle.segment.proofs.ListingLaws.{distinct-whole}
use Rattle.segment.proofs.listing.once.Goals as goal

-- as many keys as pairs: none is left out
pub returns-then-count-len-clause-once : goal.returns-then-count-len-clause-once
returns-then-count-len-clause-once g c =
    let eq = g.K.PartialEq.eq in
    let pairs = c.args.pairs.items in
    let count : c.distinct-count.result ≡ length (dedup eq (keys_of pairs)) = c.distinct-count.ensures ∙ ap (λ (es : List (g.row.K.Denot × Places)). length (dedup eq (keys_of es))) c.deref.ensures.value in
    sym (distinct-whole eq (keys_of pairs) (omega (arith, count, c.if-count-len.true, c.len.ensures, c.args.pairs.ok.0, length-map pairs (λ (e : g.row.K.Denot × Places). e.0))))
