use Rattle.std.proofs.Common.{◌++◌, ◌∙◌, refl, sym, ap}
use Rattle.std.specs.BTreeMap.{is_at}
use Rattle.std.proofs.lemmas.Result.{on_ok_weaker}
use Rattle.segment.specs.Places.{as_list}
use Rattle.segment.proofs.ListingLaws.{added-same, same-key}
use Rattle.segment.proofs.listing.add_pair.Goals as goal

-- the places go to the last key
pub returns-then-eq-clause-same : goal.returns-then-eq-clause-same
returns-then-eq-clause-same g c =
    let last = c.args.last.now in
    let pair = c.args.pair in
    on_ok_weaker c.append.result
    (λ is q. added-same g.K.PartialEq.eq c.args.closed.now.items last pair (is_at (g.K.Ord.cmp q)) (last.0, c.append.new.self)
    (same-key g.met.K.Ord.total q pair.0 last.0 (sym (g.met.K.Ord.matches_eq pair.0 last.0) ∙ sym c.eq.ensures ∙ c.if-eq.true)) refl (is ∙ ap (λ ps. as_list last.1 ++ ps) c.as_slice.ensures)) c.append.ensures
