use Rattle.std.proofs.Common.{◌≡◌, ◌++◌, ◌∷◌, ◌∙◌, [], List, arith, sym, ap, length}
use Rattle.std.specs.BTreeMap.{is_at}
use Rattle.std.specs.List.{dedup_from}
use Rattle.std.specs.Map.{keys_of}
use Rattle.std.proofs.lemmas.List.{nil_from_length}
use Rattle.segment.specs.Places.{places_listed}
use Rattle.segment.specs.declared.places.Places.{Places}
use Rattle.segment.proofs.ListingLaws.{pair-more}
use Rattle.segment.proofs.listing.put_together.Goals as goal

-- one pair more
pub loop-pair-preserved : goal.loop-pair-preserved
loop-pair-preserved g c =
    let closed = c.loop-pair.closed.items in
    let last = c.loop-pair.last in
    let pair = c.in-Some-pair.pair in
    let left = c.next-in-loop-pair.new.self.rest.items in
    let all = c.args.pairs.items in
    let steps = c.in-Some-pair.ensures.steps in
    record {
      same = λ q. pair-more (is_at (g.K.Ord.cmp q)) closed c.add_pair.new.closed.items last c.add_pair.new.last pair left all (c.in_ok-add_pair.ensures.same q)
          (ap (λ es. places_listed (is_at (g.K.Ord.cmp q)) (closed ++ last ∷ es)) (sym steps.0) ∙ c.loop-pair.invariant.same q);
      once = c.in_ok-add_pair.ensures.once (keys_of left) ∙ ap (λ es. keys_of closed ++ dedup_from g.K.PartialEq.eq last.0 (keys_of es)) (sym steps.0) ∙ c.loop-pair.invariant.once;
      len = omega (arith, steps.1, c.loop-pair.invariant.len, ap length steps.0);
    }

-- no pair is left
pub returns-clause-same : goal.returns-clause-same
returns-clause-same g c =
    let left = c.loop-pair.pair-iterator.rest.items in
    let none : left ≡ [] = nil_from_length left (omega (arith, c.loop-pair.invariant.len, c.in-None.ensures.steps.0)) in
    λ q. ap (places_listed (is_at (g.K.Ord.cmp q))) (c.in_ok-push.ensures.items) ∙ ap (λ (es : List (g.row.K.Denot × Places)). places_listed (is_at (g.K.Ord.cmp q)) (c.loop-pair.closed.items ++ c.loop-pair.last ∷ es)) (sym none) ∙ c.loop-pair.invariant.same q
