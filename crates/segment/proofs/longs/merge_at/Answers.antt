use Rattle.std.proofs.Common.{◌≡◌, ◌∙◌, [], rules, arith, ap, sym, subst, false, w64, ℤ, int_eq}
use Rattle.std.proofs.lemmas.Int.{to_z-of_z}
use Rattle.std.specs.Option.{option_map_or}
use Rattle.segment.specs.Places.{as_list, places_at_long}
use Rattle.segment.specs.Woven.{risen}
use Rattle.segment.proofs.MovingLaws.{risen-none}
use Rattle.segment.proofs.longs.merge_at.Goals as goal

pub returns-then-is_empty-clause-here : goal.returns-then-is_empty-clause-here
returns-then-is_empty-clause-here c = grind (arith, risen-none)

-- the places come among the number's
pub returns-in-Some-clause-here : goal.returns-in-Some-clause-here
returns-in-Some-clause-here c =
    let key = to_z-of_z w64 c.args.number c.ranges.number in
    let n = c.get_mut.follows.lender c.merge.new.self in
    let updates = (c.get_mut.follows.holds c.merge.new.self).3 (search rules) in
    let before = ap (λ o. option_map_or as_list o []) c.in-Some.ensures.value ∙ ap (places_at_long c.args.longs.now) key in
    sym (ap (places_at_long n) key) ∙ ap (λ o. option_map_or as_list o []) updates.1 ∙ c.in_ok-merge.ensures ∙ ap (λ ps. risen ps c.args.later.now) before

-- the others stay
pub returns-clause-others : goal.returns-clause-others
returns-clause-others c = λ z apart.
    let differs = subst (λ (n : ℤ). int_eq n z ≡ false) (sym (to_z-of_z w64 c.args.number c.ranges.number)) apart in
    ap (λ o. option_map_or as_list o []) (c.in_ok-insert.ensures.updates.2 z differs) ∙ (search rules)
