use Rattle.std.proofs.Common.{◌≡◌, ◌∙◌, [], rules, ap, sym, subst, false, w64, ℤ, int_eq}
use Rattle.std.proofs.lemmas.Int.{to_z-of_z}
use Rattle.std.specs.Option.{option_map_or}
use Rattle.segment.specs.Places.{as_list, added, places_at_long}
use Rattle.segment.proofs.longs.post_at.Goals as goal

-- the place is added to the number's
pub returns-in-Some-clause-here : goal.returns-in-Some-clause-here
returns-in-Some-clause-here c =
    let key = to_z-of_z w64 c.args.number c.ranges.number in
    let n = c.get_mut.follows.lender c.add_place.new.places in
    let updates = (c.get_mut.follows.holds c.add_place.new.places).3 (search rules) in
    let before = ap (λ o. option_map_or as_list o []) c.in-Some.ensures.value ∙ ap (places_at_long c.args.longs.now) key in
    sym (ap (places_at_long n) key) ∙ ap (λ o. option_map_or as_list o []) updates.1 ∙ c.in_ok-add_place.ensures ∙ ap (λ ps. added ps c.args.at) before

-- the others stay
pub returns-in-Some-clause-others : goal.returns-in-Some-clause-others
returns-in-Some-clause-others c = λ z apart.
    let updates = (c.get_mut.follows.holds c.add_place.new.places).3 (search rules) in
    let differs = subst (λ (n : ℤ). int_eq n z ≡ false) (sym (to_z-of_z w64 c.args.number c.ranges.number)) apart in
    ap (λ o. option_map_or as_list o []) (updates.2 z differs)

pub returns-clause-others : goal.returns-clause-others
returns-clause-others c = λ z apart.
    let differs = subst (λ (n : ℤ). int_eq n z ≡ false) (sym (to_z-of_z w64 c.args.number c.ranges.number)) apart in
    ap (λ o. option_map_or as_list o []) (c.in_ok-insert.ensures.updates.2 z differs) ∙ (search rules)
