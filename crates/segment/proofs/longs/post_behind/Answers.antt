use Rattle.std.proofs.Common.{◌∙◌, ◌∷◌, ◌++◌, [], ap, w64, int_eq, if◌then◌else◌}
use Rattle.std.proofs.lemmas.Cmp.{int_eq_equiv}
use Rattle.std.proofs.lemmas.Int.{to_z-of_z}
use Rattle.segment.specs.Grouped.{places_posted}
use Rattle.segment.specs.Places.{added}
use Rattle.segment.proofs.GroupingLaws.{posted-push}
use Rattle.segment.proofs.longs.post_behind.Goals as goal

-- the place is added to the number's
pub returns-clause-here : goal.returns-clause-here
returns-clause-here c =
    let n = c.args.number in
    let key = to_z-of_z w64 n c.ranges.number in
    let before = c.args.postings.now.items in
    ap (places_posted (int_eq n)) c.in_ok-push.ensures.items ∙ ap (λ k. places_posted (int_eq n) (before ++ (k, c.args.at) ∷ [])) key
    ∙ posted-push (int_eq n) [] before (n, c.args.at)
    ∙ ap (λ b. if b then added (places_posted (int_eq n) before) c.args.at else places_posted (int_eq n) before) (int_eq_equiv.refl n)

-- the others stay
pub returns-clause-others : goal.returns-clause-others
returns-clause-others c = λ z apart.
    let n = c.args.number in
    let key = to_z-of_z w64 n c.ranges.number in
    let before = c.args.postings.now.items in
    ap (places_posted (int_eq z)) c.in_ok-push.ensures.items ∙ ap (λ k. places_posted (int_eq z) (before ++ (k, c.args.at) ∷ [])) key
    ∙ posted-push (int_eq z) [] before (n, c.args.at)
    ∙ ap (λ b. if b then added (places_posted (int_eq z) before) c.args.at else places_posted (int_eq z) before) (int_eq_equiv.symm z n ∙ apart)
