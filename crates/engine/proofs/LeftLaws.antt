-- Parts that were taken, and what is left of them.
use Rattle.std.proofs.Common.{◌≡◌, ◌≤◌, ℕ, zero, suc, Bool, true, false, cond, List, [], ◌∷◌, length, filter, map, get_or, sym, ap, ◌∙◌, subst, arith}
use Rattle.std.specs.Prelude.{All, Contains}
use Rattle.std.proofs.lemmas.List.Elements.{All-filter, All-push, Contains-get_or}
use Rattle.std.proofs.lemmas.List.{length-map, get_or-map}
use Rattle.doc.specs.Id.{Id}
use Rattle.op.specs.Documents.{Documents}
use Rattle.engine.specs.Parts.{PartData, all_published, documents_of_parts, is_living, published_of, without, woven, AllInOrder, IsSplit, none, stays, goes}
use Rattle.engine.specs.Published.{Published}
use Rattle.engine.proofs.ApartLaws.{all_without, woven-without}
use Rattle.engine.proofs.ChoosingLaws.{bears, is_chosen}
use Rattle.engine.proofs.LivingLaws.{living-woven}

-- those that go were taken
pub split-among : (taken : List Published) (ps stay go : List PartData) → IsSplit taken ps stay go → All (λ p. Contains taken (published_of p)) go
split-among taken _ _ _ none = λ k d lt. absurd (omega (arith, lt))
split-among taken _ _ _ (stays before kept ps stay go p split not_there is stay_is) = split-among taken before kept go split
split-among taken _ _ _ (goes before stay gone ps go p split there is go_is) =
    subst (λ (xs : List PartData). All (λ p. Contains taken (published_of p)) xs) (sym go_is) (All-push (λ p. Contains taken (published_of p)) gone p (split-among taken before stay gone split) there)

-- so were those in which a document is left
pub left-among : (taken : List Published) (ps : List PartData) → all_published ps ≡ taken → All (λ p. Contains taken (published_of p)) (filter is_living ps)
left-among taken ps same = All-filter is_living (λ p. Contains taken (published_of p)) ps
    (λ k d lt. subst (λ ss. Contains ss (published_of (get_or ps k d))) same
    (subst (Contains (all_published ps)) (get_or-map published_of ps k d (published_of d) lt) (Contains-get_or (all_published ps) k (published_of d) (omega (arith, lt, length-map ps published_of)))))

-- ---- two of one number

abbrev bearers : ℕ → List PartData → List PartData
bearers n ps = filter (is_chosen (n ∷ [])) ps

there_is : (ps : List PartData) (y : Published) → Contains (all_published ps) y → 1 ≤ length (bearers y.number ps)
there_is [] y there = absurd (omega (arith, there.1))
there_is (p ∷ ps) y (zero, lt, is) = subst (λ (s : Published). 1 ≤ length (bearers s.number (p ∷ ps))) is
    (subst (λ b. 1 ≤ length (cond b (p ∷ bearers p.number ps) (bearers p.number ps))) (sym (bears p)) (omega arith))
there_is (p ∷ ps) y (suc k, lt, is) = more (is_chosen (y.number ∷ []) p) (there_is ps y (k, omega (arith, lt), is))
  where
    more : (b : Bool) → 1 ≤ length (bearers y.number ps) → 1 ≤ length (cond b (p ∷ bearers y.number ps) (bearers y.number ps))
    more true some = omega arith
    more false some = some

first_bears : (p : PartData) (ps : List PartData) → length (bearers p.number (p ∷ ps)) ≡ suc (length (bearers p.number ps))
first_bears p ps = ap (λ b. length (cond b (p ∷ bearers p.number ps) (bearers p.number ps))) (bears p)

fewer : (n : ℕ) (p : PartData) (ps : List PartData) → length (bearers n ps) ≤ length (bearers n (p ∷ ps))
fewer n p ps = by_test (is_chosen (n ∷ []) p)
  where
    by_test : (b : Bool) → length (bearers n ps) ≤ length (cond b (p ∷ bearers n ps) (bearers n ps))
    by_test true = omega arith
    by_test false = omega arith

-- the first is the only one
alone : (p : PartData) (ps : List PartData) (y : Published) → Contains (all_published ps) y → y.number ≡ p.number → length (bearers p.number (p ∷ ps)) ≤ 1 → ⊥
alone p ps y there same few =
    let some : 1 ≤ length (bearers p.number ps) = subst (λ n. 1 ≤ length (bearers n ps)) same (there_is ps y there) in
    absurd (omega (arith, few, some, first_bears p ps))

-- where one alone bears a number, two that bear it are that one
pub only-one : (ps : List PartData) (x y : Published) → Contains (all_published ps) x → Contains (all_published ps) y → x.number ≡ y.number → length (bearers y.number ps) ≤ 1 → x ≡ y
only-one [] x y here there same few = absurd (omega (arith, here.1))
only-one (p ∷ ps) x y (zero, lt, is) (zero, gt, it) same few = sym is ∙ it
only-one (p ∷ ps) x y (zero, lt, is) (suc j, gt, it) same few =
    let number : y.number ≡ p.number = sym same ∙ ap (λ (s : Published). s.number) (sym is) in
    absurd (alone p ps y (j, omega (arith, gt), it) number (subst (λ n. length (bearers n (p ∷ ps)) ≤ 1) number few))
only-one (p ∷ ps) x y (suc i, lt, is) (zero, gt, it) same few =
    let mine : y.number ≡ p.number = ap (λ (s : Published). s.number) (sym it) in
    absurd (alone p ps x (i, omega (arith, lt), is) (same ∙ mine) (subst (λ n. length (bearers n (p ∷ ps)) ≤ 1) mine few))
only-one (p ∷ ps) x y (suc i, lt, is) (suc j, gt, it) same few =
    only-one ps x y (i, omega (arith, lt), is) (j, omega (arith, gt), it) same (omega (arith, few, fewer y.number p ps))

-- ---- what is shown

-- the documents of all that were taken, without some ids, are those of parts that show what is then left
pub left-documents : (ids : List Id) (taken without_them parts : List PartData) (made : Documents) → AllInOrder (documents_of_parts taken) → made ≡ woven (documents_of_parts taken)
    → documents_of_parts without_them ≡ map (without ids) (documents_of_parts taken) → documents_of_parts (filter is_living without_them) ≡ documents_of_parts parts → without ids made ≡ woven (documents_of_parts parts)
left-documents ids taken without_them parts made order is left same =
    ap (without ids) is ∙ sym (woven-without ids (documents_of_parts taken) order) ∙ ap woven (sym left)
    ∙ sym (living-woven without_them (subst AllInOrder (sym left) (all_without ids (documents_of_parts taken) order))) ∙ ap woven same
