-- What is left of parts without the documents that have one of some ids.
use Rattle.std.proofs.Common.{◌≡◌, ◌<◌, ◌+◌, ◌++◌, ℕ, List, [], ◌∷◌, length, take, get_or, sym, ap, subst, ◌∙◌, arith}
use Rattle.std.specs.Prelude.{All}
use Rattle.std.proofs.lemmas.List.{get_or-map, length-map, map-append}
use Rattle.std.proofs.lemmas.List.Elements.{All-nil, All-push}
use Rattle.doc.specs.Id.{Id}
use Rattle.engine.specs.Lessened.{all_before, IsLessened}
use Rattle.engine.specs.Parts.{PartData, all_published, published_of, without}
use Rattle.engine.specs.Published.{Published, AreTold}
use Rattle.engine.specs.declared.job.lessened.Lessened.{Lessened}
use Rattle.engine.proofs.SwapLaws.{published-more}

-- what all first parts have that of one has
pub before-at : (P : Published → Type 0) (ls : List Lessened) (i : ℕ) (x : Lessened) → i < length ls → x ≡ get_or ls i x → All P (all_before ls) → P (published_of x.before)
before-at P ls i x lt is all =
    subst P (get_or-map (λ (l : Lessened). published_of l.before) ls i x (published_of x.before) lt ∙ ap (λ (l : Lessened). published_of l.before) (sym is))
    (all i (published_of x.before) (omega (arith, lt, length-map ls (λ (l : Lessened). published_of l.before))))

-- and what all have one has
pub each-at : (P : Lessened → Type 0) (ls : List Lessened) (i : ℕ) (x : Lessened) → i < length ls → x ≡ get_or ls i x → All P ls → P x
each-at P ls i x lt is all = subst P (sym is) (all i x lt)

-- none is told by any number
pub told-none : (ss : List Published) → AreTold [] ss
told-none ss = λ k d lt. All-nil (λ (t : Published). t.number ≡ (get_or ss k d).number → t ≡ get_or ss k d)

-- one more
pub lessened-more : (ids : List Id) (ps : List PartData) (i : ℕ) (p : PartData) (l : Lessened) (ls new : List Lessened) → i < length ps → p ≡ get_or ps i p → l.before ≡ p → l.after ≡ record p { documents = without ids p.documents } → new ≡ ls ++ l ∷ []
    → all_before ls ≡ all_published (take i ps) → All (IsLessened ids) ls → (all_before new ≡ all_published (take (i + 1) ps)) × All (IsLessened ids) new
lessened-more ids ps i p l ls new lt is before after pushed so_far are = (
  ap all_before pushed
      ∙ map-append (λ (x : Lessened). published_of x.before) ls (l ∷ [])
      ∙ ap (λ ss. ss ++ published_of l.before ∷ []) so_far
      ∙ ap (λ (x : PartData). all_published (take i ps) ++ published_of x ∷ []) before
      ∙ sym (published-more ps i p lt is),
  subst (All (IsLessened ids)) (sym pushed) (All-push (IsLessened ids) ls l are (after ∙ ap (λ (x : PartData). let y : PartData = record x { documents = without ids x.documents } in y) (sym before))),
)
