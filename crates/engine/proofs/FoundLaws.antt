-- What is found by places.
use Rattle.std.proofs.Common.{◌≡◌, ◌<◌, ℕ, Bool, ◌+◌, zero, suc, List, [], ◌∷◌, ◌++◌, Some, length, map, take, refl, sym, ap, ◌∙◌, arith, slice_get, get_or}
use Rattle.std.proofs.lemmas.List.{map-append, map_more}
use Rattle.marks.specs.Lists.{places}
use Rattle.segment.proofs.Ahead.{places-map}
use Rattle.doc.specs.Mapping.{MappingData}
use Rattle.engine.specs.declared.read.block.Shown.{Shown}
use Rattle.engine.specs.Shown.{shown_view}
use Rattle.query.specs.Query.{Query}
use Rattle.query.specs.Meaning.{means}
use Rattle.engine.specs.Answer.{is_found}

pub each-some : {A B : Type 0} (view : A → B) (hs : List A) (ys : List B) → map (λ h. Some (view h)) hs ≡ map (λ y. Some y) ys → map view hs ≡ ys
each-some view [] [] is = refl
each-some view [] (y ∷ ys) is = cc
each-some view (h ∷ hs) [] is = cc
each-some view (h ∷ hs) (y ∷ ys) is =
    let first : view h ≡ y = cc in
    let rest : map (λ h. Some (view h)) hs ≡ map (λ y. Some y) ys = cc in
    ap (λ z. z ∷ map view hs) first ∙ ap (λ zs. y ∷ zs) (each-some view hs ys rest)

-- one hit more
pub hit-more : {A B : Type 0} (view : A → B) (all : List B) (hs : List A) (h : A) (ps : List ℕ) (i : ℕ) → i < length ps → Some (view h) ≡ slice_get all (get_or ps i 0)
    → map (λ h. Some (view h)) hs ≡ map (λ p. slice_get all p) (take i ps) → map (λ h. Some (view h)) (hs ++ h ∷ []) ≡ map (λ p. slice_get all p) (take (i + 1) ps)
hit-more view all hs h ps i lt here so_far =
    map-append (λ h. Some (view h)) hs (h ∷ []) ∙ ap (λ os. os ++ Some (view h) ∷ []) so_far ∙ ap (λ o. map (λ p. slice_get all p) (take i ps) ++ o ∷ []) here
    ∙ sym (map_more (λ p. slice_get all p) ps i 0 lt)

-- what the segment's sources are found by is what the documents are found by
pub found-marks : (m : MappingData) (q : Query) (ss : List Shown) (sources : List (List ℕ)) → sources ≡ map (λ (s : Shown). s.source) ss → map (λ t. means m t q) sources ≡ map (is_found m q) (map shown_view ss)
found-marks m q ss sources is = ap (map (λ t. means m t q)) is ∙ each ss
  where
    each : (ss : List Shown) → map (λ t. means m t q) (map (λ (s : Shown). s.source) ss) ≡ map (is_found m q) (map shown_view ss)
    each [] = refl
    each (s ∷ ss) = ap (λ bs. means m s.source q ∷ bs) (each ss)

-- the element at a place, as it is seen
pub seen_at : {A B : Type 0} (f : A → B) (xs : List A) (p : ℕ) (x : A) → p < length xs → x ≡ get_or xs p x → Some (f x) ≡ slice_get (map f xs) p
seen_at f [] p x lt is = absurd (omega (arith, lt))
seen_at f (y ∷ ys) zero x lt is = ap (λ z. Some (f z)) is
seen_at f (y ∷ ys) (suc p) x lt is = seen_at f ys p x (omega (arith, lt)) is

-- and so are their places
pub found-places : (m : MappingData) (q : Query) (ss : List Shown) (sources : List (List ℕ)) → sources ≡ map (λ (s : Shown). s.source) ss → places (λ t. means m t q) sources ≡ places (is_found m q) (map shown_view ss)
found-places m q ss sources is = sym (places-map (λ (b : Bool). b) (λ t. means m t q) sources) ∙ ap (places (λ (b : Bool). b)) (found-marks m q ss sources is) ∙ places-map (λ (b : Bool). b) (is_found m q) (map shown_view ss)
