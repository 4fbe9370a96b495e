-- What a part has of its documents.
use Rattle.std.proofs.Common.{◌≡◌, ◌<◌, ◌≤◌, ℕ, ◌+◌, drop, get_or, Bool, true, false, List, [], ◌∷◌, length, map, filter, take, Some, refl, sym, ap, ◌∙◌, subst, arith, slice_get, if◌then◌else◌, All, cond}
use Rattle.std.specs.Prelude.{not, nat_eq, ◌&&◌, ◌||◌, replicate}
use Rattle.std.proofs.lemmas.Bool.Decides.{nat_tests}
use Rattle.std.proofs.lemmas.List.{take-map, drop-map, length-map}
use Rattle.marks.specs.Lists.{zip_with, places, places_from}
use Rattle.segment.proofs.Ahead.{places-map}
use Rattle.segment.proofs.Joins.{length-zip}
use Rattle.segment.proofs.Steps.{places-below}
use Rattle.doc.specs.Id.{Id}
use Rattle.segment.specs.Merged.{chosen}
use Rattle.query.specs.Query.{match_all}
use Rattle.doc.specs.Mapping.{MappingData}
use Rattle.engine.specs.Answer.{is_found}
use Rattle.engine.specs.Parts.{PartData, documents_of_parts, is_among, without, woven}
use Rattle.engine.proofs.PartLaws.{Item, drop-take}
use Rattle.engine.proofs.ChosenLaws.{chosen-places, chosen-counted, chosen-filter, copied}
use Rattle.engine.proofs.FoundLaws.{each-some}

pub length-chosen : {A : Type 0} (xs : List A) (bs : List Bool) → length (chosen xs bs) ≤ length xs
length-chosen [] bs = omega arith
length-chosen (x ∷ xs) [] = omega arith
length-chosen (x ∷ xs) (true ∷ bs) = omega (arith, length-chosen xs bs)
length-chosen (x ∷ xs) (false ∷ bs) = omega (arith, length-chosen xs bs)

module _ (g : Item → Bool) where
  one_share : (t l : Bool) (x : Item) (ys zs : List Item) → ys ≡ filter g zs → g x ≡ t → (if t && l then x ∷ ys else ys) ≡ filter g (if l then x ∷ zs else zs)
  one_share true true x ys zs is test = ap (λ ws. x ∷ ws) is ∙ ap (λ b. cond b (x ∷ filter g zs) (filter g zs)) (sym test)
  one_share true false x ys zs is test = is
  one_share false true x ys zs is test = is ∙ ap (λ b. cond b (x ∷ filter g zs) (filter g zs)) (sym test)
  one_share false false x ys zs is test = is

  share-chosen : (docs : List Item) (live : List Bool) → length live ≡ length docs → chosen docs (zip_with (λ (m l : Bool). m && l) (map g docs) live) ≡ filter g (chosen docs live)
  share-chosen [] live whole = refl
  share-chosen (x ∷ xs) [] whole = absurd (omega (arith, whole))
  share-chosen (x ∷ xs) (b ∷ bs) whole = one_share (g x) b x (chosen xs (zip_with (λ (m l : Bool). m && l) (map g xs) bs)) (chosen xs bs) (share-chosen xs bs (omega (arith, whole))) refl

  module _ (docs : List Item) (live : List Bool) (whole : length live ≡ length docs) where
    -- the marks of those found
    abbrev pub marks : List Bool
    marks = zip_with (λ (m l : Bool). m && l) (map g docs) live

    long : length marks ≡ length docs
    long = length-zip (λ (m l : Bool). m && l) (map g docs) live (length-map docs g ∙ sym whole) ∙ whole

    pub share-total : length (places (λ (b : Bool). b) marks) ≡ length (filter g (chosen docs live))
    share-total = chosen-counted docs marks long ∙ ap length (share-chosen docs live whole)

    pub share-few : length (places (λ (b : Bool). b) marks) ≤ length docs
    share-few = subst (λ n. n ≤ length docs) (sym (chosen-counted docs marks long)) (length-chosen docs marks)

    pub share-within : All (λ p. p < length docs) (places (λ (b : Bool). b) marks)
    share-within = subst (λ n. All (λ p. p < n) (places (λ (b : Bool). b) marks)) long (places-below (λ (b : Bool). b) marks)

    pub share-places : map (λ p. slice_get docs p) (places (λ (b : Bool). b) marks) ≡ map (λ y. Some y) (filter g (chosen docs live))
    share-places = chosen-places docs marks long ∙ ap (map (λ y. Some y)) (share-chosen docs live whole)

    pub share-first : {A : Type 0} (view : A → Item) (n : ℕ) (hs : List A) → map (λ h. Some (view h)) hs ≡ map (λ p. slice_get docs p) (take n (places (λ (b : Bool). b) marks)) → map view hs ≡ take n (filter g (chosen docs live))
    share-first view n hs is = each-some view hs (take n (filter g (chosen docs live)))
        (is ∙ sym (take-map (λ p. slice_get docs p) n (places (λ (b : Bool). b) marks)) ∙ ap (take n) share-places ∙ take-map (λ y. Some y) n (filter g (chosen docs live)))

-- a query for all documents means each
pub all-meant : (m : MappingData) (docs : List Item) → filter (is_found m match_all) docs ≡ docs
all-meant m [] = refl
all-meant m (d ∷ ds) = ap (λ es. d ∷ es) (all-meant m ds)

-- all that are live
pub live-within : (docs : List Item) (live : List Bool) → length live ≡ length docs → All (λ p. p < length docs) (places (λ (b : Bool). b) live)
live-within docs live whole = subst (λ n. All (λ p. p < n) (places (λ (b : Bool). b) live)) whole (places-below (λ (b : Bool). b) live)

pub live-all : {A : Type 0} (view : A → Item) (docs : List Item) (live : List Bool) → length live ≡ length docs → (hs : List A) → map (λ h. Some (view h)) hs ≡ map (λ p. slice_get docs p) (places (λ (b : Bool). b) live) → map view hs ≡ chosen docs live
live-all view docs live whole hs is = each-some view hs (chosen docs live) (is ∙ chosen-places docs live whole)

-- ---- documents taken away

pub none-among : (n : ℕ) (docs : List Item) → n ≡ length docs → replicate n false ≡ map (λ (d : Item). is_among [] d.0) docs
none-among n docs is = ap (λ m. replicate m false) is ∙ each docs
  where
    each : (docs : List Item) → replicate (length docs) false ≡ map (λ (d : Item). is_among [] d.0) docs
    each [] = refl
    each (d ∷ ds) = ap (λ bs. false ∷ bs) (each ds)

module _ (ids : List Id) (docs : List Item) (live : List Bool) (whole : length live ≡ length docs) (n : ℕ) (is : n ≡ length docs) where
  -- the marks of what is left
  abbrev pub left : List Bool
  left = zip_with (λ (a b : Bool). a && not b) (zip_with (λ (a b : Bool). a || b) (replicate n false) live) (map (λ (d : Item). is_among ids d.0) docs)

  same : left ≡ zip_with (λ (a b : Bool). a && not b) live (map (λ (d : Item). is_among ids d.0) docs)
  same = ap (λ (bs : List Bool). zip_with (λ (a b : Bool). a && not b) bs (map (λ (d : Item). is_among ids d.0) docs)) (ap (λ m. zip_with (λ (a b : Bool). a || b) (replicate m false) live) (is ∙ sym whole) ∙ copied live)

  pub left-long : length left ≡ length docs
  left-long = ap length same ∙ length-zip (λ (a b : Bool). a && not b) live (map (λ (d : Item). is_among ids d.0) docs) (whole ∙ sym (length-map docs (λ (d : Item). is_among ids d.0))) ∙ length-map docs (λ (d : Item). is_among ids d.0)

  pub left-chosen : chosen docs left ≡ without ids (chosen docs live)
  left-chosen = ap (chosen docs) same ∙ chosen-filter (λ (d : Item). is_among ids d.0) not docs live whole

  pub united-long : length (zip_with (λ (a b : Bool). a || b) (replicate n false) live) ≡ length docs
  united-long = ap length (ap (λ m. zip_with (λ (a b : Bool). a || b) (replicate m false) live) (is ∙ sym whole) ∙ copied live) ∙ whole

-- without no ids nothing is taken away
without-none : (ds : List Item) → without [] ds ≡ ds
without-none [] = refl
without-none (d ∷ ds) = ap (λ es. d ∷ es) (without-none ds)

-- nor without ids that no document has
pub none-left_out : (ids : List Id) (docs : List Item) (live : List Bool) → length live ≡ length docs → map (λ (d : Item). is_among ids d.0) docs ≡ map (λ (d : Item). is_among [] d.0) docs → without ids (chosen docs live) ≡ chosen docs live
none-left_out ids docs live whole none =
    sym (chosen-filter (λ (d : Item). is_among ids d.0) not docs live whole)
    ∙ ap (λ (bs : List Bool). chosen docs (zip_with (λ (a b : Bool). a && not b) live bs)) none
    ∙ chosen-filter (λ (d : Item). is_among [] d.0) not docs live whole
    ∙ without-none (chosen docs live)

-- ---- all live

both-true : (g : Item → Bool) (docs : List Item) → zip_with (λ (m l : Bool). m && l) (map g docs) (replicate (length docs) true) ≡ map g docs
both-true g [] = refl
both-true g (d ∷ ds) = ap (λ b. b ∷ zip_with (λ (m l : Bool). m && l) (map g ds) (replicate (length ds) true)) (and_true (g d)) ∙ ap (λ bs. g d ∷ bs) (both-true g ds)
  where
    and_true : (b : Bool) → (b && true) ≡ b
    and_true true = refl
    and_true false = refl

-- where all are live, the places of a test are those of the live documents that pass
pub full-places : (g : Item → Bool) (docs : List Item) (live : List Bool) → live ≡ replicate (length docs) true → places g docs ≡ places (λ (b : Bool). b) (zip_with (λ (m l : Bool). m && l) (map g docs) live)
full-places g docs live full = sym (ap (λ bs. places (λ (b : Bool). b) (zip_with (λ (m l : Bool). m && l) (map g docs) bs)) full ∙ ap (places (λ (b : Bool). b)) (both-true g docs) ∙ places-map (λ (b : Bool). b) g docs)

length-places_from : (n : ℕ) (bs : List Bool) → length (places_from (λ (b : Bool). b) n bs) ≤ length bs
length-places_from n [] = omega arith
length-places_from n (true ∷ bs) = omega (arith, length-places_from (n + 1) bs)
length-places_from n (false ∷ bs) = omega (arith, length-places_from (n + 1) bs)

full_from : (n : ℕ) (bs : List Bool) → length (places_from (λ (b : Bool). b) n bs) ≡ length bs → bs ≡ replicate (length bs) true
full_from n [] is = refl
full_from n (true ∷ bs) is = ap (λ cs. true ∷ cs) (full_from (n + 1) bs (omega (arith, is)))
full_from n (false ∷ bs) is = absurd (omega (arith, is, length-places_from (n + 1) bs))

-- as many marks as documents are all of them
pub counted-full : (live : List Bool) (n count len : ℕ) → length live ≡ n → count ≡ length (places (λ (b : Bool). b) live) → len ≡ n → nat_eq count len ≡ true → live ≡ replicate n true
counted-full live n count len whole counted same is =
    let all : count ≡ len = grind (arith, nat_tests) in
    full_from 0 live (omega (arith, whole, counted, all, same)) ∙ ap (λ k. replicate k true) whole

-- the documents of a page
pub share-page : (g : Item → Bool) (docs : List Item) (live : List Bool) → length live ≡ length docs → {A : Type 0} (view : A → Item) (from size : ℕ) (hs : List A)
    → map (λ h. Some (view h)) hs ≡ map (λ p. slice_get docs p) (drop from (take (from + size) (places (λ (b : Bool). b) (zip_with (λ (m l : Bool). m && l) (map g docs) live)))) → map view hs ≡ take size (drop from (filter g (chosen docs live)))
share-page g docs live whole view from size hs is =
    let ps = places (λ (b : Bool). b) (zip_with (λ (m l : Bool). m && l) (map g docs) live) in
    let found = filter g (chosen docs live) in
    let all : map (λ p. slice_get docs p) ps ≡ map (λ y. Some y) found = share-places g docs live whole in
    each-some view hs (take size (drop from found))
    (is ∙ sym (drop-map (λ p. slice_get docs p) from (take (from + size) ps)) ∙ ap (drop from) (sym (take-map (λ p. slice_get docs p) (from + size) ps))
    ∙ ap (λ os. drop from (take (from + size) os)) all
    ∙ ap (drop from) (take-map (λ y. Some y) (from + size) found) ∙ drop-map (λ y. Some y) from (take (from + size) found)
    ∙ ap (map (λ y. Some y)) (drop-take from size found))

-- one part alone
pub one-woven : (ps : List PartData) (p : PartData) → length ps ≡ 1 → p ≡ get_or ps 0 p → p.documents ≡ woven (documents_of_parts ps)
one-woven [] p one is = absurd (omega (arith, one))
one-woven (x ∷ []) p one is = ap (λ (s : PartData). s.documents) is
one-woven (x ∷ y ∷ ys) p one is = absurd (omega (arith, one))
