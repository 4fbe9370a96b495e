-- Parts that pass a test, and those in which a document is live.
use Rattle.std.proofs.Common.{◌≡◌, ◌≤◌, ℕ, ◌+◌, suc, Bool, true, false, cond, List, [], ◌∷◌, ◌++◌, length, map, filter, take, get_or, ◌<◌, refl, sym, ap, subst, ◌∙◌, arith, if◌then◌else◌}
use Rattle.std.specs.Prelude.{fold}
use Rattle.std.specs.FinMap.Entries.{is_sorted}
use Rattle.std.proofs.lemmas.Bool.Decides.{nat_tests}
use Rattle.std.proofs.lemmas.List.{append-nil}
use Rattle.std.proofs.lemmas.List.Elements.{filter_more, filter_passes}
use Rattle.doc.specs.Id.{Id, id_cmp}
use Rattle.doc.specs.Mapping.{MappingData}
use Rattle.op.specs.Documents.{Documents}
use Rattle.engine.specs.Live.{is_live, living, AreLive}
use Rattle.engine.specs.Parts.{PartData, all_published, documents_of_parts, is_living, merged, published_of, woven, has_id, times, AllInOrder, AreParts}
use Rattle.engine.proofs.ApartLaws.{merged-none}
use Rattle.engine.proofs.PartLaws.{head_is, tail_is, T_true, true_T, in_order-merged}
use Rattle.engine.proofs.SwapLaws.{HaveMapping}

module _ (passes : PartData → Bool) where
  abbrev those : List PartData → List PartData
  those ps = filter passes ps

  order : (ps : List PartData) → AllInOrder (documents_of_parts ps) → AllInOrder (documents_of_parts (those ps))
  order [] all = tt
  order (p ∷ ps) all = elim (passes p) as (λ b. AllInOrder (documents_of_parts (cond b (p ∷ those ps) (those ps)))) [
    | true ↦ (all.0, order ps all.1)
    | false ↦ order ps all.1
  ]

  no_more_times : (q : Id) (ps : List PartData) → times q (documents_of_parts (those ps)) ≤ times q (documents_of_parts ps)
  no_more_times q [] = omega arith
  no_more_times q (p ∷ ps) =
      let rest = no_more_times q ps in
      elim (passes p) as (λ b. times q (documents_of_parts (cond b (p ∷ those ps) (those ps))) ≤ cond (has_id q p.documents) 1 0 + times q (documents_of_parts ps)) [
        | true ↦ omega (arith, rest)
        | false ↦ omega (arith, rest)
      ]

  mappings : (m : MappingData) (ps : List PartData) → HaveMapping m ps → HaveMapping m (those ps)
  mappings m [] same = refl
  mappings m (p ∷ ps) same =
      let rest = mappings m ps (tail_is _ _ _ _ same) in
      elim (passes p) as (λ b. HaveMapping m (cond b (p ∷ those ps) (those ps))) [
        | true ↦ ap (λ x. x ∷ map (λ (p : PartData). p.mapping) (those ps)) (head_is _ _ _ _ same) ∙ ap (λ xs. m ∷ xs) rest
        | false ↦ rest
      ]

  few : (ps : List PartData) → length (those ps) ≤ length ps
  few [] = omega arith
  few (p ∷ ps) =
      let rest = few ps in
      elim (passes p) as (λ b. length (cond b (p ∷ those ps) (those ps)) ≤ suc (length ps)) [
        | true ↦ omega (arith, rest)
        | false ↦ omega (arith, rest)
      ]

  -- they are parts of one snapshot still
  pub filter-parts : (m : MappingData) (ps : List PartData) → AreParts m ps → AreParts m (filter passes ps)
  filter-parts m ps are = record {
    mappings = mappings m ps are.mappings;
    apart = record {
      sorted = order ps are.apart.sorted;
      once = λ q. omega (arith, no_more_times q ps, are.apart.once q);
    };
    few = omega (arith, few ps, are.few);
  }

  -- one part more
  pub filter-more : (ps : List PartData) (i : ℕ) (x : PartData) (b : Bool) (so_far now : List PartData) → i < length ps → x ≡ get_or ps i x → b ≡ passes x
      → now ≡ (if b then so_far ++ x ∷ [] else so_far) → so_far ≡ filter passes (take i ps) → now ≡ filter passes (take (i + 1) ps)
  filter-more ps i x b so_far now lt is same new old =
      new ∙ pushed b so_far ∙ ap (λ (qs : List PartData). qs ++ cond b (x ∷ []) []) old ∙ ap (λ b. those (take i ps) ++ cond b (x ∷ []) []) same
      ∙ ap (λ (y : PartData). those (take i ps) ++ cond (passes y) (y ∷ []) []) is ∙ sym (filter_more passes ps i x lt)
    where
      pushed : (b : Bool) (qs : List PartData) → (if b then qs ++ x ∷ [] else qs) ≡ qs ++ cond b (x ∷ []) []
      pushed true qs = refl
      pushed false qs = sym (append-nil qs)

-- ---- those in which a document is live

pub living-published : (ps : List PartData) → all_published (filter is_living ps) ≡ living (all_published ps) (documents_of_parts ps)
living-published [] = refl
living-published (p ∷ ps) = elim (is_living p) as (λ b. all_published (cond b (p ∷ filter is_living ps) (filter is_living ps)) ≡ cond b (published_of p ∷ living (all_published ps) (documents_of_parts ps)) (living (all_published ps) (documents_of_parts ps))) [
  | true ↦ ap (λ ss. published_of p ∷ ss) (living-published ps)
  | false ↦ living-published ps
]

pub living-documents : (ps : List PartData) → documents_of_parts (filter is_living ps) ≡ filter is_live (documents_of_parts ps)
living-documents [] = refl
living-documents (p ∷ ps) = elim (is_living p) as (λ b. documents_of_parts (cond b (p ∷ filter is_living ps) (filter is_living ps)) ≡ cond b (p.documents ∷ filter is_live (documents_of_parts ps)) (filter is_live (documents_of_parts ps))) [
  | true ↦ ap (λ ds. p.documents ∷ ds) (living-documents ps)
  | false ↦ living-documents ps
]

none_live : (l : Documents) → is_live l ≡ false → l ≡ []
none_live [] is = refl
none_live (d ∷ ds) is = absurd (grind (arith, nat_tests, is))

woven_from-living : (ds : Documents) (ls : List Documents) → is_sorted id_cmp ds ≡ true → AllInOrder ls → fold merged ds (filter is_live ls) ≡ fold merged ds ls
woven_from-living ds [] sorted all = refl
woven_from-living ds (l ∷ ls) sorted all = by_test (is_live l) refl (λ es order. woven_from-living es ls order all.1)
  where
    by_test : (b : Bool) → is_live l ≡ b → ((es : Documents) → is_sorted id_cmp es ≡ true → fold merged es (filter is_live ls) ≡ fold merged es ls) → fold merged ds (cond b (l ∷ filter is_live ls) (filter is_live ls)) ≡ fold merged (merged ds l) ls
    by_test true is rest = rest (merged ds l) (T_true _ (in_order-merged ds l (true_T _ all.0)))
    by_test false is rest = rest ds sorted ∙ ap (λ es. fold merged es ls) (sym (ap (merged ds) (none_live l is) ∙ merged-none ds sorted))

-- they have all documents
pub living-woven : (ps : List PartData) → AllInOrder (documents_of_parts ps) → woven (documents_of_parts (filter is_living ps)) ≡ woven (documents_of_parts ps)
living-woven ps all = ap woven (living-documents ps) ∙ woven_from-living [] (documents_of_parts ps) refl all

-- no segment among them is dead
pub passing-live : (ls all : List Documents) → ls ≡ filter is_live all → AreLive ls
passing-live ls all is = subst AreLive (sym is) (λ many. filter_passes is_live all)
