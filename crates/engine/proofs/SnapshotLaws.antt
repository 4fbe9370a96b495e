-- The parts of a snapshot.
use Rattle.std.proofs.Common.{◌≡◌, ◌<◌, ◌≤◌, ℕ, ◌+◌, zero, suc, Bool, true, false, List, [], ◌∷◌, length, map, take, drop, get_or, refl, sym, ap, ◌∙◌, subst, arith, cond}
use Rattle.std.specs.Prelude.{replicate}
use Rattle.std.specs.FinMap.Entries.{is_sorted}
use Rattle.std.proofs.lemmas.List.{take-map, drop-map, length-map}
use Rattle.doc.specs.Id.{Id, id_cmp}
use Rattle.doc.specs.Mapping.{MappingData}
use Rattle.op.specs.Documents.{Documents}
use Rattle.engine.specs.Parts.{PartData, documents_of_parts, woven, merged, without, is_among, has_id, times, AreParts, AreApart}
use Rattle.engine.proofs.PartLaws.{head_is, tail_is}
use Rattle.engine.proofs.ApartLaws.{without-apart, none_left, woven-without, fronted-apart, fronted-woven}

-- each part has the mapping
pub mapping-at : (m : MappingData) (ps : List PartData) (i : ℕ) (p : PartData) → map (λ (p : PartData). p.mapping) ps ≡ replicate (length ps) m → i < length ps → p ≡ get_or ps i p → p.mapping ≡ m
mapping-at m [] i p same lt is = absurd (omega (arith, lt))
mapping-at m (x ∷ xs) zero p same lt is = ap (λ (s : PartData). s.mapping) is ∙ head_is _ _ _ _ same
mapping-at m (x ∷ xs) (suc i) p same lt is = mapping-at m xs i p (tail_is _ _ _ _ same) (omega (arith, lt)) is

pub documents-at : (ps : List PartData) (i : ℕ) (p : PartData) → i < length ps → p ≡ get_or ps i p → get_or (documents_of_parts ps) i p.documents ≡ p.documents
documents-at [] i p lt is = absurd (omega (arith, lt))
documents-at (x ∷ xs) zero p lt is = ap (λ (s : PartData). s.documents) (sym is)
documents-at (x ∷ xs) (suc i) p lt is = documents-at xs i p (omega (arith, lt)) is

-- one part alone
pub one-part : (m : MappingData) (p : PartData) → p.mapping ≡ m → is_sorted id_cmp p.documents ≡ true → AreParts m (p ∷ [])
one-part m p here sorted = record { mappings = ap (λ x. x ∷ []) here; apart = record { sorted = (sorted, tt); once = λ id. at_most_once (has_id id p.documents) }; few = omega arith }
  where
    at_most_once : (b : Bool) → cond b 1 0 + 0 ≤ 1
    at_most_once b = elim b as (λ b. cond b 1 0 + 0 ≤ 1) [ true ↦ omega arith | false ↦ omega arith ]

drop-replicate : (m : MappingData) (n k : ℕ) → drop n (replicate k m) ≡ replicate (length (drop n (replicate k m))) m
drop-replicate m zero k = ap (λ j. replicate j m) (long k)
  where
    long : (k : ℕ) → k ≡ length (replicate k m)
    long zero = refl
    long (suc k) = ap suc (long k)
drop-replicate m (suc n) zero = refl
drop-replicate m (suc n) (suc k) = drop-replicate m n k

module _ (m : MappingData) (ps qs : List PartData) (ids : List Id) (es : Documents) (n : ℕ) (are : AreParts m ps)
    (mappings : map (λ (p : PartData). p.mapping) qs ≡ map (λ (p : PartData). p.mapping) ps)
    (left : documents_of_parts qs ≡ map (without ids) (documents_of_parts ps))
    (only : (id : Id) → has_id id es ≡ true → is_among ids id ≡ true) where
  abbrev all : List Documents
  all = documents_of_parts qs

  apart : AreApart all
  apart = subst AreApart (sym left) (without-apart ids (documents_of_parts ps) are.apart)

  none : (id : Id) → is_among ids id ≡ true → times id all ≡ 0
  none id is = ap (times id) left ∙ none_left ids (documents_of_parts ps) id is

  mappings_left : map (λ (p : PartData). p.mapping) (drop n qs) ≡ replicate (length (drop n qs)) m
  mappings_left =
      let same = sym (drop-map (λ (p : PartData). p.mapping) n qs) ∙ ap (drop n) (mappings ∙ are.mappings) in
      same ∙ drop-replicate m n (length ps) ∙ ap (λ k. replicate k m) (sym (ap length same) ∙ length-map (drop n qs) (λ (p : PartData). p.mapping))

  fronted : (p : PartData) → p.documents ≡ merged es (woven (documents_of_parts (take n qs))) → merged es (woven (take n all)) ∷ drop n all ≡ documents_of_parts (p ∷ drop n qs)
  fronted p is =
      ap (λ ds. merged es (woven ds) ∷ drop n all) (take-map (λ (p : PartData). p.documents) n qs)
      ∙ ap (λ ds. ds ∷ drop n all) (sym is)
      ∙ ap (λ ds. p.documents ∷ ds) (drop-map (λ (p : PartData). p.documents) n qs)

  -- the new part stands in front of the others
  pub front-parts : (p : PartData) → p.mapping ≡ m → p.documents ≡ merged es (woven (documents_of_parts (take n qs))) → length (drop n qs) < 4294967295 → AreParts m (p ∷ drop n qs)
  front-parts p here is fits = record {
    mappings = ap (λ x. x ∷ map (λ (p : PartData). p.mapping) (drop n qs)) here ∙ ap (λ ms. m ∷ ms) mappings_left;
    apart = subst AreApart (fronted p is) (fronted-apart ids es n all apart none only);
    few = omega (arith, fits);
  }

  -- they show the new documents, and the others as they were
  pub front-woven : (p : PartData) → p.documents ≡ merged es (woven (documents_of_parts (take n qs))) → woven (documents_of_parts (p ∷ drop n qs)) ≡ merged es (without ids (woven (documents_of_parts ps)))
  front-woven p is =
      ap woven (sym (fronted p is)) ∙ fronted-woven ids es n all apart none only
      ∙ ap (merged es) (ap woven left ∙ woven-without ids (documents_of_parts ps) are.apart.sorted)

  long : length qs ≡ length ps
  long = sym (length-map qs (λ (p : PartData). p.mapping)) ∙ ap length mappings ∙ length-map ps (λ (p : PartData). p.mapping)
