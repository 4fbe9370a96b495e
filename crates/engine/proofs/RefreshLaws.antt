-- What changes where only some ids have new operations.
use Rattle.std.proofs.Common.{◌≡◌, ◌≤◌, ◌<◌, ◌+◌, ◌-◌, ◌++◌, ℕ, zero, suc, ℤ, length, map, take, drop, get_or, length-drop, arith, Bool, true, false, cond, List, [], ◌∷◌, Option, Some, None, if◌then◌else◌, refl, sym, ap, ◌∙◌}
use Rattle.std.specs.Prelude.{is_some, not, nat_lt, ◌||◌, fold}
use Rattle.std.proofs.lemmas.List.{take_all, take-append-drop}
use Rattle.std.proofs.lemmas.List.Sums.{fold_more, fold-append}
use Rattle.op.specs.declared.record.Record.{Record}
use Rattle.op.specs.declared.record.Record.TheVariants.{Op as Kept}
use Rattle.op.specs.Records.{after_record, operations, shown}
use Rattle.std.specs.List.{AllPass}
use Rattle.std.specs.Option.{option_or}
use Rattle.std.specs.Cmp.Lexicographic.{nat_list_cmp_total}
use Rattle.std.specs.FinMap.Entries.{is_sorted, same_entries, is_sorted-where_key, find-where_key, where_key}
use Rattle.std.proofs.lemmas.Map.Lookups.{exact_bytes}
use Rattle.doc.specs.Id.{Id, id_cmp}
use Rattle.op.specs.declared.operation.Op.{Op}
use Rattle.op.specs.Documents.{Documents, document_at, documents, document_of}
use Rattle.op.specs.Operations.{placed, add, op_at, is_on, last_on}
use Rattle.op.proofs.DocumentLaws.{document_at-documents, is_sorted-documents}
use Rattle.engine.specs.Live.{changed_live, unchanged}
use Rattle.engine.specs.Parts.{merged, without, is_among, has_id}
use Rattle.engine.specs.Published.{Published}
use Rattle.engine.specs.SnapshotChange.{is_op}
use Rattle.engine.proofs.PartLaws.{true_T, find-merged, in_order-merged, or_none}
use Rattle.engine.proofs.ApartLaws.{find-without}

none_of : (b : Bool) (l : Option Op) (o : Op) → b ≡ false → option_or l (if b then Some o else None) ≡ l
none_of true l o is = cc
none_of false None o is = refl
none_of false (Some p) o is = refl

-- an operation on another id leaves the last one
pub last_on-placed_other : (os : List Op) (o : Op) (id : Id) → is_on id o ≡ false → last_on (placed os o) id ≡ last_on os id
last_on-placed_other [] o id is = none_of (is_on id o) None o is
last_on-placed_other (p ∷ ps) o id is = elim (nat_lt o.seq p.seq) as (λ b. last_on (if b then o ∷ p ∷ ps else p ∷ placed ps o) id ≡ last_on (p ∷ ps) id) [
  | true ↦ none_of (is_on id o) (last_on (p ∷ ps) id) o is
  | false ↦ ap (λ l. option_or l (if is_on id p then Some p else None)) (last_on-placed_other ps o id is)
]

pub last_on-add_other : (os : List Op) (o : Op) (id : Id) → is_on id o ≡ false → last_on (add os o) id ≡ last_on os id
last_on-add_other os o id is = elim (is_some (op_at os o.seq)) as (λ b. last_on (if b then os else placed os o) id ≡ last_on os id) [
  | true ↦ refl
  | false ↦ last_on-placed_other os o id is
]

module _ (new : List Op) (ids : List Id) (es : Documents) (at : (id : Id) → document_at es id ≡ (if is_among ids id then document_at (documents new) id else None)) where
  found_among : (id : Id) (b : Bool) → is_among ids id ≡ b → is_some (document_at es id) ≡ true → b ≡ true
  found_among id true is has = refl
  found_among id false is has = absurd (no (ap is_some (at id ∙ ap (λ b. if b then document_at (documents new) id else None) is)) has)
    where
      no : {b : Bool} → b ≡ false → b ≡ true → ⊥
      no f t = cc

  -- they are documents of these ids alone
  pub only_among : (id : Id) → has_id id es ≡ true → is_among ids id ≡ true
  only_among id has = found_among id (is_among ids id) refl has

module _ (new old : List Op) (ids : List Id) (es : Documents) (sorted : is_sorted id_cmp es ≡ true)
    (at : (id : Id) → document_at es id ≡ (if is_among ids id then document_at (documents new) id else None)) where
  joined_at : (id : Id) (b : Bool) → (b ≡ false → last_on new id ≡ last_on old id)
      → option_or (if b then document_at (documents new) id else None) (cond (not b) (document_at (documents old) id) None) ≡ document_at (documents new) id
  joined_at id true same = sym (or_none (document_at (documents new) id))
  joined_at id false same = document_at-documents old id ∙ ap document_of (sym (same refl)) ∙ sym (document_at-documents new id)

  -- with the others as they were they are the documents of all
  pub refreshed : ((id : Id) → is_among ids id ≡ false → last_on new id ≡ last_on old id) → merged es (without ids (documents old)) ≡ documents new
  refreshed same =
      let left = is_sorted-where_key id_cmp (λ i. not (is_among ids i)) (documents old) (true_T _ (is_sorted-documents old)) in
      same_entries id_cmp nat_list_cmp_total exact_bytes _ _ (in_order-merged es (without ids (documents old)) left) (true_T _ (is_sorted-documents new))
      (λ id. find-merged es (without ids (documents old)) id
      ∙ ap (λ o. option_or o (document_at (without ids (documents old)) id)) (at id)
      ∙ ap (option_or (if is_among ids id then document_at (documents new) id else None)) (find-without ids (documents old) id)
      ∙ joined_at id (is_among ids id) (same id))

-- documents of some ids are those at the ids that pass a test, where the same ids pass
pub are-where : (new : List Op) (ids : List Id) (es : Documents) → is_sorted id_cmp es ≡ true → ((id : Id) → document_at es id ≡ (if is_among ids id then document_at (documents new) id else None))
    → (p : Id → Bool) → ((id : Id) → is_among ids id ≡ p id) → es ≡ where_key id_cmp p (documents new)
are-where new ids es sorted at p same =
    same_entries id_cmp nat_list_cmp_total exact_bytes _ _ (true_T _ sorted)
    (is_sorted-where_key id_cmp p (documents new) (true_T _ (is_sorted-documents new)))
    (λ id. at id
    ∙ ap (λ b. if b then document_at (documents new) id else None) (same id)
    ∙ sym (find-where_key id_cmp p id (λ x tied. ap p (sym (exact_bytes id x tied))) (documents new)))

-- ---- a test of ids that answers as another

module _ (p q : Id → Bool) (same : (id : Id) → p id ≡ q id) where
  unchanged-same : (ds : Documents) → unchanged p ds ≡ unchanged q ds
  unchanged-same [] = refl
  unchanged-same (d ∷ ds) =
      ap (λ b. cond (not b) (d ∷ unchanged p ds) (unchanged p ds)) (same d.0)
      ∙ ap (λ es. cond (not (q d.0)) (d ∷ es) es) (unchanged-same ds)

  still-same : (ls : List Documents) → map (unchanged p) ls ≡ map (unchanged q) ls
  still-same [] = refl
  still-same (l ∷ ls) = ap (λ es. es ∷ map (unchanged p) ls) (unchanged-same l) ∙ ap (λ es. unchanged q l ∷ es) (still-same ls)

  pub changed_live-same : (new : Published) (ls : List Documents) → changed_live p new ls ≡ changed_live q new ls
  changed_live-same new ls = ap (λ es. new.documents ∷ es) (still-same ls)

-- ---- the ids of the records behind a point

pub both_false : (a b : Bool) → (a || b) ≡ false → (a ≡ false) × (b ≡ false)
both_false true b is = cc
both_false false b is = (refl, is)

pub ids-more : (rs : List Record) (point i : ℕ) (r : Record) (g : ℤ) (o : Op) (after before : List Id) → i < length (drop point rs) → r ≡ get_or (drop point rs) i r → r ≡ Kept g o
    → ((id : Id) → is_among after id ≡ (is_among before id || is_on id o))
    → ((id : Id) → is_among before id ≡ false → last_on (fold after_record (shown rs point) (take i (drop point rs))) id ≡ last_on (shown rs point) id)
    → (id : Id) → is_among after id ≡ false → last_on (fold after_record (shown rs point) (take (i + 1) (drop point rs))) id ≡ last_on (shown rs point) id
ids-more rs point i r g o after before lt is kept more so_far id none =
    let none_here = both_false (is_among before id) (is_on id o) (sym (more id) ∙ none) in
    ap (λ os. last_on os id) (fold_more after_record (shown rs point) (drop point rs) i r lt ∙ ap (after_record (fold after_record (shown rs point) (take i (drop point rs)))) (sym is ∙ kept))
    ∙ last_on-add_other (fold after_record (shown rs point) (take i (drop point rs))) o id none_here.1
    ∙ so_far id none_here.0

pub ids-end : (rs : List Record) (point i : ℕ) → length (drop point rs) ≤ i → fold after_record (shown rs point) (take i (drop point rs)) ≡ operations rs
ids-end rs point i le =
    ap (fold after_record (shown rs point)) (take_all i (drop point rs) le)
    ∙ sym (fold-append after_record [] (take point rs) (drop point rs))
    ∙ ap (fold after_record []) (take-append-drop point rs)

pub rest-whole : {A : Type 0} (n : ℕ) (xs : List A) → take (length xs - n) (drop n xs) ≡ drop n xs
rest-whole n xs = take_all (length xs - n) (drop n xs) (omega (arith, length-drop n xs))

-- what stands behind a place of two lists, of which the first ends before it
pub drop-behind : {A : Type 0} (xs ys : List A) (n b : ℕ) → length xs ≡ b → b ≤ n → drop n (xs ++ ys) ≡ drop (n - b) ys
drop-behind [] ys n b is le = ap (λ m. drop m ys) (omega (arith, is))
drop-behind (x ∷ xs) ys zero b is le = absurd (omega (arith, is, le))
drop-behind (x ∷ xs) ys (suc n) b is le = drop-behind xs ys n (b - 1) (omega (arith, is)) (omega (arith, le)) ∙ ap (λ m. drop m ys) (omega (arith, is, le))

-- not all are operations where one is none
pub not-all : (rs : List Record) (i : ℕ) (r : Record) → i < length rs → r ≡ get_or rs i r → is_op r ≡ false → AllPass is_op rs → ⊥
not-all rs i r within at other all = absurd (let wrong : true ≡ false = sym (all i r within) ∙ (ap is_op (sym at) ∙ other) in cc)

-- what stands behind a place of two lists, whichever of them it is in
pub drop-both : {A : Type 0} (n : ℕ) (xs ys : List A) → drop n xs ++ drop (n - length xs) ys ≡ drop n (xs ++ ys)
drop-both zero [] ys = refl
drop-both (suc n) [] ys = let all : suc n - 0 ≡ suc n = omega arith in ap (λ k. drop k ys) all
drop-both zero (x ∷ xs) ys = let none : zero - length (x ∷ xs) ≡ zero = omega arith in ap (λ k. (x ∷ xs) ++ drop k ys) none
drop-both (suc n) (x ∷ xs) ys = let one_less : suc n - length (x ∷ xs) ≡ n - length xs = omega arith in ap (λ k. drop n xs ++ drop k ys) one_less ∙ drop-both n xs ys
