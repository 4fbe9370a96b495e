-- The documents of the last operation on each id are those of all operations.
use denote.Ref.{Bor}
use lib.Dec.{T}
use Rattle.std.proofs.Common.{◌≡◌, ◌<◌, ◌+◌, ◌++◌, ◌||◌, ℕ, length, take, get_or, Bool, true, false, cond, List, [], ◌∷◌, append_assoc, append-nil, Option, Some, None, option_map, if◌then◌else◌, refl, sym, ap, ◌∙◌, subst, true≢false}
use Rattle.std.specs.List.{AllByRecursion, Contains}
use Rattle.std.specs.List.Sorted.{IsStrictlySortedBy}
use Rattle.std.specs.Option.{IfSome, option_or}
use Rattle.std.specs.Ordering.{is_eq, nat_cmp, eq_by_cmp}
use Rattle.std.specs.declared.cmp.Ordering.TheVariants.{Less}
use Rattle.std.specs.Cmp.{tied_itself}
use Rattle.std.specs.Cmp.Lexicographic.{slice_cmp, nat_list_cmp_total, on_texts}
use Rattle.std.specs.FinMap.Entries.{is_sorted, below_all, same_entries}
use Rattle.std.specs.Map.{keys_of, values_of, lookup, update, update_all}
use Rattle.std.proofs.lemmas.Cmp.{eq_by_cmp_equiv}
use Rattle.std.proofs.lemmas.Map.Keys.{sorted_head, sorted_tail, IsDistinct-from_sorted}
use Rattle.std.proofs.lemmas.Map.Lookups.{exact_bytes}
use Rattle.std.proofs.lemmas.List.Sums.{fold-append}
use Rattle.std.proofs.lemmas.List.Elements.{recursion_from_All, All-contains_itself, All-weaker}
use Rattle.std.proofs.lemmas.Map.Views.{lookup-from_Contains}
use Rattle.doc.specs.Id.{Id, id_cmp, is_id}
use Rattle.op.specs.declared.operation.Op.{Op}
use Rattle.op.specs.declared.operation.Body.{Body}
use Rattle.op.specs.declared.operation.Body.TheVariants.{Index, Delete, NoOp}
use Rattle.op.specs.Documents.{Documents, document_at, document_of, documents, left_by}
use Rattle.op.specs.Operations.{concerns, is_on, last_on}
use Rattle.op.proofs.DocumentLaws.{document_at-documents, is_sorted-documents}
use Rattle.op.proofs.OperationLaws.{last_on-push}
use Rattle.engine.specs.Latest.{Key, key_cmp, last_in, left_all, left_of, AreOn, AreLastBy, AreLatest}
use Rattle.engine.specs.LastOfEach.{IsLastOfEach}
use Rattle.engine.specs.Parts.{is_among}
use Rattle.engine.proofs.ChosenLaws.{among-more}
use Rattle.engine.proofs.LastOfEachLaws.{by_equal, reversed}
use Rattle.engine.proofs.PartLaws.{both, is_less, true_T, T_true, find_below}

-- with one operation more
pub left_all-push : (os : List (Bor Op)) (o : Bor Op) → left_all (os ++ o ∷ []) ≡ left_all os ++ left_of o.now o.now.body
left_all-push [] o = append-nil (left_of o.now o.now.body)
left_all-push (p ∷ os) o = ap (λ r. left_of p.now p.now.body ++ r) (left_all-push os o) ∙ sym (append_assoc (left_of p.now p.now.body) (left_all os) (left_of o.now o.now.body))

turned : (i j : Id) → is_eq (slice_cmp nat_cmp i j) ≡ is_id j i
turned i j = ap is_eq (nat_list_cmp_total.antisymm i j) ∙ reversed (id_cmp j i)

-- ids that are found equal are
same_id : (i j : Id) → is_id i j ≡ true → i ≡ j
same_id i j is = exact_bytes i j (by_equal _ is)

-- ---- the documents are in order of the ids

module _ (k : Id) where
  below_one : (o : Op) (b : Body) (i : Id) (ds : Documents) → concerns i b ≡ true → id_cmp k i ≡ Less → T (below_all id_cmp k ds) → T (below_all id_cmp k (left_of o b ++ ds))
  below_one o (Index id source) i ds on lt below = both _ _ (is_less _ (ap (id_cmp k) (sym (same_id i id on)) ∙ lt)) below
  below_one o (Delete id) i ds on lt below = below
  below_one o NoOp i ds on lt below = absurd (true≢false (sym on))

  below : (es : List (Key × Bor Op)) → AllByRecursion (λ (y : Key). slice_cmp nat_cmp k y.now ≡ Less) (keys_of es) → AreOn es → T (below_all id_cmp k (left_all (values_of es)))
  below [] lt on = tt
  below (e ∷ es) lt on = below_one e.1.now e.1.now.body e.0.now (left_all (values_of es)) on.0 lt.0 (below es lt.1 on.1)

sorted_one : (o : Op) (b : Body) (i : Id) (ds : Documents) → concerns i b ≡ true → T (below_all id_cmp i ds) → T (is_sorted id_cmp ds) → T (is_sorted id_cmp (left_of o b ++ ds))
sorted_one o (Index id source) i ds on below up = both _ _ (subst (λ j. T (below_all id_cmp j ds)) (same_id i id on) below) up
sorted_one o (Delete id) i ds on below up = up
sorted_one o NoOp i ds on below up = absurd (true≢false (sym on))

sorted-left : (es : List (Key × Bor Op)) → IsStrictlySortedBy key_cmp (keys_of es) → AreOn es → T (is_sorted id_cmp (left_all (values_of es)))
sorted-left [] up on = tt
sorted-left (e ∷ es) up on = sorted_one e.1.now e.1.now.body e.0.now (left_all (values_of es)) on.0 (below e.0.now es (sorted_head _ _ _ up) on.1) (sorted-left es (sorted_tail _ _ _ up) on.1)

-- ---- the document at an id is that of the operation there

module _ (q : Id) where
  found_one : (o : Op) (b : Body) (i : Id) (t : Bool) (ds : Documents) → concerns i b ≡ true → is_eq (id_cmp q i) ≡ t → (t ≡ true → document_at ds q ≡ None)
      → document_at (left_of o b ++ ds) q ≡ cond t (left_by o b) (document_at ds q)
  found_one o (Index id source) i t ds on is none =
      ap (λ r. cond r (Some (record { seq = o.seq; term = o.term; version = o.version; source = source })) (document_at ds q)) (ap (λ j. is_eq (id_cmp q j)) (sym (same_id i id on)) ∙ is)
  found_one o (Delete id) i true ds on is none = none refl
  found_one o (Delete id) i false ds on is none = refl
  found_one o NoOp i t ds on is none = absurd (true≢false (sym on))

  of_cond : (t : Bool) (o : Bor Op) (rest : Option (Bor Op)) → document_of (option_map (λ p. p.now) (cond t (Some o) rest)) ≡ cond t (left_by o.now o.now.body) (document_of (option_map (λ p. p.now) rest))
  of_cond true o rest = refl
  of_cond false o rest = refl

  -- where it stands first, none is behind it
  none_behind : (e : Key) (es : List (Key × Bor Op)) → AllByRecursion (λ (y : Key). slice_cmp nat_cmp e.now y.now ≡ Less) (keys_of es) → AreOn es → is_eq (id_cmp q e.now) ≡ true → document_at (left_all (values_of es)) q ≡ None
  none_behind e es lt on is = find_below q (left_all (values_of es)) (subst (λ j. T (below_all id_cmp j (left_all (values_of es)))) (sym (exact_bytes q e.now (by_equal _ is))) (below e.now es lt on))

  found-left : (es : List (Key × Bor Op)) → IsStrictlySortedBy key_cmp (keys_of es) → AreOn es
      → document_at (left_all (values_of es)) q ≡ document_of (option_map (λ o. o.now) (lookup (λ (k : Key). is_eq (slice_cmp nat_cmp q k.now)) es))
  found-left [] up on = refl
  found-left (e ∷ es) up on =
      found_one e.1.now e.1.now.body e.0.now (is_eq (id_cmp q e.0.now)) (left_all (values_of es)) on.0 refl (none_behind e.0 es (sorted_head _ _ _ up) on.1)
      ∙ ap (cond (is_eq (id_cmp q e.0.now)) (left_by e.1.now e.1.now.body)) (found-left es (sorted_tail _ _ _ up) on.1)
      ∙ sym (of_cond (is_eq (id_cmp q e.0.now)) e.1 (lookup (λ (k : Key). is_eq (slice_cmp nat_cmp q k.now)) es))

-- the operations that are told leave their documents, in order of the ids
pub sorted-by : (told : Id → Option Op) (ls : List (Bor Op)) → AreLastBy told ls → is_sorted id_cmp (left_all ls) ≡ true
sorted-by told ls are = ap (λ os. is_sorted id_cmp (left_all os)) are.are ∙ T_true _ (sorted-left are.entries are.ordered are.on)

pub found-by : (told : Id → Option Op) (ls : List (Bor Op)) → AreLastBy told ls → (id : Id) → document_at (left_all ls) id ≡ document_of (told id)
found-by told ls are id = ap (λ os. document_at (left_all os) id) are.are ∙ found-left id are.entries are.ordered are.on ∙ ap document_of (are.last id)

-- told are the last ones at some ids
pub found-among : (os : List Op) (id : Id) (b : Bool) → document_of (if b then last_on os id else None) ≡ (if b then document_at (documents os) id else None)
found-among os id true = sym (document_at-documents os id)
found-among os id false = refl

-- the documents that the last operations leave are those of all
pub documents-latest : (os : List Op) (ls : List (Bor Op)) → AreLatest os ls → left_all ls ≡ documents os
documents-latest os ls are =
    ap left_all are.are
    ∙ same_entries id_cmp nat_list_cmp_total exact_bytes _ _ (sorted-left are.entries are.ordered are.on) (true_T _ (is_sorted-documents os))
    (λ id. found-left id are.entries are.ordered are.on ∙ ap document_of (are.last id) ∙ sym (document_at-documents os id))

-- ---- of pairs the last operation on each id

abbrev equal : Key → Key → Bool
equal = eq_by_cmp key_cmp

abbrev key_of : Id → Key
key_of id = record { ref_ptr = (0, 0); now = id }

-- with one pair more
last_in-push : (ps : List (Key × Bor Op)) (p : Key × Bor Op) (q : Key) → last_in (ps ++ p ∷ []) q ≡ (if is_eq (slice_cmp nat_cmp p.0.now q.now) then Some p.1.now else last_in ps q)
last_in-push ps p q =
    ap (λ (f : Key → Option (Bor Op)). option_map (λ o. o.now) (f q)) (fold-append (λ g r. update equal g r.0 (Some r.1)) (λ _. None) ps (p ∷ []))
    ∙ by_test (is_eq (slice_cmp nat_cmp p.0.now q.now))
  where
    by_test : (t : Bool) → option_map (λ o. o.now) (cond t (Some p.1) (update_all equal (λ _. None) ps q)) ≡ (if t then Some p.1.now else last_in ps q)
    by_test true = refl
    by_test false = refl

-- an operation noted at its id is the last there
pub noted : (ps : List (Key × Bor Op)) (k : Key) (o : Bor Op) (i : Id) → k.now ≡ i → ((q : Id) → is_on q o.now ≡ is_id q i)
    → (q : Key) → last_in (ps ++ (k, o) ∷ []) q ≡ (if is_on q.now o.now then Some o.now else last_in ps q)
noted ps k o i at on q = last_in-push ps (k, o) q ∙ ap (λ t. if t then Some o.now else last_in ps q) (turned k.now q.now ∙ ap (is_id q.now) at ∙ sym (on q.now))

pub AreOn-push : (ps : List (Key × Bor Op)) (p : Key × Bor Op) → AreOn ps → is_on p.0.now p.1.now ≡ true → AreOn (ps ++ p ∷ [])
AreOn-push [] p on is = (is, tt)
AreOn-push (r ∷ ps) p on is = (on.0, AreOn-push ps p on.1 is)

-- an operation is on its own id
pub on_own : (k i : Id) (o : Op) → k ≡ i → ((q : Id) → is_on q o ≡ is_id q i) → is_on k o ≡ true
on_own k i o at on = on k ∙ ap (λ j. is_id j i) at ∙ ap is_eq (tied_itself nat_list_cmp_total i)

on_or : (id : Id) (l : Option Op) (o : Op) (b : Bool) → is_on id o ≡ b → IfSome l (λ p. is_on id p ≡ true) → IfSome (option_or l (if b then Some o else None)) (λ p. is_on id p ≡ true)
on_or id (Some p) o b is on = on
on_or id None o true is on = is
on_or id None o false is on = tt

-- the last operation on an id is on it
pub on_last : (os : List Op) (id : Id) → IfSome (last_on os id) (λ o. is_on id o ≡ true)
on_last [] id = tt
on_last (o ∷ os) id = on_or id (last_on os id) o (is_on id o) refl (on_last os id)

-- so the last of the pairs are the operations that are told
pub AreLastBy-made : (told : Id → Option Op) → ((id : Id) → IfSome (told id) (λ o. is_on id o ≡ true)) → (ps : List (Key × Bor Op)) (ls : List (Bor Op)) → IsLastOfEach key_cmp ps ls
    → ((q : Key) → last_in ps q ≡ told q.now) → AreLastBy told ls
AreLastBy-made told on ps ls made last =
    let at : (q : Key) → option_map (λ o. o.now) (lookup (λ k. is_eq (key_cmp q k)) made.entries) ≡ told q.now = λ q. ap (option_map (λ o. o.now)) (made.last q) ∙ last q in
    let found : (e : Key × Bor Op) → Contains made.entries e → lookup (equal e.0) made.entries ≡ Some e.1 =
    λ e is. lookup-from_Contains (eq_by_cmp_equiv (on_texts (λ (k : Key). k.now))) e.0 e.1 made.entries (IsDistinct-from_sorted key_cmp (keys_of made.entries) made.ordered) is in
    let is_at : (e : Key × Bor Op) → lookup (equal e.0) made.entries ≡ Some e.1 → is_on e.0.now e.1.now ≡ true =
    λ e is. subst (λ (l : Option Op). IfSome l (λ o. is_on e.0.now o ≡ true)) (sym (at e.0) ∙ ap (option_map (λ o. o.now)) is) (on e.0.now) in
    record {
      entries = made.entries;
      are = made.are;
      ordered = made.ordered;
      on = recursion_from_All (λ (e : Key × Bor Op). is_on e.0.now e.1.now ≡ true) made.entries
          (All-weaker (Contains made.entries) (λ (e : Key × Bor Op). is_on e.0.now e.1.now ≡ true) (λ e is. is_at e (found e is)) made.entries (All-contains_itself made.entries));
      last = λ id. at (key_of id);
    }

-- those that are told at some ids are on them
pub on_among : (os : List Op) (ids : List Id) (id : Id) → IfSome (if is_among ids id then last_on os id else None) (λ o. is_on id o ≡ true)
on_among os ids id = by_test (is_among ids id)
  where
    by_test : (b : Bool) → IfSome (if b then last_on os id else None) (λ o. is_on id o ≡ true)
    by_test true = on_last os id
    by_test false = tt

on_same : (b : Body) (i q : Id) → concerns i b ≡ true → concerns q b ≡ is_id q i
on_same (Index id source) i q on = ap (is_id q) (sym (same_id i id on))
on_same (Delete id) i q on = ap (is_id q) (sym (same_id i id on))
on_same NoOp i q on = absurd (true≢false (sym on))

one_told : (a s : Bool) (x l : Option Op) (o : Op) → (s ≡ true → x ≡ Some o) → l ≡ (if a then x else None) → (if s then Some o else l) ≡ (if a || s then x else None)
one_told true true x l o same is = sym (same refl)
one_told false true x l o same is = sym (same refl)
one_told true false x l o same is = is
one_told false false x l o same is = is

none_told : (a s : Bool) (x l : Option Op) → (s ≡ true → x ≡ None) → l ≡ (if a then x else None) → l ≡ (if a || s then x else None)
none_told true true x l same is = is
none_told true false x l same is = is
none_told false true x l same is = is ∙ sym (same refl)
none_told false false x l same is = is

among_next : (os : List Op) (ids : List Id) (k : ℕ) (i q : Id) → k < length ids → i ≡ get_or ids k i
    → (if is_among (take k ids) q || is_id q i then last_on os q else None) ≡ (if is_among (take (k + 1) ids) q then last_on os q else None)
among_next os ids k i q lt is = ap (λ b. if b then last_on os q else None) (ap (λ (x : Id). is_among (take k ids) q || is_id q x) is ∙ among-more ids k i q lt)

-- with one id more, on which an operation is
pub told-more : (os : List Op) (ids : List Id) (k : ℕ) (i : Id) (o : Op) → k < length ids → i ≡ get_or ids k i → last_on os i ≡ Some o
    → (q : Id) (l : Option Op) → l ≡ (if is_among (take k ids) q then last_on os q else None) → (if is_on q o then Some o else l) ≡ (if is_among (take (k + 1) ids) q then last_on os q else None)
told-more os ids k i o lt is last q l so =
    let on : is_on i o ≡ true = subst (λ (m : Option Op). IfSome m (λ p. is_on i p ≡ true)) last (on_last os i) in
    ap (λ b. if b then Some o else l) (on_same o.body i q on)
    ∙ one_told (is_among (take k ids) q) (is_id q i) (last_on os q) l o (λ b. ap (last_on os) (same_id q i b) ∙ last) so
    ∙ among_next os ids k i q lt is

-- and with one on which none is
pub told-none : (os : List Op) (ids : List Id) (k : ℕ) (i : Id) → k < length ids → i ≡ get_or ids k i → last_on os i ≡ None
    → (q : Id) (l : Option Op) → l ≡ (if is_among (take k ids) q then last_on os q else None) → l ≡ (if is_among (take (k + 1) ids) q then last_on os q else None)
told-none os ids k i lt is last q l so =
    none_told (is_among (take k ids) q) (is_id q i) (last_on os q) l (λ b. ap (last_on os) (same_id q i b) ∙ last) so
    ∙ among_next os ids k i q lt is

-- with one operation more
pub last-more : (os : List Op) (o : Op) (id : Id) (l : Option Op) → l ≡ last_on os id → (if is_on id o then Some o else l) ≡ last_on (os ++ o ∷ []) id
last-more os o id l same = ap (λ k. if is_on id o then Some o else k) same ∙ sym (last_on-push os o id)
