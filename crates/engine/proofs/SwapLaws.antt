-- One part in place of those that were taken.
use Rattle.std.proofs.Common.{◌≡◌, ◌<◌, ◌≤◌, ℕ, ◌+◌, zero, suc, Bool, true, false, cond, List, [], ◌∷◌, ◌++◌, length, map, refl, sym, ap, ◌∙◌, subst, arith, Option, Some, None, inl, inr, get_or, take, add-one}
use Rattle.std.specs.Prelude.{is_some, replicate, slice_index_or, ◌&&◌, All, Contains}
use Rattle.std.specs.List.{list_all}
use Rattle.std.proofs.lemmas.List.Elements.{All-contains, All-contains_itself, Contains-append_left, Contains-push, Contains-push_cases}
use Rattle.std.proofs.Math.Seq.{take-suc}
use Rattle.std.specs.Option.{option_or}
use Rattle.std.specs.Cmp.Lexicographic.{nat_list_cmp_total}
use Rattle.std.specs.FinMap.Entries.{is_sorted, same_entries}
use Rattle.std.proofs.lemmas.List.{map-append, length_push, length-map, get_or-map}
use Rattle.std.proofs.lemmas.List.Folds.{list_all-append}
use Rattle.std.proofs.lemmas.List.Sums.{fold-append}
use Rattle.std.proofs.lemmas.List.Elements.{All-push}
use Rattle.std.proofs.lemmas.Map.Lookups.{exact_bytes}
use Rattle.doc.specs.Id.{Id, id_cmp}
use Rattle.doc.specs.Mapping.{MappingData}
use Rattle.op.specs.Documents.{Documents, document_at}
use Rattle.engine.specs.Parts.{PartData, all_published, documents_of_parts, published_of, woven, merged, has_id, times, AreParts, AllInOrder, IsSplit, none, stays, goes}
use Rattle.engine.specs.Published.{Published, AreTold, IsLeft, IsReplaced, nothing, remains, was_taken}
use Rattle.engine.proofs.PartLaws.{T_true, find-merged, head_is, in_order-merged, or_none, or_or, tail_is}
use Rattle.engine.proofs.ApartLaws.{has-woven, in_order-woven, none_has}

-- ---- one part more behind others

pub woven-push : (ps : List Documents) (d : Documents) → woven (ps ++ d ∷ []) ≡ merged (woven ps) d
woven-push ps d = fold-append merged [] ps (d ∷ [])

pub documents-push : (ps : List PartData) (p : PartData) → documents_of_parts (ps ++ p ∷ []) ≡ documents_of_parts ps ++ p.documents ∷ []
documents-push ps p = map-append (λ (p : PartData). p.documents) ps (p ∷ [])

pub published-push : (ps : List PartData) (p : PartData) → all_published (ps ++ p ∷ []) ≡ all_published ps ++ published_of p ∷ []
published-push ps p = map-append published_of ps (p ∷ [])

order-push : (ps : List Documents) (d : Documents) → AllInOrder ps → is_sorted id_cmp d ≡ true → AllInOrder (ps ++ d ∷ [])
order-push [] d all sorted = (sorted, tt)
order-push (p ∷ ps) d all sorted = (all.0, order-push ps d all.1 sorted)

order-front : (ps : List Documents) (d : Documents) → AllInOrder (ps ++ d ∷ []) → AllInOrder ps × (is_sorted id_cmp d ≡ true)
order-front [] d all = (tt, all.0)
order-front (p ∷ ps) d all = let rest = order-front ps d all.1 in ((all.0, rest.0), rest.1)

pub times-push : (q : Id) (ps : List Documents) (d : Documents) → times q (ps ++ d ∷ []) ≡ times q ps + cond (has_id q d) 1 0
times-push q [] d = elim (has_id q d) as (λ b. cond b 1 0 + 0 ≡ 0 + cond b 1 0) [ true ↦ refl | false ↦ refl ]
times-push q (p ∷ ps) d =
    let rest = times-push q ps d in
    elim (has_id q p) as (λ b. cond b 1 0 + times q (ps ++ d ∷ []) ≡ (cond b 1 0 + times q ps) + cond (has_id q d) 1 0) [ true ↦ omega (arith, rest) | false ↦ omega (arith, rest) ]

abbrev pub HaveMapping : MappingData → List PartData → Type 0
HaveMapping m ps = map (λ (p : PartData). p.mapping) ps ≡ replicate (length ps) m

mappings-push : (m : MappingData) (qs : List PartData) (p : PartData) → HaveMapping m qs → p.mapping ≡ m → HaveMapping m (qs ++ p ∷ [])
mappings-push m [] p same is = ap (λ x. x ∷ []) is
mappings-push m (q ∷ qs) p same is =
    ap (λ x. x ∷ map (λ (p : PartData). p.mapping) (qs ++ p ∷ [])) (head_is _ _ _ _ same)
    ∙ ap (λ xs. m ∷ xs) (mappings-push m qs p (tail_is _ _ _ _ same) is)

mappings-front : (m : MappingData) (qs : List PartData) (p : PartData) → HaveMapping m (qs ++ p ∷ []) → HaveMapping m qs × (p.mapping ≡ m)
mappings-front m [] p same = (refl, head_is _ _ _ _ same)
mappings-front m (q ∷ qs) p same =
    let rest = mappings-front m qs p (tail_is _ _ _ _ same) in
    (ap (λ x. x ∷ map (λ (p : PartData). p.mapping) qs) (head_is _ _ _ _ same) ∙ ap (λ xs. m ∷ xs) rest.0, rest.1)

-- ---- two halves

swapped_or : {A : Type 0} (a b c : Option A) → (is_some b ≡ true → c ≡ None) → option_or (option_or a b) c ≡ option_or (option_or a c) b
swapped_or (Some x) b c apart = refl
swapped_or None None c apart = or_none c
swapped_or None (Some x) c apart = ap (λ o. option_or o (Some x)) (sym (apart refl))

counted : (b : Bool) (n : ℕ) → n + cond b 1 0 ≤ 1 → b ≡ true → n ≤ 0
counted true n few is = omega (arith, few)
counted false n few is = cc

less_one : (n k : ℕ) → n + k ≤ 1 → n ≤ 1
less_one n k few = omega (arith, few)

abbrev pub AreOnce : List PartData → Type 0
AreOnce ps = (q : Id) → times q (documents_of_parts ps) ≤ 1

times-pushed : (q : Id) (ps before : List PartData) (p : PartData) → ps ≡ before ++ p ∷ [] → times q (documents_of_parts ps) ≡ times q (documents_of_parts before) + cond (has_id q p.documents) 1 0
times-pushed q ps before p is = ap (λ (xs : List PartData). times q (documents_of_parts xs)) is ∙ ap (times q) (documents-push before p) ∙ times-push q (documents_of_parts before) p.documents

found-pushed : (q : Id) (ps before : List PartData) (p : PartData) → ps ≡ before ++ p ∷ []
    → document_at (woven (documents_of_parts ps)) q ≡ option_or (document_at (woven (documents_of_parts before)) q) (document_at p.documents q)
found-pushed q ps before p is =
    ap (λ (xs : List PartData). document_at (woven (documents_of_parts xs)) q) is
    ∙ ap (λ (ds : List Documents). document_at (woven ds) q) (documents-push before p)
    ∙ ap (λ ds. document_at ds q) (woven-push (documents_of_parts before) p.documents)
    ∙ find-merged (woven (documents_of_parts before)) p.documents q

module _ (taken : List Published) where
  pub split-times : (ps stay go : List PartData) → IsSplit taken ps stay go → (q : Id) → times q (documents_of_parts stay) + times q (documents_of_parts go) ≡ times q (documents_of_parts ps)
  split-times _ _ _ none q = refl
  split-times _ _ _ (stays before kept ps stay go p split not_there is stay_is) q =
      let rest = split-times before kept go split q in
      omega (arith, rest, times-pushed q ps before p is, times-pushed q stay kept p stay_is)
  split-times _ _ _ (goes before stay gone ps go p split there is go_is) q =
      let rest = split-times before stay gone split q in
      omega (arith, rest, times-pushed q ps before p is, times-pushed q go gone p go_is)

  once-before : (ps before : List PartData) (p : PartData) → ps ≡ before ++ p ∷ [] → AreOnce ps → AreOnce before
  once-before ps before p is once = λ q. less_one _ (cond (has_id q p.documents) 1 0) (subst (λ n. n ≤ 1) (times-pushed q ps before p is) (once q))

  pub split-found : (ps stay go : List PartData) → IsSplit taken ps stay go → AreOnce ps → (q : Id)
      → option_or (document_at (woven (documents_of_parts stay)) q) (document_at (woven (documents_of_parts go)) q) ≡ document_at (woven (documents_of_parts ps)) q
  split-found _ _ _ none once q = refl
  split-found _ _ _ (stays before kept ps stay go p split not_there is stay_is) once q =
      let rest = split-found before kept go split (once-before ps before p is once) q in
      let apart = λ (some : is_some (document_at p.documents q) ≡ true).
      none_has (documents_of_parts go) q (omega (arith, counted (has_id q p.documents) (times q (documents_of_parts before)) (subst (λ n. n ≤ 1) (times-pushed q ps before p is) (once q)) some, split-times before kept go split q)) in
      ap (λ o. option_or o (document_at (woven (documents_of_parts go)) q)) (found-pushed q stay kept p stay_is)
      ∙ swapped_or (document_at (woven (documents_of_parts kept)) q) (document_at p.documents q) (document_at (woven (documents_of_parts go)) q) apart
      ∙ ap (λ o. option_or o (document_at p.documents q)) rest
      ∙ sym (found-pushed q ps before p is)
  split-found _ _ _ (goes before stay gone ps go p split there is go_is) once q =
      let rest = split-found before stay gone split (once-before ps before p is once) q in
      ap (option_or (document_at (woven (documents_of_parts stay)) q)) (found-pushed q go gone p go_is)
      ∙ sym (or_or (document_at (woven (documents_of_parts stay)) q) (document_at (woven (documents_of_parts gone)) q) (document_at p.documents q))
      ∙ ap (λ o. option_or o (document_at p.documents q)) rest
      ∙ sym (found-pushed q ps before p is)

  front-of : (ps before : List PartData) (p : PartData) → ps ≡ before ++ p ∷ [] → AllInOrder (documents_of_parts ps) → AllInOrder (documents_of_parts before) × (is_sorted id_cmp p.documents ≡ true)
  front-of ps before p is all = order-front (documents_of_parts before) p.documents (subst AllInOrder (ap documents_of_parts is ∙ documents-push before p) all)

  pushed-order : (ps before : List PartData) (p : PartData) → ps ≡ before ++ p ∷ [] → AllInOrder (documents_of_parts before) → is_sorted id_cmp p.documents ≡ true → AllInOrder (documents_of_parts ps)
  pushed-order ps before p is all sorted = subst AllInOrder (sym (ap documents_of_parts is ∙ documents-push before p)) (order-push (documents_of_parts before) p.documents all sorted)

  pub split-order : (ps stay go : List PartData) → IsSplit taken ps stay go → AllInOrder (documents_of_parts ps) → AllInOrder (documents_of_parts stay) × AllInOrder (documents_of_parts go)
  split-order _ _ _ none all = (tt, tt)
  split-order _ _ _ (stays before kept ps stay go p split not_there is stay_is) all =
      let front = front-of ps before p is all in
      let rest = split-order before kept go split front.0 in
      (pushed-order stay kept p stay_is rest.0 front.1, rest.1)
  split-order _ _ _ (goes before stay gone ps go p split there is go_is) all =
      let front = front-of ps before p is all in
      let rest = split-order before stay gone split front.0 in
      (rest.0, pushed-order go gone p go_is rest.1 front.1)

  pub split-mappings : (m : MappingData) (ps stay go : List PartData) → IsSplit taken ps stay go → HaveMapping m ps → HaveMapping m stay
  split-mappings m _ _ _ none same = refl
  split-mappings m _ _ _ (stays before kept ps stay go p split not_there is stay_is) same =
      let front = mappings-front m before p (subst (HaveMapping m) is same) in
      subst (HaveMapping m) (sym stay_is) (mappings-push m kept p (split-mappings m before kept go split front.0) front.1)
  split-mappings m _ _ _ (goes before stay gone ps go p split there is go_is) same =
      split-mappings m before stay gone split (mappings-front m before p (subst (HaveMapping m) is same)).0

  -- one segment more that stays
  left-stays : (old left : List Published) (s : Published) → IsLeft taken old left → (Contains taken s → ⊥) → IsLeft taken (old ++ s ∷ []) (left ++ s ∷ [])
  left-stays _ _ s nothing not_there = remains s [] [] not_there nothing
  left-stays _ _ s (remains t old left absent rest) not_there = remains t (old ++ s ∷ []) (left ++ s ∷ []) absent (left-stays old left s rest not_there)
  left-stays _ _ s (was_taken t old left there rest) not_there = was_taken t (old ++ s ∷ []) (left ++ s ∷ []) there (left-stays old left s rest not_there)

  -- one more that goes
  left-goes : (old left : List Published) (s : Published) → IsLeft taken old left → Contains taken s → IsLeft taken (old ++ s ∷ []) left
  left-goes _ _ s nothing there = was_taken s [] [] there nothing
  left-goes _ _ s (remains t old left absent rest) there = remains t (old ++ s ∷ []) left absent (left-goes old left s rest there)
  left-goes _ _ s (was_taken t old left was rest) there = was_taken t (old ++ s ∷ []) left was (left-goes old left s rest there)

  pub split-left : (ps stay go : List PartData) → IsSplit taken ps stay go → IsLeft taken (all_published ps) (all_published stay)
  split-left _ _ _ none = nothing
  split-left _ _ _ (stays before kept ps stay go p split not_there is stay_is) =
      subst (λ (ss : List Published). IsLeft taken ss (all_published stay)) (sym (ap all_published is ∙ published-push before p))
      (subst (λ (ss : List Published). IsLeft taken (all_published before ++ published_of p ∷ []) ss) (sym (ap all_published stay_is ∙ published-push kept p))
      (left-stays (all_published before) (all_published kept) (published_of p) (split-left before kept go split) not_there))
  split-left _ _ _ (goes before stay gone ps go p split there is go_is) =
      subst (λ (ss : List Published). IsLeft taken ss (all_published stay)) (sym (ap all_published is ∙ published-push before p))
      (left-goes (all_published before) (all_published stay) (published_of p) (split-left before stay gone split) there)

-- where none goes, none of those that were taken is there
pub split-none : (taken : List Published) (ps stay go : List PartData) → IsSplit taken ps stay go → length go ≤ 0 → (s : Published) → Contains (all_published ps) s → Contains taken s → ⊥
split-none taken _ _ _ none few s here there = absurd (omega (arith, here.1))
split-none taken _ _ _ (stays before kept ps stay go p split not_there is stay_is) few s here there =
    elim (Contains-push_cases (all_published before) (published_of p) s (subst (λ ss. Contains ss s) (ap all_published is ∙ published-push before p) here)) [
      | inl old ↦ split-none taken before kept go split few s old there
      | inr same ↦ not_there (subst (Contains taken) (sym same) there)
    ]
split-none taken _ _ _ (goes before stay gone ps go p split there is go_is) few s here was = absurd (omega (arith, few, ap length go_is, length_push gone p))

-- where one goes, it was taken
pub split-some : (taken : List Published) (ps stay go : List PartData) → IsSplit taken ps stay go → 1 ≤ length go → All (λ s. Contains (all_published ps) s → ⊥) taken → ⊥
split-some taken _ _ _ none some gone = absurd (omega (arith, some))
split-some taken _ _ _ (stays before kept ps stay go p split not_there is stay_is) some gone =
    split-some taken before kept go split some
    (λ k d lt here. gone k d lt (subst (λ ss. Contains ss (slice_index_or taken k d)) (sym (ap all_published is ∙ published-push before p)) (Contains-append_left (all_published before) (published_of p ∷ []) (slice_index_or taken k d) here)))
split-some taken _ _ _ (goes before stay gone_before ps go p split there is go_is) some gone =
    All-contains (λ s. Contains (all_published ps) s → ⊥) taken (published_of p) gone there
    (subst (λ ss. Contains ss (published_of p)) (sym (ap all_published is ∙ published-push before p)) (Contains-push (all_published before) (published_of p)))

-- the parts that stay, and one part that shows what the others do
module _ (m : MappingData) (taken : List Published) (ps stay go : List PartData) (p : PartData) (split : IsSplit taken ps stay go) (are : AreParts m ps)
    (here : p.mapping ≡ m) (shows : p.documents ≡ woven (documents_of_parts go)) where
  orders : AllInOrder (documents_of_parts stay) × AllInOrder (documents_of_parts go)
  orders = split-order taken ps stay go split are.apart.sorted

  sorted : is_sorted id_cmp p.documents ≡ true
  sorted = subst (λ ds. is_sorted id_cmp ds ≡ true) (sym shows) (T_true _ (in_order-woven (documents_of_parts go) orders.1))

  once : (q : Id) (b : Bool) → has_id q (woven (documents_of_parts go)) ≡ b → times q (documents_of_parts stay) + cond b 1 0 ≤ 1
  once q true is = omega (arith, split-times taken ps stay go split q, are.apart.once q, has-woven (documents_of_parts go) q is)
  once q false is = omega (arith, split-times taken ps stay go split q, are.apart.once q)

  backed : documents_of_parts (stay ++ p ∷ []) ≡ documents_of_parts stay ++ woven (documents_of_parts go) ∷ []
  backed = documents-push stay p ∙ ap (λ ds. documents_of_parts stay ++ ds ∷ []) shows

  pub replaced-parts : length stay < 4294967295 → AreParts m (stay ++ p ∷ [])
  replaced-parts fits = record {
    mappings = mappings-push m stay p (split-mappings taken m ps stay go split are.mappings) here;
    apart = record {
      sorted = subst AllInOrder (sym (documents-push stay p)) (order-push (documents_of_parts stay) p.documents orders.0 sorted);
      once = λ q. subst (λ n. n ≤ 1) (sym (ap (times q) backed ∙ times-push q (documents_of_parts stay) (woven (documents_of_parts go)))) (once q (has_id q (woven (documents_of_parts go))) refl);
    };
    few = omega (arith, length_push stay p, fits);
  }

  -- they show the same
  pub replaced-woven : woven (documents_of_parts (stay ++ p ∷ [])) ≡ woven (documents_of_parts ps)
  replaced-woven =
      ap woven backed ∙ woven-push (documents_of_parts stay) (woven (documents_of_parts go))
      ∙ same_entries id_cmp nat_list_cmp_total exact_bytes _ _
      (in_order-merged (woven (documents_of_parts stay)) (woven (documents_of_parts go)) (in_order-woven (documents_of_parts go) orders.1))
      (in_order-woven (documents_of_parts ps) are.apart.sorted)
      (λ q. find-merged (woven (documents_of_parts stay)) (woven (documents_of_parts go)) q ∙ split-found taken ps stay go split are.apart.once q)

  pub replaced : (number : ℕ) → p.number ≡ number → IsReplaced taken number m (all_published ps) (all_published (stay ++ p ∷ []))
  replaced number is = record {
    left = all_published stay;
    merged = published_of p;
    others = split-left taken ps stay go split;
    is = published-push stay p;
    numbered = is;
    mapped = here;
  }

-- one that fails is enough
pub not-all : {A B : Type 0} (f : A → B) (p : B → Bool) (xs : List A) (i : ℕ) (x : A) → i < length xs → x ≡ get_or xs i x → p (f x) ≡ false → list_all p (map f xs) ≡ false
not-all f p [] i x lt is fails = absurd (omega (arith, lt))
not-all f p (a ∷ xs) zero x lt is fails = ap (λ b. b && list_all p (map f xs)) (ap (λ y. p (f y)) (sym is) ∙ fails)
not-all f p (a ∷ xs) (suc i) x lt is fails = ap (λ b. p (f a) && b) (not-all f p xs i x (omega (arith, lt)) is fails) ∙ both_false (p (f a))
  where
    both_false : (b : Bool) → (b && false) ≡ false
    both_false true = refl
    both_false false = refl

-- ---- one part more

pub taken-push : (ps : List PartData) (i : ℕ) (x : PartData) → i < length ps → x ≡ get_or ps i x → take (i + 1) ps ≡ take i ps ++ x ∷ []
taken-push ps i x lt is = ap (λ n. take n ps) (add-one i) ∙ take-suc ps i x lt ∙ ap (λ (y : PartData). take i ps ++ y ∷ []) (sym is)

pub published-more : (ps : List PartData) (i : ℕ) (x : PartData) → i < length ps → x ≡ get_or ps i x → all_published (take (i + 1) ps) ≡ all_published (take i ps) ++ published_of x ∷ []
published-more ps i x lt is = ap all_published (taken-push ps i x lt is) ∙ published-push (take i ps) x

-- one part more that isn't it
pub none-more : (ps : List PartData) (i : ℕ) (x : PartData) (s : Published) → i < length ps → x ≡ get_or ps i x → (Contains (all_published (take i ps)) s → ⊥) → (published_of x ≡ s → ⊥) → Contains (all_published (take (i + 1) ps)) s → ⊥
none-more ps i x s lt is before here there =
    elim (Contains-push_cases (all_published (take i ps)) (published_of x) s (subst (λ ss. Contains ss s) (published-more ps i x lt is) there)) [ inl old ↦ before old | inr same ↦ here same ]

-- one part more that passes
pub all-more : (P : Published → Type 0) (ps : List PartData) (i : ℕ) (x : PartData) → i < length ps → x ≡ get_or ps i x → All P (all_published (take i ps)) → P (published_of x) → All P (all_published (take (i + 1) ps))
all-more P ps i x lt is all one = subst (All P) (sym (published-more ps i x lt is)) (All-push P (all_published (take i ps)) (published_of x) all one)

pub tested-more : (p : Published → Bool) (ps : List PartData) (i : ℕ) (x : PartData) → i < length ps → x ≡ get_or ps i x → list_all p (all_published (take i ps)) ≡ true → p (published_of x) ≡ true → list_all p (all_published (take (i + 1) ps)) ≡ true
tested-more p ps i x lt is all one =
    ap (list_all p) (published-more ps i x lt is) ∙ list_all-append p (all_published (take i ps)) (published_of x ∷ []) ∙ ap (λ b. b && (p (published_of x) && true)) all ∙ ap (λ b. b && true) one

-- what all have one has
pub all-at : (P : Published → Type 0) (ps : List PartData) (i : ℕ) (x : PartData) → i < length ps → x ≡ get_or ps i x → All P (all_published ps) → P (published_of x)
all-at P ps i x lt is all = subst P (get_or-map published_of ps i x (published_of x) lt ∙ ap published_of (sym is)) (all i (published_of x) (omega (arith, lt, length-map ps published_of)))

-- it is told by its number among those that were taken
pub told-at : (taken : List Published) (ps : List PartData) (i : ℕ) (x : PartData) → i < length ps → x ≡ get_or ps i x → AreTold taken (all_published ps) → All (λ (t : Published). t.number ≡ x.number → t ≡ published_of x) taken
told-at taken ps i x lt is told = all-at (λ (s : Published). All (λ (t : Published). t.number ≡ s.number → t ≡ s) taken) ps i x lt is told

-- each is among all
pub there-at : (ps : List PartData) (i : ℕ) (x : PartData) → i < length ps → x ≡ get_or ps i x → Contains (all_published ps) (published_of x)
there-at ps i x lt is = all-at (Contains (all_published ps)) ps i x lt is (All-contains_itself (all_published ps))

pub splits-none : (taken : List Published) (ps stay go : List PartData) → stay ≡ [] → go ≡ [] → IsSplit taken (take 0 ps) stay go
splits-none taken ps stay go s g = subst (λ (xs : List PartData). IsSplit taken [] xs go) (sym s) (subst (λ (xs : List PartData). IsSplit taken [] [] xs) (sym g) none)

module _ (taken : List Published) (ps : List PartData) (i : ℕ) (x copy : PartData) (stay go stay' go' : List PartData) (lt : i < length ps) (is : x ≡ get_or ps i x) (same : copy ≡ x) (split : IsSplit taken (take i ps) stay go) where
  pub one-goes : Contains taken (published_of x) → stay' ≡ stay → go' ≡ go ++ copy ∷ [] → IsSplit taken (take (i + 1) ps) stay' go'
  one-goes there s g = goes (take i ps) stay' go (take (i + 1) ps) go' x (subst (λ (xs : List PartData). IsSplit taken (take i ps) xs go) (sym s) split) there (taken-push ps i x lt is) (g ∙ ap (λ (y : PartData). go ++ y ∷ []) same)

  pub one-stays : (Contains taken (published_of x) → ⊥) → stay' ≡ stay ++ copy ∷ [] → go' ≡ go → IsSplit taken (take (i + 1) ps) stay' go'
  one-stays absent s g = stays (take i ps) stay (take (i + 1) ps) stay' go' x (subst (λ (xs : List PartData). IsSplit taken (take i ps) stay xs) (sym g) split) absent (taken-push ps i x lt is) (s ∙ ap (λ (y : PartData). stay ++ y ∷ []) same)
