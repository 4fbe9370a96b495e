-- Parts in which no id stands twice.
use lib.Dec.{T}
use Rattle.std.proofs.Common.{◌≡◌, ◌≤◌, ◌<◌, ℕ, ◌+◌, zero, suc, Bool, true, false, cond, List, [], ◌∷◌, length, take, drop, map, filter, get_or, Option, Some, None, refl, sym, ap, ◌∙◌, subst, arith}
use Rattle.std.specs.Prelude.{not, is_some}
use Rattle.std.specs.Option.{option_or}
use Rattle.std.specs.Cmp.Lexicographic.{nat_list_cmp_total}
use Rattle.std.specs.FinMap.Entries.{is_sorted, find-where_key, is_sorted-where_key, same_entries}
use Rattle.std.proofs.lemmas.List.Sums.{fold_more}
use Rattle.std.proofs.lemmas.Map.Lookups.{exact_bytes}
use Rattle.doc.specs.Id.{Id, id_cmp}
use Rattle.op.specs.Documents.{Document, Documents, document_at}
use Rattle.engine.specs.Parts.{merged, woven, has_id, times, AreApart, AllInOrder, is_among, without}
use Rattle.engine.proofs.PartLaws.{Apart, Item, true_T, T_true, find-merged, find-woven_from, in_order-merged, in_order-woven_from, filter-merged, length-merged, take-merged, in_order-filter, find-filter, in_order-take, or_none, or_or}

-- ---- how many have an id

counted : (b : Bool) (n : ℕ) → b ≡ true → 1 ≤ cond b 1 0 + n
counted true n is = omega arith
counted false n is = cc

either_some : {A : Type 0} (a b : Option A) → is_some (option_or a b) ≡ true → is_some a ≡ false → is_some b ≡ true
either_some None b is none = is
either_some (Some x) b is none = cc

-- what the parts have stands in one
pub has-woven : (ps : List Documents) (q : Id) → is_some (document_at (woven ps) q) ≡ true → 1 ≤ times q ps
has-woven [] q is = cc
has-woven (p ∷ ps) q is =
    let split : is_some (option_or (document_at p q) (document_at (woven ps) q)) ≡ true = subst (λ o. is_some o ≡ true) (find-woven_from p ps q) is in
    elim (has_id q p) as (λ b. has_id q p ≡ b → 1 ≤ cond b 1 0 + times q ps) [
      | true ↦ λ b. omega arith
      | false ↦ λ b. let rest = has-woven ps q (either_some (document_at p q) (document_at (woven ps) q) split b) in omega (arith, rest)
    ] refl

-- where none has it, it is in none
pub none_has : (ps : List Documents) (q : Id) → times q ps ≤ 0 → document_at (woven ps) q ≡ None
none_has ps q none = elim (document_at (woven ps) q) as (λ o. document_at (woven ps) q ≡ o → o ≡ None) [
  | None ↦ λ e. refl
  | Some x ↦ λ e. let has = has-woven ps q (ap is_some e) in absurd (omega (arith, has, none))
] refl

pub count-split : (n : ℕ) (ps : List Documents) (q : Id) → times q (take n ps) + times q (drop n ps) ≡ times q ps
count-split zero ps q = omega arith
count-split (suc n) [] q = refl
count-split (suc n) (p ∷ ps) q = let rest = count-split n ps q in elim (has_id q p) as (λ b. (cond b 1 0 + times q (take n ps)) + times q (drop n ps) ≡ cond b 1 0 + times q ps) [ true ↦ omega (arith, rest) | false ↦ omega (arith, rest) ]

count-at : (i : ℕ) (ps : List Documents) (d : Documents) (q : Id) → i < length ps → has_id q (get_or ps i d) ≡ true → 1 ≤ times q (drop i ps)
count-at i [] d q lt has = absurd (omega (arith, lt))
count-at zero (p ∷ ps) d q lt has = counted (has_id q p) (times q ps) has
count-at (suc i) (p ∷ ps) d q lt has = count-at i ps d q (omega (arith, lt)) has

no_some : {A : Type 0} (o : Option A) → (is_some o ≡ true → ⊥) → o ≡ None
no_some None h = refl
no_some (Some x) h = absurd (h refl)

-- the parts before one have none of its ids
pub apart-at : (ps : List Documents) (i : ℕ) (d : Documents) → AreApart ps → i < length ps → Apart (woven (take i ps)) (get_or ps i d)
apart-at ps i d apart lt = λ q has. no_some (document_at (get_or ps i d) q) (λ there.
    let before = has-woven (take i ps) q has in
    let after = count-at i ps d q lt there in
    omega (arith, before, after, count-split i ps q, apart.once q))

pub all_take : (n : ℕ) (ps : List Documents) → AllInOrder ps → AllInOrder (take n ps)
all_take zero ps all = tt
all_take (suc n) [] all = tt
all_take (suc n) (p ∷ ps) all = (all.0, all_take n ps all.1)

pub all_drop : (n : ℕ) (ps : List Documents) → AllInOrder ps → AllInOrder (drop n ps)
all_drop zero ps all = all
all_drop (suc n) [] all = tt
all_drop (suc n) (p ∷ ps) all = all_drop n ps all.1

pub all_at : (ps : List Documents) (i : ℕ) (d : Documents) → AllInOrder ps → i < length ps → T (is_sorted id_cmp (get_or ps i d))
all_at [] i d all lt = absurd (omega (arith, lt))
all_at (p ∷ ps) zero d all lt = true_T _ all.0
all_at (p ∷ ps) (suc i) d all lt = all_at ps i d all.1 (omega (arith, lt))

pub in_order-woven : (ps : List Documents) → AllInOrder ps → T (is_sorted id_cmp (woven ps))
in_order-woven ps all = in_order-woven_from [] ps tt all

-- ---- a search, part by part

pub filtered_some : (g : Item → Bool) (q : Id) (es : Documents) → is_some (document_at (filter g es) q) ≡ true → is_some (document_at es q) ≡ true
filtered_some g q es is = elim (document_at es q) as (λ o. document_at es q ≡ o → is_some o ≡ true) [
  | None ↦ λ e. sym (ap is_some (find-filter g q es e)) ∙ is
  | Some x ↦ λ e. refl
] refl

filtered_apart : (g : Item → Bool) (ds es : Documents) → Apart ds es → Apart (filter g ds) (filter g es)
filtered_apart g ds es apart = λ q is. find-filter g q es (apart q (filtered_some g q ds is))

module _ (g : Item → Bool) (ps : List Documents) (i : ℕ) (d : Documents) (apart : AreApart ps) (lt : i < length ps) where
  before : T (is_sorted id_cmp (woven (take i ps)))
  before = in_order-woven (take i ps) (all_take i ps apart.sorted)

  found-more : filter g (woven (take (i + 1) ps)) ≡ merged (filter g (woven (take i ps))) (filter g (get_or ps i d))
  found-more = ap (filter g) (fold_more merged [] ps i d lt)
      ∙ filter-merged g (woven (take i ps)) (get_or ps i d) before (all_at ps i d apart.sorted lt) (apart-at ps i d apart lt)

  -- what was found so far is in order, and what the part has
  pub found-in_order : (n : ℕ) → is_sorted id_cmp (take n (filter g (woven (take i ps)))) ≡ true
  found-in_order n = T_true _ (in_order-take n (filter g (woven (take i ps))) (in_order-filter g _ before))

  pub share-in_order : (n : ℕ) → is_sorted id_cmp (take n (filter g (get_or ps i d))) ≡ true
  share-in_order n = T_true _ (in_order-take n (filter g (get_or ps i d)) (in_order-filter g _ (all_at ps i d apart.sorted lt)))

  -- those found in one part more, as many as are wanted
  pub limited-more : (n : ℕ) → take n (merged (take n (filter g (woven (take i ps)))) (take n (filter g (get_or ps i d)))) ≡ take n (filter g (woven (take (i + 1) ps)))
  limited-more n = take-merged n n n (filter g (woven (take i ps))) (filter g (get_or ps i d)) (in_order-filter g _ before) (in_order-filter g _ (all_at ps i d apart.sorted lt)) (omega arith) (omega arith)
      ∙ ap (take n) (sym found-more)

  -- and how many they are
  pub counted-more : length (filter g (woven (take (i + 1) ps))) ≡ length (filter g (woven (take i ps))) + length (filter g (get_or ps i d))
  counted-more = ap length found-more ∙ length-merged (filter g (woven (take i ps))) (filter g (get_or ps i d)) (in_order-filter g _ before) (in_order-filter g _ (all_at ps i d apart.sorted lt)) filtered
    where
      filtered : Apart (filter g (woven (take i ps))) (filter g (get_or ps i d))
      filtered = filtered_apart g (woven (take i ps)) (get_or ps i d) (apart-at ps i d apart lt)

-- ---- some ids taken away

either_same : {A : Type 0} (b : Bool) (x : A) → x ≡ cond b x x
either_same true x = refl
either_same false x = refl

module _ (ids : List Id) where
  pub find-without : (ds : Documents) (q : Id) → document_at (without ids ds) q ≡ cond (not (is_among ids q)) (document_at ds q) None
  find-without ds q = find-where_key id_cmp (λ i. not (is_among ids i)) q (λ x tied. ap (λ i. not (is_among ids i)) (sym (exact_bytes q x tied))) ds

  fewer : (b : Bool) (o : Option Document) (m n : ℕ) → m ≤ n → cond (is_some (cond b o None)) 1 0 + m ≤ cond (is_some o) 1 0 + n
  fewer true o m n le = elim (is_some o) as (λ b. cond b 1 0 + m ≤ cond b 1 0 + n) [ true ↦ omega (arith, le) | false ↦ omega (arith, le) ]
  fewer false o m n le = elim (is_some o) as (λ b. 0 + m ≤ cond b 1 0 + n) [ true ↦ omega (arith, le) | false ↦ omega (arith, le) ]

  fewer_have : (ps : List Documents) (q : Id) → times q (map (without ids) ps) ≤ times q ps
  fewer_have [] q = omega arith
  fewer_have (p ∷ ps) q =
      subst (λ o. cond (is_some o) 1 0 + times q (map (without ids) ps) ≤ cond (has_id q p) 1 0 + times q ps) (sym (find-without p q))
      (fewer (not (is_among ids q)) (document_at p q) _ _ (fewer_have ps q))

  pub none_left : (ps : List Documents) (q : Id) → is_among ids q ≡ true → times q (map (without ids) ps) ≡ 0
  none_left [] q is = refl
  none_left (p ∷ ps) q is = ap (λ o. cond (is_some o) 1 0 + times q (map (without ids) ps)) (find-without p q ∙ ap (λ b. cond (not b) (document_at p q) None) is) ∙ omega (arith, none_left ps q is)

  pub all_without : (ps : List Documents) → AllInOrder ps → AllInOrder (map (without ids) ps)
  all_without [] all = tt
  all_without (p ∷ ps) all = (T_true _ (is_sorted-where_key id_cmp (λ i. not (is_among ids i)) p (true_T _ all.0)), all_without ps all.1)

  -- what is left stays apart
  pub without-apart : (ps : List Documents) → AreApart ps → AreApart (map (without ids) ps)
  without-apart ps apart = record { sorted = all_without ps apart.sorted; once = λ q. omega (arith, fewer_have ps q, apart.once q) }

  find-woven-without : (ps : List Documents) (q : Id) → document_at (woven (map (without ids) ps)) q ≡ cond (not (is_among ids q)) (document_at (woven ps) q) None
  find-woven-without [] q = either_same (not (is_among ids q)) None
  find-woven-without (p ∷ ps) q =
      find-woven_from (without ids p) (map (without ids) ps) q
      ∙ ap (λ o. option_or o (document_at (woven (map (without ids) ps)) q)) (find-without p q)
      ∙ ap (option_or (cond (not (is_among ids q)) (document_at p q) None)) (find-woven-without ps q)
      ∙ elim (not (is_among ids q)) as (λ b. option_or (cond b (document_at p q) None) (cond b (document_at (woven ps) q) None) ≡ cond b (option_or (document_at p q) (document_at (woven ps) q)) None) [ true ↦ refl | false ↦ refl ]
      ∙ ap (λ o. cond (not (is_among ids q)) o None) (sym (find-woven_from p ps q))

pub append-woven : (n : ℕ) (ps : List Documents) (q : Id) → option_or (document_at (woven (take n ps)) q) (document_at (woven (drop n ps)) q) ≡ document_at (woven ps) q
append-woven zero ps q = refl
append-woven (suc n) [] q = refl
append-woven (suc n) (p ∷ ps) q =
    ap (λ o. option_or o (document_at (woven (drop n ps)) q)) (find-woven_from p (take n ps) q)
    ∙ or_or (document_at p q) (document_at (woven (take n ps)) q) (document_at (woven (drop n ps)) q)
    ∙ ap (option_or (document_at p q)) (append-woven n ps q) ∙ sym (find-woven_from p ps q)

-- the new documents of some ids, in front of parts that have none of these ids: the first of the parts go into the new one
module _ (ids : List Id) (news : Documents) (n : ℕ) (ps : List Documents) (apart : AreApart ps) (none : (q : Id) → is_among ids q ≡ true → times q ps ≡ 0) (only : (q : Id) → is_some (document_at news q) ≡ true → is_among ids q ≡ true) where
  front_once : (q : Id) (b : Bool) → has_id q (merged news (woven (take n ps))) ≡ b → cond b 1 0 + times q (drop n ps) ≤ 1
  front_once q false is = omega (arith, count-split n ps q, apart.once q)
  front_once q true is =
      let split : is_some (option_or (document_at news q) (document_at (woven (take n ps)) q)) ≡ true = subst (λ o. is_some o ≡ true) (find-merged news (woven (take n ps)) q) is in
      elim (is_some (document_at news q)) as (λ b. is_some (document_at news q) ≡ b → 1 + times q (drop n ps) ≤ 1) [
        | true ↦ λ e. omega (arith, count-split n ps q, none q (only q e))
        | false ↦ λ e. omega (arith, count-split n ps q, apart.once q, has-woven (take n ps) q (either_some (document_at news q) (document_at (woven (take n ps)) q) split e))
      ] refl

  pub fronted-apart : AreApart (merged news (woven (take n ps)) ∷ drop n ps)
  fronted-apart = record {
    sorted = (T_true _ (in_order-merged news _ (in_order-woven (take n ps) (all_take n ps apart.sorted))), all_drop n ps apart.sorted);
    once = λ q. front_once q (has_id q (merged news (woven (take n ps)))) refl;
  }

  -- they show the new documents, and the others as they were
  pub fronted-woven : woven (merged news (woven (take n ps)) ∷ drop n ps) ≡ merged news (woven ps)
  fronted-woven =
      same_entries id_cmp nat_list_cmp_total exact_bytes _ _
      (in_order-woven (merged news (woven (take n ps)) ∷ drop n ps) fronted-apart.sorted)
      (in_order-merged news (woven ps) (in_order-woven ps apart.sorted))
      (λ q. find-woven_from (merged news (woven (take n ps))) (drop n ps) q
      ∙ ap (λ o. option_or o (document_at (woven (drop n ps)) q)) (find-merged news (woven (take n ps)) q)
      ∙ or_or (document_at news q) (document_at (woven (take n ps)) q) (document_at (woven (drop n ps)) q)
      ∙ ap (option_or (document_at news q)) (append-woven n ps q)
      ∙ sym (find-merged news (woven ps) q))

-- beside no others, documents in order are what they are
pub merged-none : (es : Documents) → is_sorted id_cmp es ≡ true → merged es [] ≡ es
merged-none es sorted =
    same_entries id_cmp nat_list_cmp_total exact_bytes _ _
    (in_order-merged es [] tt)
    (true_T _ sorted)
    (λ q. find-merged es [] q ∙ sym (or_none (document_at es q)))

-- what is left of all is what is left of each
pub woven-without : (ids : List Id) (ps : List Documents) → AllInOrder ps → woven (map (without ids) ps) ≡ without ids (woven ps)
woven-without ids ps all =
    same_entries id_cmp nat_list_cmp_total exact_bytes _ _
    (in_order-woven (map (without ids) ps) (all_without ids ps all))
    (is_sorted-where_key id_cmp (λ i. not (is_among ids i)) (woven ps) (in_order-woven ps all))
    (λ q. find-woven-without ids ps q ∙ sym (find-without ids (woven ps) q))
