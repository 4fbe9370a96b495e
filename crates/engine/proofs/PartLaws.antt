-- Documents in several parts: what is found, in which order, and how many.
use lib.Dec.{T}
use Rattle.std.proofs.Common.{◌≡◌, ◌≤◌, ℕ, ◌+◌, zero, suc, Bool, true, false, cond, List, [], ◌∷◌, ◌++◌, append_assoc, length, take, drop, get_or, ◌<◌, map, filter, Option, Some, None, refl, sym, ap, ◌∙◌, subst, arith}
use Rattle.std.specs.Prelude.{fold, ◌&&◌, ◌==◌, is_some}
use Rattle.std.specs.Option.{option_or}
use Rattle.std.specs.List.{AllByRecursion, count_by}
use Rattle.std.specs.declared.cmp.Ordering.{Ordering}
use Rattle.std.specs.declared.cmp.Ordering.TheVariants.{Less, Equal, Greater}
use Rattle.std.specs.Ordering.{is_lt, is_eq, nat_cmp, ordering_reverse}
use Rattle.std.specs.Cmp.Lexicographic.{nat_list_cmp_total}
use Rattle.std.specs.FinMap.Entries.{put, find, is_sorted, below_all, by_order, find-put, is_sorted-put, length-put}
use Rattle.std.proofs.lemmas.Map.Lookups.{exact_bytes}
use Rattle.std.proofs.lemmas.List.{take-take, map-append}
use Rattle.std.proofs.lemmas.Bool.Decides.{nat_tests}
use Rattle.doc.specs.Id.{Id, id_cmp, is_id}
use Rattle.op.specs.Documents.{Document, Documents, document_at}
use Rattle.engine.specs.Parts.{merged, woven, IsNext}

abbrev pub Item : Type 0
Item = Id × Document

pub both : (a b : Bool) → T a → T b → T (a && b)
both true b p q = q
both false b p q = p

pub first : (a b : Bool) → T (a && b) → T a
first true b p = tt
first false b p = p

pub second : (a b : Bool) → T (a && b) → T b
second true b p = p
second false b p = absurd p

pub less : (o : Ordering) → T (is_lt o) → o ≡ Less
less Less p = refl
less Equal p = absurd p
less Greater p = absurd p

pub is_less : (o : Ordering) → o ≡ Less → T (is_lt o)
is_less o is = subst (λ r. T (is_lt r)) (sym is) tt

pub true_T : (b : Bool) → b ≡ true → T b
true_T b is = subst T (sym is) tt

pub T_true : (b : Bool) → T b → b ≡ true
T_true true h = refl
T_true false h = absurd h

pub turned : (i j : Id) → T (is_lt (id_cmp i j)) → id_cmp j i ≡ Greater
turned i j lt = nat_list_cmp_total.antisymm j i ∙ ap ordering_reverse (less _ lt)

pub head_is : {A : Type 0} (x y : A) (xs ys : List A) → x ∷ xs ≡ y ∷ ys → x ≡ y
head_is x y xs ys is = cc

pub tail_is : {A : Type 0} (x y : A) (xs ys : List A) → x ∷ xs ≡ y ∷ ys → xs ≡ ys
tail_is x y xs ys is = cc

-- ---- order

below_step : (x y : Id) (es : Documents) → id_cmp x y ≡ Less → T (below_all id_cmp y es) → T (below_all id_cmp x es)
below_step x y [] p h = tt
below_step x y (e ∷ es) p h = both _ _ (is_less _ (nat_list_cmp_total.trans x y e.0 p (less _ (first _ _ h)))) (below_step x y es p (second _ _ h))

below_put : (x k : Id) (v : Document) (es : Documents) → T (is_lt (id_cmp x k)) → T (below_all id_cmp x es) → T (below_all id_cmp x (put id_cmp k v es))
below_put x k v [] p h = both _ _ p tt
below_put x k v (e ∷ es) p h =
    elim (id_cmp k e.0) as (λ o. T (below_all id_cmp x (by_order o ((k, v) ∷ e ∷ es) ((e.0, v) ∷ es) (e ∷ put id_cmp k v es)))) [
      | Less ↦ both _ _ p h
      | Equal ↦ h
      | Greater ↦ both _ _ (first _ _ h) (below_put x k v es p (second _ _ h))
    ]

below_merged : (x : Id) (ds es : Documents) → T (below_all id_cmp x ds) → T (below_all id_cmp x es) → T (below_all id_cmp x (merged ds es))
below_merged x [] es g h = h
below_merged x (d ∷ ds) es g h = below_put x d.0 d.1 (merged ds es) (first _ _ g) (below_merged x ds es (second _ _ g) h)

pub in_order-merged : (ds es : Documents) → T (is_sorted id_cmp es) → T (is_sorted id_cmp (merged ds es))
in_order-merged [] es h = h
in_order-merged (d ∷ ds) es h = is_sorted-put id_cmp nat_list_cmp_total d.0 d.1 (merged ds es) (in_order-merged ds es h)

below_filter : (g : Item → Bool) (x : Id) (es : Documents) → T (below_all id_cmp x es) → T (below_all id_cmp x (filter g es))
below_filter g x [] h = tt
below_filter g x (e ∷ es) h =
    let rest = below_filter g x es (second _ _ h) in
    elim (g e) as (λ b. T (below_all id_cmp x (cond b (e ∷ filter g es) (filter g es)))) [ true ↦ both _ _ (first _ _ h) rest | false ↦ rest ]

pub in_order-filter : (g : Item → Bool) (es : Documents) → T (is_sorted id_cmp es) → T (is_sorted id_cmp (filter g es))
in_order-filter g [] h = tt
in_order-filter g (e ∷ es) h =
    let rest = in_order-filter g es (second _ _ h) in
    elim (g e) as (λ b. T (is_sorted id_cmp (cond b (e ∷ filter g es) (filter g es)))) [ true ↦ both _ _ (below_filter g e.0 es (first _ _ h)) rest | false ↦ rest ]

pub find_below : (q : Id) (es : Documents) → T (below_all id_cmp q es) → document_at es q ≡ None
find_below q [] h = refl
find_below q (e ∷ es) h = ap (λ r. cond (is_eq r) (Some e.1) (find id_cmp q es)) (less _ (first _ _ h)) ∙ find_below q es (second _ _ h)

-- ---- what is found

pub find-merged : (ds es : Documents) (q : Id) → document_at (merged ds es) q ≡ option_or (document_at ds q) (document_at es q)
find-merged [] es q = refl
find-merged (d ∷ ds) es q =
    find-put id_cmp nat_list_cmp_total q d.0 d.1 (merged ds es)
    ∙ elim (is_id q d.0) as (λ b. cond b (Some d.1) (document_at (merged ds es) q) ≡ option_or (cond b (Some d.1) (document_at ds q)) (document_at es q)) [ true ↦ refl | false ↦ find-merged ds es q ]

pub or_none : {A : Type 0} (o : Option A) → o ≡ option_or o None
or_none None = refl
or_none (Some x) = refl

pub or_or : {A : Type 0} (a b c : Option A) → option_or (option_or a b) c ≡ option_or a (option_or b c)
or_or None b c = refl
or_or (Some x) b c = refl

pub find-woven_from : (ds : Documents) (ps : List Documents) (q : Id) → document_at (fold merged ds ps) q ≡ option_or (document_at ds q) (document_at (woven ps) q)
find-woven_from ds [] q = or_none (document_at ds q)
find-woven_from ds (p ∷ ps) q =
    find-woven_from (merged ds p) ps q
    ∙ ap (λ o. option_or o (document_at (woven ps) q)) (find-merged ds p q)
    ∙ or_or (document_at ds q) (document_at p q) (document_at (woven ps) q)
    ∙ ap (option_or (document_at ds q)) (sym (find-woven_from p ps q))

pub in_order-woven_from : (ds : Documents) (ps : List Documents) → T (is_sorted id_cmp ds) → AllByRecursion (λ ds. is_sorted id_cmp ds ≡ true) ps → T (is_sorted id_cmp (fold merged ds ps))
in_order-woven_from ds [] h all = h
in_order-woven_from ds (p ∷ ps) h all = in_order-woven_from (merged ds p) ps (in_order-merged ds p (true_T _ all.0)) all.1

-- ---- two lists without a common id

abbrev pub Apart : Documents → Documents → Type 0
Apart ds es = (q : Id) → is_some (document_at ds q) ≡ true → document_at es q ≡ None

same_itself : (i : Id) → is_id i i ≡ true
same_itself i = ap is_eq (tied i)
  where
    tied : (i : Id) → id_cmp i i ≡ Equal
    tied i = Rattle.std.specs.Cmp.tied_itself nat_list_cmp_total i

put_below : (k : Id) (v : Document) (es : Documents) → T (below_all id_cmp k es) → put id_cmp k v es ≡ (k, v) ∷ es
put_below k v [] h = refl
put_below k v (e ∷ es) h = ap (λ r. by_order r ((k, v) ∷ e ∷ es) ((e.0, v) ∷ es) (e ∷ put id_cmp k v es)) (less _ (first _ _ h))

not_none : {A : Type 0} (b : Bool) (x : A) (o : Option A) → cond b (Some x) o ≡ None → (b ≡ false) × (o ≡ None)
not_none true x o is = cc
not_none false x o is = (refl, is)

absent : (d : Item) (ds es : Documents) → T (below_all id_cmp d.0 ds) → Apart (d ∷ ds) es → document_at (merged ds es) d.0 ≡ None
absent d ds es h apart =
    find-merged ds es d.0 ∙ ap (λ o. option_or o (document_at es d.0)) (find_below d.0 ds h)
    ∙ apart d.0 (ap (λ b. is_some (cond b (Some d.1) (document_at ds d.0))) (same_itself d.0))

found_later : (b : Bool) (x : Document) (o : Option Document) → is_some o ≡ true → is_some (cond b (Some x) o) ≡ true
found_later true x o is = refl
found_later false x o is = is

later : (d : Item) (ds es : Documents) → Apart (d ∷ ds) es → Apart ds es
later d ds es apart = λ q is. apart q (found_later (is_id q d.0) d.1 (document_at ds q) is)

one_more : (n a b : ℕ) → n ≡ a + b → n + 1 ≡ suc a + b
one_more n a b is = omega arith

module _ (g : Item → Bool) where
  filter-put : (k : Id) (v : Document) (es : Documents) → T (is_sorted id_cmp es) → document_at es k ≡ None → filter g (put id_cmp k v es) ≡ cond (g (k, v)) (put id_cmp k v (filter g es)) (filter g es)
  filter-put k v [] h none = refl
  filter-put k v (e ∷ es) h none =
      let here = not_none (is_id k e.0) e.1 (document_at es k) none in
      let rest = filter-put k v es (second _ _ h) here.1 in
      elim (id_cmp k e.0) as (λ r. id_cmp k e.0 ≡ r → filter g (by_order r ((k, v) ∷ e ∷ es) ((e.0, v) ∷ es) (e ∷ put id_cmp k v es)) ≡ cond (g (k, v)) (put id_cmp k v (filter g (e ∷ es))) (filter g (e ∷ es))) [
        | Less ↦ λ p. ap (λ xs. cond (g (k, v)) xs (filter g (e ∷ es)))
            (sym (put_below k v (filter g (e ∷ es)) (below_filter g k (e ∷ es) (both _ _ (is_less _ p) (below_step k e.0 es p (first _ _ h))))))
        | Equal ↦ λ p. absurd (subst T (sym (ap is_eq p) ∙ here.0) tt)
        | Greater ↦ λ p. elim (g e) as (λ b. cond b (e ∷ filter g (put id_cmp k v es)) (filter g (put id_cmp k v es)) ≡ cond (g (k, v)) (put id_cmp k v (cond b (e ∷ filter g es) (filter g es))) (cond b (e ∷ filter g es) (filter g es))) [
          | true ↦ ap (λ xs. e ∷ xs) rest ∙ elim (g (k, v)) as (λ c. e ∷ cond c (put id_cmp k v (filter g es)) (filter g es) ≡ cond c (put id_cmp k v (e ∷ filter g es)) (e ∷ filter g es)) [
            | true ↦ ap (λ r. by_order r ((k, v) ∷ e ∷ filter g es) ((e.0, v) ∷ filter g es) (e ∷ put id_cmp k v (filter g es))) (sym p)
            | false ↦ refl
          ]
          | false ↦ rest
        ]
      ] refl

  pub find-filter : (q : Id) (es : Documents) → document_at es q ≡ None → document_at (filter g es) q ≡ None
  find-filter q [] none = refl
  find-filter q (e ∷ es) none =
      let here = not_none (is_id q e.0) e.1 (document_at es q) none in
      let rest = find-filter q es here.1 in
      elim (g e) as (λ b. document_at (cond b (e ∷ filter g es) (filter g es)) q ≡ None) [
        | true ↦ ap (λ b. cond b (Some e.1) (document_at (filter g es) q)) here.0 ∙ rest
        | false ↦ rest
      ]

  -- what passes of both is both of what passes
  pub filter-merged : (ds es : Documents) → T (is_sorted id_cmp ds) → T (is_sorted id_cmp es) → Apart ds es → filter g (merged ds es) ≡ merged (filter g ds) (filter g es)
  filter-merged [] es h hs apart = refl
  filter-merged (d ∷ ds) es h hs apart =
      let none : document_at (merged ds es) d.0 ≡ None = absent d ds es (first _ _ h) apart in
      filter-put d.0 d.1 (merged ds es) (in_order-merged ds es hs) none
      ∙ ap (λ xs. cond (g d) (put id_cmp d.0 d.1 xs) xs) (filter-merged ds es (second _ _ h) hs (later d ds es apart))
      ∙ elim (g d) as (λ b. cond b (put id_cmp d.0 d.1 (merged (filter g ds) (filter g es))) (merged (filter g ds) (filter g es)) ≡ merged (cond b (d ∷ filter g ds) (filter g ds)) (filter g es)) [ true ↦ refl | false ↦ refl ]

-- there are as many as in both
pub length-merged : (ds es : Documents) → T (is_sorted id_cmp ds) → T (is_sorted id_cmp es) → Apart ds es → length (merged ds es) ≡ length ds + length es
length-merged [] es h hs apart = omega arith
length-merged (d ∷ ds) es h hs apart =
    let none : document_at (merged ds es) d.0 ≡ None = absent d ds es (first _ _ h) apart in
    let rest = length-merged ds es (second _ _ h) hs (later d ds es apart) in
    length-put id_cmp nat_list_cmp_total d.0 d.1 (merged ds es) (in_order-merged ds es hs)
    ∙ ap (λ o. cond (is_some o) (length (merged ds es)) (length (merged ds es) + 1)) none
    ∙ one_more (length (merged ds es)) (length ds) (length es) rest

-- ---- two lists in order, from their heads

below_above : (i : Id) (ds es : Documents) (e : Item) → T (below_all id_cmp e.0 ds) → merged ds (e ∷ es) ≡ e ∷ merged ds es
below_above i [] es e h = refl
below_above i (d ∷ ds) es e h =
    ap (put id_cmp d.0 d.1) (below_above i ds es e (second _ _ h))
    ∙ ap (λ r. by_order r ((d.0, d.1) ∷ e ∷ merged ds es) ((e.0, d.1) ∷ merged ds es) (e ∷ put id_cmp d.0 d.1 (merged ds es))) (turned e.0 d.0 (first _ _ h))

module _ (d : Item) (ds : Documents) (e : Item) (es : Documents) (h : T (is_sorted id_cmp (d ∷ ds))) (hs : T (is_sorted id_cmp (e ∷ es))) where
  pub merged-less : id_cmp d.0 e.0 ≡ Less → merged (d ∷ ds) (e ∷ es) ≡ d ∷ merged ds (e ∷ es)
  merged-less p = put_below d.0 d.1 (merged ds (e ∷ es)) (below_merged d.0 ds (e ∷ es) (first _ _ h) (both _ _ (is_less _ p) (below_step d.0 e.0 es p (first _ _ hs))))

  above : id_cmp d.0 e.0 ≡ Greater → T (is_lt (id_cmp e.0 d.0))
  above p = is_less _ (nat_list_cmp_total.antisymm e.0 d.0 ∙ ap ordering_reverse p)

  pub merged-greater : id_cmp d.0 e.0 ≡ Greater → merged (d ∷ ds) (e ∷ es) ≡ e ∷ merged (d ∷ ds) es
  merged-greater p = below_above e.0 (d ∷ ds) es e (both _ _ (above p) (below_step e.0 d.0 ds (less _ (above p)) (first _ _ h)))

  pub merged-equal : id_cmp d.0 e.0 ≡ Equal → merged (d ∷ ds) (e ∷ es) ≡ d ∷ merged ds es
  merged-equal p =
      let same : d.0 ≡ e.0 = exact_bytes d.0 e.0 p in
      ap (put id_cmp d.0 d.1) (below_above e.0 ds es e (subst (λ i. T (below_all id_cmp i ds)) same (first _ _ h)))
      ∙ ap (λ r. by_order r ((d.0, d.1) ∷ e ∷ merged ds es) ((e.0, d.1) ∷ merged ds es) (e ∷ put id_cmp d.0 d.1 (merged ds es))) p
      ∙ ap (λ (i : Id). (i, d.1) ∷ merged ds es) (sym same)

merged-none : (ds : Documents) → T (is_sorted id_cmp ds) → merged ds [] ≡ ds
merged-none [] h = refl
merged-none (d ∷ ds) h = ap (put id_cmp d.0 d.1) (merged-none ds (second _ _ h)) ∙ put_below d.0 d.1 ds (first _ _ h)

below_take : (n : ℕ) (x : Id) (es : Documents) → T (below_all id_cmp x es) → T (below_all id_cmp x (take n es))
below_take zero x es h = tt
below_take (suc n) x [] h = tt
below_take (suc n) x (e ∷ es) h = both _ _ (first _ _ h) (below_take n x es (second _ _ h))

pub in_order-take : (n : ℕ) (es : Documents) → T (is_sorted id_cmp es) → T (is_sorted id_cmp (take n es))
in_order-take zero es h = tt
in_order-take (suc n) [] h = tt
in_order-take (suc n) (e ∷ es) h = both _ _ (below_take n e.0 es (first _ _ h)) (in_order-take n es (second _ _ h))

-- the first n of both need the first n of each alone
pub take-merged : (n i j : ℕ) (ds es : Documents) → T (is_sorted id_cmp ds) → T (is_sorted id_cmp es) → n ≤ i → n ≤ j → take n (merged (take i ds) (take j es)) ≡ take n (merged ds es)
take-merged zero i j ds es h hs li lj = refl
take-merged (suc n) zero j ds es h hs li lj = absurd (omega (arith, li))
take-merged (suc n) (suc i) zero ds es h hs li lj = absurd (omega (arith, lj))
take-merged (suc n) (suc i) (suc j) [] es h hs li lj = take-take (suc n) (suc j) es lj
take-merged (suc n) (suc i) (suc j) (d ∷ ds) [] h hs li lj =
    ap (take (suc n)) (merged-none (d ∷ take i ds) (in_order-take (suc i) (d ∷ ds) h))
    ∙ take-take (suc n) (suc i) (d ∷ ds) li ∙ ap (take (suc n)) (sym (merged-none (d ∷ ds) h))
take-merged (suc n) (suc i) (suc j) (d ∷ ds) (e ∷ es) h hs li lj =
    let g = in_order-take (suc i) (d ∷ ds) h in
    let gs = in_order-take (suc j) (e ∷ es) hs in
    elim (id_cmp d.0 e.0) as (λ r. id_cmp d.0 e.0 ≡ r → take (suc n) (merged (d ∷ take i ds) (e ∷ take j es)) ≡ take (suc n) (merged (d ∷ ds) (e ∷ es))) [
      | Less ↦ λ p. ap (take (suc n)) (merged-less d (take i ds) e (take j es) g gs p)
          ∙ ap (λ xs. d ∷ xs) (take-merged n i (suc j) ds (e ∷ es) (second _ _ h) hs (omega (arith, li)) (omega (arith, lj)))
          ∙ ap (take (suc n)) (sym (merged-less d ds e es h hs p))
      | Equal ↦ λ p. ap (take (suc n)) (merged-equal d (take i ds) e (take j es) g gs p)
          ∙ ap (λ xs. d ∷ xs) (take-merged n i j ds es (second _ _ h) (second _ _ hs) (omega (arith, li)) (omega (arith, lj)))
          ∙ ap (take (suc n)) (sym (merged-equal d ds e es h hs p))
      | Greater ↦ λ p. ap (take (suc n)) (merged-greater d (take i ds) e (take j es) g gs p)
          ∙ ap (λ xs. e ∷ xs) (take-merged n (suc i) j (d ∷ ds) es h (second _ _ hs) (omega (arith, li)) (omega (arith, lj)))
          ∙ ap (take (suc n)) (sym (merged-greater d ds e es h hs p))
    ] refl

below_drop : (n : ℕ) (x : Id) (es : Documents) → T (below_all id_cmp x es) → T (below_all id_cmp x (drop n es))
below_drop zero x es h = h
below_drop (suc n) x [] h = tt
below_drop (suc n) x (e ∷ es) h = below_drop n x es (second _ _ h)

pub in_order-drop : (n : ℕ) (es : Documents) → T (is_sorted id_cmp es) → T (is_sorted id_cmp (drop n es))
in_order-drop zero es h = h
in_order-drop (suc n) [] h = tt
in_order-drop (suc n) (e ∷ es) h = in_order-drop n es (second _ _ h)

-- ---- the first document of both

module _ {A : Type 0} (view : A → Item) where
  pub next-left : (xs ys : List A) (x : A) → 0 < length xs → x ≡ get_or xs 0 x → length ys ≤ 0 → is_sorted id_cmp (map view xs) ≡ true → IsNext (map view xs) (map view ys) (view x) 1 0
  next-left [] ys x lt is none h = absurd (omega (arith, lt))
  next-left (a ∷ as_) (b ∷ bs) x lt is none h = absurd (omega (arith, none))
  next-left (a ∷ as_) [] x lt is none h = record {
    split = merged-none (view a ∷ map view as_) (true_T _ h) ∙ ap (λ z. view z ∷ map view as_) (sym is) ∙ ap (λ zs. view x ∷ zs) (sym (merged-none (map view as_) (second _ _ (true_T _ h))));
    within_first = omega arith;
    within_second = omega arith;
    goes_on = omega arith;
  }

  pub next-right : (xs ys : List A) (y : A) → length xs ≤ 0 → 0 < length ys → y ≡ get_or ys 0 y → IsNext (map view xs) (map view ys) (view y) 0 1
  next-right (a ∷ as_) ys y none lt is = absurd (omega (arith, none))
  next-right [] [] y none lt is = absurd (omega (arith, lt))
  next-right [] (b ∷ bs) y none lt is = record { split = ap (λ z. view z ∷ map view bs) (sym is); within_first = omega arith; within_second = omega arith; goes_on = omega arith }

  module _ (xs ys : List A) (x y : A) where
    pub record AreHeads : Type 0 where
      pub some_x : 0 < length xs
      pub is_x : x ≡ get_or xs 0 x
      pub sorted_x : is_sorted id_cmp (map view xs) ≡ true
      pub some_y : 0 < length ys
      pub is_y : y ≡ get_or ys 0 y
      pub sorted_y : is_sorted id_cmp (map view ys) ≡ true

  pub next-less : (xs ys : List A) (x y : A) → AreHeads xs ys x y → id_cmp (view x).0 (view y).0 ≡ Less → IsNext (map view xs) (map view ys) (view x) 1 0
  next-less [] ys x y h p = absurd (omega (arith, h.some_x))
  next-less (a ∷ as_) [] x y h p = absurd (omega (arith, h.some_y))
  next-less (a ∷ as_) (b ∷ bs) x y h p =
      let q : id_cmp (view a).0 (view b).0 ≡ Less = ap (λ (z : A). id_cmp (view z).0 (view b).0) (sym h.is_x) ∙ ap (λ (z : A). id_cmp (view x).0 (view z).0) (sym h.is_y) ∙ p in
      record {
        split = merged-less (view a) (map view as_) (view b) (map view bs) (true_T _ h.sorted_x) (true_T _ h.sorted_y) q ∙ ap (λ (z : A). view z ∷ merged (map view as_) (view b ∷ map view bs)) (sym h.is_x);
        within_first = omega arith;
        within_second = omega arith;
        goes_on = omega arith;
      }

  pub next-equal : (xs ys : List A) (x y : A) → AreHeads xs ys x y → id_cmp (view x).0 (view y).0 ≡ Equal → IsNext (map view xs) (map view ys) (view x) 1 1
  next-equal [] ys x y h p = absurd (omega (arith, h.some_x))
  next-equal (a ∷ as_) [] x y h p = absurd (omega (arith, h.some_y))
  next-equal (a ∷ as_) (b ∷ bs) x y h p =
      let q : id_cmp (view a).0 (view b).0 ≡ Equal = ap (λ (z : A). id_cmp (view z).0 (view b).0) (sym h.is_x) ∙ ap (λ (z : A). id_cmp (view x).0 (view z).0) (sym h.is_y) ∙ p in
      record {
        split = merged-equal (view a) (map view as_) (view b) (map view bs) (true_T _ h.sorted_x) (true_T _ h.sorted_y) q ∙ ap (λ (z : A). view z ∷ merged (map view as_) (map view bs)) (sym h.is_x);
        within_first = omega arith;
        within_second = omega arith;
        goes_on = omega arith;
      }

  pub next-greater : (xs ys : List A) (x y : A) → AreHeads xs ys x y → id_cmp (view x).0 (view y).0 ≡ Greater → IsNext (map view xs) (map view ys) (view y) 0 1
  next-greater [] ys x y h p = absurd (omega (arith, h.some_x))
  next-greater (a ∷ as_) [] x y h p = absurd (omega (arith, h.some_y))
  next-greater (a ∷ as_) (b ∷ bs) x y h p =
      let q : id_cmp (view a).0 (view b).0 ≡ Greater = ap (λ (z : A). id_cmp (view z).0 (view b).0) (sym h.is_x) ∙ ap (λ (z : A). id_cmp (view x).0 (view z).0) (sym h.is_y) ∙ p in
      record {
        split = merged-greater (view a) (map view as_) (view b) (map view bs) (true_T _ h.sorted_x) (true_T _ h.sorted_y) q ∙ ap (λ (z : A). view z ∷ merged (view a ∷ map view as_) (map view bs)) (sym h.is_y);
        within_first = omega arith;
        within_second = omega arith;
        goes_on = omega arith;
      }

drop_none : {A : Type 0} (n : ℕ) → drop {A = A} n [] ≡ []
drop_none zero = refl
drop_none (suc n) = refl

one_later : (i j : ℕ) → suc (i + j) ≡ suc i + j
one_later i j = omega arith

pub not_empty : {A : Type 0} (xs : List A) → false ≡ (length xs == 0) → 0 < length xs
not_empty [] is = cc
not_empty (x ∷ xs) is = omega arith

pub empty : {A : Type 0} (xs : List A) → true ≡ (length xs == 0) → length xs ≤ 0
empty xs is = grind (arith, nat_tests)

drop-drop : {A : Type 0} (i j : ℕ) (xs : List A) → drop j (drop i xs) ≡ drop (i + j) xs
drop-drop zero j xs = ap (λ n. drop n xs) (omega arith)
drop-drop {A = A} (suc i) j [] = drop_none {A = A} j ∙ sym (drop_none {A = A} (suc i + j))
drop-drop (suc i) j (x ∷ xs) = drop-drop i j xs ∙ ap (λ n. drop n (x ∷ xs)) (one_later i j)

-- one turn of merging: what is there, and both of what is left
pub merged-turn : {A : Type 0} (view : A → Item) (all after : List A) (e : A) (xs ys : List Item) (i j m n : ℕ) (total : Documents) → after ≡ all ++ e ∷ [] → IsNext (drop i xs) (drop j ys) (view e) m n
    → map view all ++ merged (drop i xs) (drop j ys) ≡ total → map view after ++ merged (drop (i + m) xs) (drop (j + n) ys) ≡ total
merged-turn view all after e xs ys i j m n total is next so_far =
    ap (λ es. map view es ++ merged (drop (i + m) xs) (drop (j + n) ys)) is
    ∙ ap (λ ds. ds ++ merged (drop (i + m) xs) (drop (j + n) ys)) (map-append view all (e ∷ []))
    ∙ append_assoc (map view all) (view e ∷ []) (merged (drop (i + m) xs) (drop (j + n) ys))
    ∙ ap (λ ds. map view all ++ view e ∷ ds) (ap (λ zs. merged zs (drop (j + n) ys)) (sym (drop-drop i m xs)) ∙ ap (merged (drop m (drop i xs))) (sym (drop-drop j n ys)))
    ∙ ap (λ ds. map view all ++ ds) (sym next.split)
    ∙ so_far

take_none : {A : Type 0} (n : ℕ) → take {A = A} n [] ≡ []
take_none zero = refl
take_none (suc n) = refl

-- a page is cut behind what it passes over
pub drop-take : {A : Type 0} (m n : ℕ) (xs : List A) → drop m (take (m + n) xs) ≡ take n (drop m xs)
drop-take zero n xs = ap (λ k. take k xs) (zero_plus n)
  where
    zero_plus : (n : ℕ) → 0 + n ≡ n
    zero_plus n = omega arith
drop-take {A = A} (suc m) n [] = ap (λ k. drop (suc m) (take {A = A} k [])) (next_sum m n) ∙ sym (take_none {A = A} n)
  where
    next_sum : (m n : ℕ) → suc m + n ≡ suc (m + n)
    next_sum m n = omega arith
drop-take (suc m) n (x ∷ xs) = ap (λ k. drop (suc m) (take k (x ∷ xs))) (next_sum m n) ∙ drop-take m n xs
  where
    next_sum : (m n : ℕ) → suc m + n ≡ suc (m + n)
    next_sum m n = omega arith
