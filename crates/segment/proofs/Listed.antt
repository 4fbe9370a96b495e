-- The words of documents are in the dictionary, and those with a prefix mark their documents.
use Rattle.std.proofs.Common.{◌≡◌, ℕ, ◌+◌, Bool, true, false, ◌||◌, List, [], ◌∷◌, ◌++◌, length, map, refl, sym, ap, ◌∙◌, subst, arith, String, string_bytes, true≢false, filter, Option, Some, None, is_some, if◌then◌else◌, cond, nat_eq, replicate, All, suc, Ordering, ◌&&◌}
use Rattle.std.specs.Ordering.{is_gt}
use Rattle.std.proofs.lemmas.List.Folds.{list_any-append}
use Rattle.std.specs.Ordering.{is_le, nat_cmp}
use Rattle.std.specs.declared.cmp.Ordering.TheVariants.{Less, Equal, Greater}
use Rattle.std.specs.Cmp.Lexicographic.{slice_cmp}
use Rattle.std.specs.List.{starts_with, list_any, list_all, AllByRecursion}
use Rattle.std.specs.List.Sorted.{IsStrictlySortedBy}
use Rattle.std.specs.Map.{keys_of, lookup}
use Rattle.std.specs.Option.{option_map_or}
use Rattle.std.specs.String.{string_cmp}
use Rattle.std.proofs.lemmas.Map.Made.{is_some-lookup}
use Rattle.std.proofs.lemmas.Map.Keys.{sorted_head, sorted_tail}
use Rattle.std.proofs.lemmas.List.Kept.{IsStrictlySortedBy-filter}
use Rattle.segment.specs.Places.{as_list, has_word, has_prefix}
use Rattle.marks.specs.Lists.{places, places_from}
use Rattle.segment.specs.declared.places.Places.{Places}
use Rattle.segment.proofs.Prefixes.{is_word, pre, sound, complete}

pub bool_same : (a b : Bool) → (a ≡ true → b ≡ true) → (b ≡ true → a ≡ true) → a ≡ b
bool_same true b to from = sym (to refl)
bool_same false true to from = from refl
bool_same false false to from = refl

pub none_there : {X : Type 0} (o : Option X) → is_some o ≡ false → o ≡ None
none_there None is = refl
none_there (Some x) is = absurd (true≢false is)

first_none : (b : Bool) (n : ℕ) (ps : List ℕ) → (if b then n ∷ ps else ps) ≡ [] → (b ≡ false) × (ps ≡ [])
first_none true n ps is = absurd (omega (arith, ap length is))
first_none false n ps is = (refl, is)

module _ {A : Type 0} where
  pub map_same : {B : Type 0} (f g : A → B) (xs : List A) → AllByRecursion (λ x. f x ≡ g x) xs → map f xs ≡ map g xs
  map_same f g [] all = refl
  map_same f g (x ∷ xs) all = ap (λ y. y ∷ map f xs) all.0 ∙ ap (λ ys. g x ∷ ys) (map_same f g xs all.1)

  pub none_pass : (p : A → Bool) (n : ℕ) (xs : List A) → places_from p n xs ≡ [] → AllByRecursion (λ x. p x ≡ false) xs
  none_pass p n [] is = tt
  none_pass p n (x ∷ xs) is = let r = first_none (p x) n (places_from p (n + 1) xs) is in (r.0, none_pass p (n + 1) xs r.1)

  pub every : {P Q : A → Type 0} → ((x : A) → P x → Q x) → (xs : List A) → AllByRecursion P xs → AllByRecursion Q xs
  every f [] all = tt
  every f (x ∷ xs) all = (f x all.0, every f xs all.1)

  pub always : {Q : A → Type 0} → ((x : A) → Q x) → (xs : List A) → AllByRecursion Q xs
  always f [] = tt
  always f (x ∷ xs) = (f x, always f xs)

  pub swapped : {W : Type 0} (P : W → A → Type 0) (xs : List A) → ((w : W) → AllByRecursion (P w) xs) → AllByRecursion (λ x. (w : W) → P w x) xs
  swapped P [] all = tt
  swapped P (x ∷ xs) all = ((λ w. (all w).0), swapped P xs (λ w. (all w).1))

module _ {Y A : Type 0} (words : A → List (List ℕ)) (docs : List A) (es : List (String Y × Places))
    (index : (w : List ℕ) → option_map_or as_list (lookup (is_word w) es) [] ≡ places (λ d. has_word w (words d)) docs) where
  by_word : (w : List ℕ) (b : Bool) → list_any (is_word w) (keys_of es) ≡ b → AllByRecursion (λ d. has_word w (words d) ≡ true → list_any (is_word w) (keys_of es) ≡ true) docs
  by_word w true is = always (λ d has. is) docs
  by_word w false is =
      let gone : lookup (is_word w) es ≡ None = none_there _ (is_some-lookup (is_word w) es ∙ is) in
      let empty : places (λ d. has_word w (words d)) docs ≡ [] = sym (index w) ∙ ap (λ o. option_map_or as_list o []) gone in
      every (λ d not has. absurd (true≢false (sym has ∙ not))) docs (none_pass (λ d. has_word w (words d)) 0 docs empty)

  -- each word of a document is a key
  listed : AllByRecursion (λ d. (w : List ℕ) → has_word w (words d) ≡ true → list_any (is_word w) (keys_of es) ≡ true) docs
  listed = swapped (λ (w : List ℕ) (d : A). has_word w (words d) ≡ true → list_any (is_word w) (keys_of es) ≡ true) docs (λ w. by_word w (list_any (is_word w) (keys_of es)) refl)

  -- the documents of the words so far are those with a word that begins with the prefix
  pub marked-prefix : (p : List ℕ) (q : String Y → Bool) → ((k : String Y) → is_le (slice_cmp nat_cmp p (string_bytes k)) ≡ true → q k ≡ true) → (seen rest : List (String Y × Places)) → filter (λ e. q e.0) es ≡ seen ++ rest
      → ((w : List ℕ) → starts_with nat_eq w p ≡ true → list_any (is_word w) (keys_of rest) ≡ false) → list_all (pre p) seen ≡ true
      → map (λ d. list_any (λ e. has_word (string_bytes e.0) (words d)) seen) docs ≡ map (λ d. has_prefix p (words d)) docs
  marked-prefix p q passes seen rest parted none all = map_same _ _ docs (every (λ d keys. bool_same _ _ (sound p seen (words d) all) (complete p q passes es seen rest parted none (words d) keys)) docs listed)

module _ {Y X : Type 0} (q : String Y → Bool) where
  keys_of-filter : (es : List (String Y × X)) → keys_of (filter (λ e. q e.0) es) ≡ filter q (keys_of es)
  keys_of-filter [] = refl
  keys_of-filter (e ∷ es) = by_first (q e.0) e.0 e (filter (λ e. q e.0) es) (filter q (keys_of es)) (keys_of-filter es)
    where
      by_first : {Y X : Type 0} (b : Bool) (k : String Y) (e : String Y × X) (xs : List (String Y × X)) (ks : List (String Y)) → keys_of xs ≡ ks → keys_of (cond b (e ∷ xs) xs) ≡ cond b (e.0 ∷ ks) ks
      by_first true k e xs ks is = ap (λ ys. e.0 ∷ ys) is
      by_first false k e xs ks is = is

  suffix : (seen : List (String Y × X)) (rest : List (String Y × X)) → IsStrictlySortedBy string_cmp (keys_of (seen ++ rest)) → IsStrictlySortedBy string_cmp (keys_of rest)
  suffix [] rest sorted = sorted
  suffix (e ∷ seen) rest sorted = suffix seen rest (sorted_tail string_cmp e.0 (keys_of (seen ++ rest)) sorted)

  -- keys after the first that is left are greater
  pub later : (es seen : List (String Y × X)) (e : String Y × X) (rest : List (String Y × X)) → IsStrictlySortedBy string_cmp (keys_of es) → filter (λ e. q e.0) es ≡ seen ++ e ∷ rest → AllByRecursion (λ y. string_cmp e.0 y ≡ Less) (keys_of rest)
  later es seen e rest sorted parted =
      sorted_head string_cmp e.0 (keys_of rest) (suffix seen (e ∷ rest) (subst (λ xs. IsStrictlySortedBy string_cmp (keys_of xs)) parted (subst (IsStrictlySortedBy string_cmp) (sym (keys_of-filter es)) (IsStrictlySortedBy-filter string_cmp q (keys_of es) sorted))))

-- ---- one turn of the loop

pub nothing : {A : Type 0} (xs : List A) → replicate (length xs) false ≡ map (λ (x : A). false) xs
nothing [] = refl
nothing (x ∷ xs) = ap (λ bs. false ∷ bs) (nothing xs)

pub middle : {B : Type 0} (P : B → Type 0) (seen rest : List B) (e : B) → All P (seen ++ e ∷ rest) → P e
middle P [] rest e all = all 0 e (omega arith)
middle P (x ∷ seen) rest e all = middle P seen rest e (λ k d lt. all (suc k) d (omega (arith, lt)))

pub le_from_not_gt : (o : Ordering) → is_gt o ≡ false → is_le o ≡ true
le_from_not_gt Less is = refl
le_from_not_gt Equal is = refl
le_from_not_gt Greater is = absurd (true≢false is)

or_last : (a b : Bool) → (a || (b || false)) ≡ (a || b)
or_last true b = refl
or_last false true = refl
or_last false false = refl

pub any-push : {B : Type 0} (p : B → Bool) (xs : List B) (x : B) → (list_any p xs || p x) ≡ list_any p (xs ++ x ∷ [])
any-push p xs x = sym (list_any-append p xs (x ∷ []) ∙ or_last (list_any p xs) (p x))

pub all-push : {B : Type 0} (p : B → Bool) (xs : List B) (x : B) → list_all p xs ≡ true → p x ≡ true → list_all p (xs ++ x ∷ []) ≡ true
all-push p [] x all is = ap (λ b. b && true) is
all-push p (y ∷ ys) x all is = both (p y) (list_all p ys) (list_all p (ys ++ x ∷ [])) all (λ rest. all-push p ys x rest is)
  where
    both : (a b c : Bool) → (a && b) ≡ true → (b ≡ true → c ≡ true) → (a && c) ≡ true
    both true b c all rest = rest all
    both false b c all rest = all
