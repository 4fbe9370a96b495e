-- The words with a prefix stand side by side.
use Rattle.std.proofs.Common.{◌≡◌, ℕ, Bool, true, false, ◌||◌, ◌&&◌, List, [], ◌∷◌, ◌++◌, refl, sym, ap, ◌∙◌, subst, arith, nat_eq, String, string_bytes, cond, true≢false, Ordering, filter}
use Rattle.std.proofs.lemmas.List.{map-append}
use Rattle.std.proofs.lemmas.Grind.{common_steps}
use Rattle.std.proofs.lemmas.Bool.Decides.{nat_tests}
use Rattle.std.proofs.lemmas.List.Folds.{list_any-append}
use Rattle.std.proofs.lemmas.Map.Text.{is_eq-slice_cmp}
use Rattle.std.specs.Ordering.{is_le, is_eq, nat_cmp}
use Rattle.std.specs.declared.cmp.Ordering.TheVariants.{Less}
use Rattle.std.specs.Cmp.Lexicographic.{slice_cmp, bytes_decides, nat_list_eq_equiv}
use Rattle.std.specs.List.{starts_with, list_any, list_all, AllByRecursion}
use Rattle.std.specs.Map.{keys_of}
use Rattle.std.specs.Str.{bytes_eq}
use Rattle.std.specs.String.{string_cmp}
use Rattle.segment.specs.Places.{has_word, has_prefix}

-- what lies between a prefix and a word that begins with it begins with it too
pub between : (p x w : List ℕ) → is_le (slice_cmp nat_cmp p x) ≡ true → is_le (slice_cmp nat_cmp x w) ≡ true → starts_with nat_eq w p ≡ true → starts_with nat_eq x p ≡ true
between [] x w above below starts = refl
between (a ∷ p) [] w above below starts = grind arith
between (a ∷ p) (b ∷ x) [] above below starts = grind arith
between (a ∷ p) (b ∷ x) (c ∷ w) above below starts = grind (arith, common_steps, nat_tests, above, below, starts, between p x w)

-- a prefix isn't above a word that begins with it
pub at_most : (p w : List ℕ) → starts_with nat_eq w p ≡ true → is_le (slice_cmp nat_cmp p w) ≡ true
at_most [] [] starts = refl
at_most [] (c ∷ w) starts = refl
at_most (a ∷ p) [] starts = grind arith
at_most (a ∷ p) (c ∷ w) starts = grind (arith, common_steps, nat_tests, starts, at_most p w)

or-true : (a : Bool) → (a || true) ≡ true
or-true true = refl
or-true false = refl

first_word : (p k w : List ℕ) (ws : List (List ℕ)) → starts_with nat_eq k p ≡ true → (b : Bool) → bytes_eq k w ≡ b → (b || has_word k ws) ≡ true → (has_word k ws ≡ true → has_prefix p ws ≡ true) → (starts_with nat_eq w p || has_prefix p ws) ≡ true
first_word p k w ws starts true is has rest = ap (λ c. c || has_prefix p ws) (subst (λ v. starts_with nat_eq v p ≡ true) ((bytes_decides k w).0 is) starts)
first_word p k w ws starts false is has rest = ap (λ c. starts_with nat_eq w p || c) (rest has) ∙ or-true (starts_with nat_eq w p)

-- a word that begins with the prefix, among the words
pub has_prefix-from : (p k : List ℕ) (ws : List (List ℕ)) → starts_with nat_eq k p ≡ true → has_word k ws ≡ true → has_prefix p ws ≡ true
has_prefix-from p k [] starts has = has
has_prefix-from p k (w ∷ ws) starts has = first_word p k w ws starts (bytes_eq k w) refl has (λ h. has_prefix-from p k ws starts h)

first_prefixed : (p w : List ℕ) (ws : List (List ℕ)) (b : Bool) → starts_with nat_eq w p ≡ b → (b || has_prefix p ws) ≡ true → (has_prefix p ws ≡ true → (v : List ℕ) × (starts_with nat_eq v p ≡ true) × (has_word v ws ≡ true)) → (v : List ℕ) × (starts_with nat_eq v p ≡ true) × (has_word v (w ∷ ws) ≡ true)
first_prefixed p w ws true is has rest = (w, is, ap (λ c. c || has_word w ws) (nat_list_eq_equiv.refl w))
first_prefixed p w ws false is has rest = let r = rest has in (r.0, r.1, ap (λ c. bytes_eq r.0 w || c) r.2 ∙ or-true (bytes_eq r.0 w))

-- one of the words that begins with the prefix
pub prefixed : (p : List ℕ) (ws : List (List ℕ)) → has_prefix p ws ≡ true → (v : List ℕ) × (starts_with nat_eq v p ≡ true) × (has_word v ws ≡ true)
prefixed p [] has = absurd (true≢false (sym has))
prefixed p (w ∷ ws) has = first_prefixed p w ws (starts_with nat_eq w p) refl has (λ h. prefixed p ws h)

-- whether a key is the word
abbrev pub is_word : {Y : Type 0} → List ℕ → String Y → Bool
is_word w k = is_eq (slice_cmp nat_cmp w (string_bytes k))

-- one of two ways
either : {G : Type 0} (a b c d : Bool) → (a && c) ≡ true → (b || d) ≡ true → (a ≡ true → b ≡ true → G) → (c ≡ true → d ≡ true → G) → G
either true true c d all some f g = f refl refl
either true false c d all some f g = g all some
either false b c d all some f g = absurd (true≢false (sym all))

pub word_is : {Y : Type 0} (w : List ℕ) (k : String Y) → is_word w k ≡ true → w ≡ string_bytes k
word_is w k is = (bytes_decides w (string_bytes k)).0 (sym (is_eq-slice_cmp w (string_bytes k)) ∙ is)

le_from_less : (o : Ordering) → o ≡ Less → is_le o ≡ true
le_from_less o is = ap is_le is

neither : (b c : Bool) → (b ≡ true → ⊥) → c ≡ false → (b || c) ≡ false
neither true c isnt none = absurd (isnt refl)
neither false c isnt none = none

some_first : (b c : Bool) (f : Bool) → (b || c) ≡ true → (b ≡ true → f ≡ true) → (d : Bool) → (c ≡ true → d ≡ true) → (f || d) ≡ true
some_first true c f some here d rest = ap (λ x. x || d) (here refl)
some_first false c f some here d rest = ap (λ x. f || x) (rest some) ∙ or-true f

same_first : (t q : Bool) (x y z : Bool) → (t ≡ true → q ≡ true) → x ≡ y → (q ≡ true → z ≡ (t || x)) → (q ≡ false → z ≡ x) → z ≡ (t || y)
same_first t true x y z passes same taken left = taken refl ∙ ap (λ b. t || b) same
same_first true false x y z passes same taken left = absurd (true≢false (sym (passes refl)))
same_first false false x y z passes same taken left = left refl ∙ same

drop_last : (a b : Bool) → (a || b) ≡ true → b ≡ false → a ≡ true
drop_last true b some none = refl
drop_last false b some none = absurd (true≢false (sym some ∙ none))

-- a filter that lets a key through keeps whether it is there
pub any_kept : {K X : Type 0} (f q : K → Bool) → ((k : K) → f k ≡ true → q k ≡ true) → (es : List (K × X)) → list_any f (keys_of (filter (λ e. q e.0) es)) ≡ list_any f (keys_of es)
any_kept f q passes [] = refl
any_kept f q passes (e ∷ es) = same_first (f e.0) (q e.0) _ _ _ (passes e.0) (any_kept f q passes es)
    (λ is. ap (λ b. list_any f (keys_of (cond b (e ∷ filter (λ e. q e.0) es) (filter (λ e. q e.0) es)))) is)
    (λ is. ap (λ b. list_any f (keys_of (cond b (e ∷ filter (λ e. q e.0) es) (filter (λ e. q e.0) es)))) is)

module _ {Y X : Type 0} where
  seen_has : (w : List ℕ) (ws : List (List ℕ)) (es : List (String Y × X)) → has_word w ws ≡ true → list_any (is_word w) (keys_of es) ≡ true → list_any (λ e. has_word (string_bytes e.0) ws) es ≡ true
  seen_has w ws [] has some = some
  seen_has w ws (e ∷ es) has some = some_first (is_word w e.0) (list_any (is_word w) (keys_of es)) (has_word (string_bytes e.0) ws) some (λ is. subst (λ v. has_word v ws ≡ true) (word_is w e.0 is) has) _ (seen_has w ws es has)

  module _ (p : List ℕ) where
    abbrev pub pre : String Y × X → Bool
    pre e = starts_with nat_eq (string_bytes e.0) p

    -- documents of entries that begin with the prefix have a word that does
    pub sound : (es : List (String Y × X)) (ws : List (List ℕ)) → list_all pre es ≡ true → list_any (λ e. has_word (string_bytes e.0) ws) es ≡ true → has_prefix p ws ≡ true
    sound [] ws all some = absurd (true≢false (sym some))
    sound (e ∷ es) ws all some = either (pre e) (has_word (string_bytes e.0) ws) (list_all pre es) (list_any (λ e. has_word (string_bytes e.0) ws) es) all some (λ starts has. has_prefix-from p (string_bytes e.0) ws starts has) (λ more others. sound es ws more others)

    -- where one doesn't begin with the prefix, no later one does
    pub none_later : (k : String Y) (es : List (String Y × X)) (w : List ℕ) → is_le (slice_cmp nat_cmp p (string_bytes k)) ≡ true → starts_with nat_eq (string_bytes k) p ≡ false → AllByRecursion (λ y. string_cmp k y ≡ Less) (keys_of es) → starts_with nat_eq w p ≡ true → list_any (is_word w) (keys_of es) ≡ false
    none_later k [] w above out less starts = refl
    none_later k (e ∷ es) w above out less starts = neither (is_word w e.0) (list_any (is_word w) (keys_of es))
        (λ is. true≢false (sym (between p (string_bytes k) (string_bytes e.0) above (le_from_less _ less.0) (subst (λ v. starts_with nat_eq v p ≡ true) (word_is w e.0 is) starts)) ∙ out))
        (none_later k es w above out less.1 starts)

    -- each document with a word that begins with the prefix has one of the words so far
    pub complete : (q : String Y → Bool) → ((k : String Y) → is_le (slice_cmp nat_cmp p (string_bytes k)) ≡ true → q k ≡ true) → (es seen rest : List (String Y × X)) → filter (λ e. q e.0) es ≡ seen ++ rest
        → ((w : List ℕ) → starts_with nat_eq w p ≡ true → list_any (is_word w) (keys_of rest) ≡ false)
        → (ws : List (List ℕ)) → ((w : List ℕ) → has_word w ws ≡ true → list_any (is_word w) (keys_of es) ≡ true) → has_prefix p ws ≡ true → list_any (λ e. has_word (string_bytes e.0) ws) seen ≡ true
    complete q passes es seen rest parted none ws listed has =
        let r = prefixed p ws has in
        let w = r.0 in
        let let_in = λ (k : String Y) (is : is_word w k ≡ true). passes k (subst (λ v. is_le (slice_cmp nat_cmp p v) ≡ true) (word_is w k is) (at_most p w r.1)) in
        let there : list_any (is_word w) (keys_of (seen ++ rest)) ≡ true = ap (λ xs. list_any (is_word w) (keys_of xs)) (sym parted) ∙ any_kept (is_word w) q let_in es ∙ listed w r.2 in
        let split : list_any (is_word w) (keys_of (seen ++ rest)) ≡ (list_any (is_word w) (keys_of seen) || list_any (is_word w) (keys_of rest)) = ap (list_any (is_word w)) (map-append (λ (e : String Y × X). e.0) seen rest) ∙ list_any-append (is_word w) (keys_of seen) (keys_of rest) in
        seen_has w ws seen r.2 (drop_last _ _ (sym split ∙ there) (none w r.1))

    -- nor does it itself
    pub none_from : (e : String Y × X) (es : List (String Y × X)) (w : List ℕ) → is_le (slice_cmp nat_cmp p (string_bytes e.0)) ≡ true → pre e ≡ false → AllByRecursion (λ y. string_cmp e.0 y ≡ Less) (keys_of es) → starts_with nat_eq w p ≡ true → list_any (is_word w) (keys_of (e ∷ es)) ≡ false
    none_from e es w above out less starts = neither (is_word w e.0) (list_any (is_word w) (keys_of es))
        (λ is. true≢false (sym (subst (λ v. starts_with nat_eq v p ≡ true) (word_is w e.0 is) starts) ∙ out))
        (none_later e.0 es w above out less starts)
