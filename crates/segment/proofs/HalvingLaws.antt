-- Columns that are finished in two halves.
use Rattle.std.proofs.Common.{◌≡◌, ◌<◌, ℕ, ℤ, All, Bool, true, false, List, [], ◌∷◌, ◌++◌, refl, sym, ap, ◌∙◌, subst, cond, if◌then◌else◌, Option, Some, None, String, string_bytes, Box, Global, option_map}
use Rattle.std.specs.Prelude.{IfSome}
use Rattle.std.specs.BTreeMap as tree
use Rattle.std.specs.BTreeMap.{is_at, IsOrdered}
use Rattle.std.specs.Cmp.Lexicographic.{slice_cmp, bytes_decides}
use Rattle.std.specs.List.{IsDistinct, AllByRecursion}
use Rattle.std.specs.Map.{keys_of, lookup, update}
use Rattle.std.specs.Option.{option_or}
use Rattle.std.specs.Ordering.{nat_cmp, eq_by_cmp}
use Rattle.std.specs.Str.{bytes_eq}
use Rattle.std.specs.String.{string_cmp}
use Rattle.std.proofs.lemmas.Map.Keys.{IsDistinct-from_sorted, IsDistinct-head, IsDistinct-tail}
use Rattle.std.proofs.lemmas.Map.Text.{is_eq-slice_cmp}
use Rattle.segment.specs.Added.{making_at, HaveFewPlaces, IsFinishedOr, AreFinished}
use Rattle.segment.specs.Indexed.{column_at}
use Rattle.segment.specs.Posted.{places_so_far_long}
use Rattle.segment.specs.declared.column.Column.{Column}
use Rattle.segment.specs.declared.making.Making.{Making}
use Rattle.segment.proofs.AddedLaws.{Makings}
use Rattle.segment.proofs.FinishLaws.{Columns}

-- ---- look-ups in entries that stand behind others

lookup_behind : {K X : Type 0} (test : K → Bool) (es fs : List (K × X)) → lookup test (es ++ fs) ≡ option_or (lookup test es) (lookup test fs)
lookup_behind test [] fs = refl
lookup_behind test (e ∷ es) fs = by_test (test e.0) (lookup_behind test es fs)
  where
    by_test : (b : Bool) → lookup test (es ++ fs) ≡ option_or (lookup test es) (lookup test fs) → cond b (Some e.1) (lookup test (es ++ fs)) ≡ option_or (cond b (Some e.1) (lookup test es)) (lookup test fs)
    by_test true rest = refl
    by_test false rest = rest

map_either : {X Y : Type 0} (f : X → Y) (a b : Option X) → option_map f (option_or a b) ≡ option_or (option_map f a) (option_map f b)
map_either f None b = refl
map_either f (Some x) b = refl

-- whether a key is a text
abbrev is_text : List ℕ → String Global → Bool
is_text w = is_at (λ (k : String Global). slice_cmp nat_cmp w (string_bytes k))

pub making-parts : (whole lower upper : Makings) → whole.entries ≡ lower.entries ++ upper.entries → (w : List ℕ) → making_at whole w ≡ option_or (making_at lower w) (making_at upper w)
making-parts whole lower upper parts w =
    ap (λ (es : List (String Global × Box Making Global)). option_map (λ b. b.value) (lookup (is_text w) es)) parts
    ∙ ap (option_map (λ b. b.value)) (lookup_behind (is_text w) lower.entries upper.entries)
    ∙ map_either (λ b. b.value) (lookup (is_text w) lower.entries) (lookup (is_text w) upper.entries)

-- ---- both halves are finished

finished_both : (n : ℕ) (a b : Option Making) (x y : Option Column) → IsFinishedOr n a x → IsFinishedOr n b y → IsFinishedOr n (option_or a b) (option_or x y)
finished_both n None b None y here there = there
finished_both n (Some m) b (Some c) y here there = here
finished_both n None b (Some c) y here there = absurd here
finished_both n (Some m) b None y here there = absurd here

pub halves-finished : (n : ℕ) (whole lower upper : Makings) (first rest all : Columns) → ((w : List ℕ) → making_at whole w ≡ option_or (making_at lower w) (making_at upper w)) → AreFinished n lower first → AreFinished n upper rest
    → ((w : List ℕ) → column_at all w ≡ option_or (column_at first w) (column_at rest w)) → AreFinished n whole all
halves-finished n whole lower upper first rest all parts here there are w =
    subst (λ o. IsFinishedOr n o (column_at all w)) (sym (parts w))
    (subst (λ o. IsFinishedOr n (option_or (making_at lower w) (making_at upper w)) o) (sym (are w))
    (finished_both n (making_at lower w) (making_at upper w) (column_at first w) (column_at rest w) (here w) (there w)))

-- ---- one column more

pub one-moved : (left left' made made' : Columns) (name : List ℕ) (column : Box Column Global) → tree.get_by_text left name ≡ Some column
    → ((w : List ℕ) → tree.get_by_text left' w ≡ update bytes_eq (tree.get_by_text left) name None w)
    → ((w : List ℕ) → tree.get_by_text made' w ≡ update bytes_eq (tree.get_by_text made) name (Some column) w)
    → (w : List ℕ) → option_or (column_at left' w) (column_at made' w) ≡ option_or (column_at left w) (column_at made w)
one-moved left left' made made' name column value taken sets w =
    ap (λ (o : Option (Box Column Global)). option_or (option_map (λ b. b.value) o) (column_at made' w)) (taken w)
    ∙ ap (λ (o : Option (Box Column Global)). option_or (option_map (λ b. b.value) (if bytes_eq name w then None else tree.get_by_text left w)) (option_map (λ b. b.value) o)) (sets w)
    ∙ by_test (bytes_eq name w) refl
  where
    by_test : (t : Bool) → bytes_eq name w ≡ t
        → option_or (option_map (λ b. b.value) (if t then None else tree.get_by_text left w)) (option_map (λ b. b.value) (if t then Some column else tree.get_by_text made w)) ≡ option_or (column_at left w) (column_at made w)
    by_test true same = ap (λ o. option_or o (column_at made w)) (sym (ap (column_at left) (sym ((bytes_decides name w).0 same)) ∙ ap (option_map (λ b. b.value)) value))
    by_test false other = refl

-- ---- few places in both halves

abbrev pub IsFew : ℕ → Making → Type 0
IsFew n m = (z : ℤ) → All (λ p. p < n) (places_so_far_long m.longs z)

if_first : {X : Type 0} (P : X → Type 0) (a b : Option X) → IfSome (option_or a b) P → IfSome a P
if_first P None b is = tt
if_first P (Some x) b is = is

pub few-lower : (n : ℕ) (whole lower upper : Makings) → whole.entries ≡ lower.entries ++ upper.entries → HaveFewPlaces n whole → HaveFewPlaces n lower
few-lower n whole lower upper parts few w = if_first (IsFew n) (making_at lower w) (making_at upper w) (subst (λ o. IfSome o (IsFew n)) (making-parts whole lower upper parts w) (few w))

text_none : (w : List ℕ) (k : String Global) (es : List (String Global × Box Making Global)) → is_text w k ≡ true → AllByRecursion (λ j. eq_by_cmp string_cmp k j ≡ false) (keys_of es) → lookup (is_text w) es ≡ None
text_none w k [] here apart = refl
text_none w k (e ∷ es) here apart =
    ap (λ b. cond b (Some e.1) (lookup (is_text w) es)) (ap (λ v. is_text v e.0) ((bytes_decides w (string_bytes k)).0 (sym (is_eq-slice_cmp w (string_bytes k)) ∙ here)) ∙ apart.0)
    ∙ text_none w k es here apart.1

few_behind : (P : Box Making Global → Type 0) (w : List ℕ) (es fs : List (String Global × Box Making Global)) → IsDistinct (eq_by_cmp string_cmp) (keys_of (es ++ fs)) → IfSome (lookup (is_text w) (es ++ fs)) P → IfSome (lookup (is_text w) fs) P
few_behind P w [] fs apart is = is
few_behind P w (e ∷ es) fs apart is = few_behind P w es fs (IsDistinct-tail (eq_by_cmp string_cmp) e.0 (keys_of (es ++ fs)) apart) (by_test (is_text w e.0) refl is)
  where
    by_test : (b : Bool) → is_text w e.0 ≡ b → IfSome (cond b (Some e.1) (lookup (is_text w) (es ++ fs))) P → IfSome (lookup (is_text w) (es ++ fs)) P
    by_test true here is = subst (λ o. IfSome o P) (sym (text_none w e.0 (es ++ fs) here (IsDistinct-head (eq_by_cmp string_cmp) e.0 (keys_of (es ++ fs)) apart))) tt
    by_test false other is = is

if_value : (P : Making → Type 0) (o : Option (Box Making Global)) → IfSome (option_map (λ b. b.value) o) P → IfSome o (λ b. P b.value)
if_value P None is = tt
if_value P (Some b) is = is

if_valued : (P : Making → Type 0) (o : Option (Box Making Global)) → IfSome o (λ b. P b.value) → IfSome (option_map (λ b. b.value) o) P
if_valued P None is = tt
if_valued P (Some b) is = is

pub few-upper : (n : ℕ) (whole lower upper : Makings) → IsOrdered string_cmp whole → whole.entries ≡ lower.entries ++ upper.entries → HaveFewPlaces n whole → HaveFewPlaces n upper
few-upper n whole lower upper ordered parts few w =
    let distinct = subst (λ (es : List (String Global × Box Making Global)). IsDistinct (eq_by_cmp string_cmp) (keys_of es)) parts (IsDistinct-from_sorted string_cmp (keys_of whole.entries) ordered) in
    let here = subst (λ (es : List (String Global × Box Making Global)). IfSome (lookup (is_text w) es) (λ b. IsFew n b.value)) parts (if_value (IsFew n) (lookup (is_text w) whole.entries) (few w)) in
    if_valued (IsFew n) (lookup (is_text w) upper.entries) (few_behind (λ b. IsFew n b.value) w lower.entries upper.entries distinct here)
