-- Columns in the making with what the documents of other columns have.
use Rattle.std.proofs.Common.{◌≡◌, ◌<◌, ◌≤◌, ◌+◌, ℕ, zero, suc, Bool, true, false, ◌||◌, List, [], ◌∷◌, All, length, map, replicate, get_or, refl, sym, ap, ◌∙◌, subst, arith, Option, Some, None, option_map, String, Box, Global, BTreeMap}
use Rattle.std.specs.Prelude.{IfSome}
use Rattle.doc.specs.Fields.{Fields}
use Rattle.doc.specs.Scalar.{Scalar, text, long, flag}
use Rattle.std.specs.BTreeMap as tree
use Rattle.doc.specs.Mapping.{MappingData}
use Rattle.doc.specs.Document.{Values, all_values, values_at}
use Rattle.marks.specs.Lists.{places, places_from, zip_with}
use Rattle.segment.specs.Added.{making_at, IsLong}
use Rattle.segment.specs.Indexed.{has_term, has_value, column_at, IsColumn, IsColumnOr, IsIndexed}
use Rattle.segment.specs.Joined.{AreMakings, IsColumnOf, IsMakingOr}
use Rattle.segment.specs.Woven.{listed_if, masked, moved_by, risen, IsPlaced}
use Rattle.segment.specs.WovenColumns.{AreCovered, AreSoFar, AreWithin, AreWoven, IsCovered, IsWoven, IsWovenFirst, IsWovenOr}
use Rattle.segment.specs.declared.column.Column.{Column}
use Rattle.segment.specs.declared.making.Making.{Making}
use Rattle.segment.proofs.AddedLaws.{Makings, late}
use Rattle.segment.proofs.Blocked.{length-marked}
use Rattle.segment.proofs.Columns.{none_text, none_value, places-none}
use Rattle.segment.proofs.JoinedLaws.{same-column}
use Rattle.segment.proofs.MovingLaws.{risen-nil}
use Rattle.segment.proofs.Steps.{places-below}
use Rattle.segment.proofs.WovenLaws.{all_cons, all-either, all-moved, either, length-either, placed-all, placed-long, risen-places, woven-marks, woven-places}
use Rattle.std.proofs.lemmas.List.{length-map}
use Rattle.std.proofs.lemmas.List.Elements.{All-append}
use Rattle.std.specs.Option.{option_map_or}
use Rattle.segment.specs.Places.{as_list}
use Rattle.segment.specs.declared.places.Places.{Places}

-- ---- one column

module _ (fields : Fields) (g : List ℕ → Values) (zs : List (List ℕ)) (ts ms : List Bool) (ds : List (List ℕ)) (to : List (Option ℕ)) (are : IsPlaced 0 zs ts ms ds to) (n : ℕ) (whole : n ≡ length zs) (name : List ℕ) where
  abbrev before : List Values
  before = masked ts (map g zs)

  abbrev after : List Values
  after = masked (either g zs ts ms ds to are) (map g zs)

  no_term : (t : Scalar) → has_term fields name t [] ≡ false
  no_term t = none_text fields name t [] refl

  woven-column : (c : Column) (old new : Making) → IsColumn fields (map g ds) name c → IsColumnOf fields before name n old → IsWoven to c old new → IsColumnOf fields after name n new
  woven-column c old new column was is = record {
    has = woven-marks g zs ts ms ds to are (has_value name) (none_value name [] refl) n whole old.has new.has c.has was.has column.has is.has;
    texts = λ w. woven-places g zs ts ms ds to are (has_term fields name (text w)) (no_term (text w)) n whole _ _ _ (was.texts w) (column.texts w) (is.texts w);
    longs = λ z. woven-places g zs ts ms ds to are (has_term fields name (long z)) (no_term (long z)) n whole _ _ _ (was.longs z) (column.longs z) (is.longs z);
    yes = woven-marks g zs ts ms ds to are (has_term fields name (flag true)) (no_term (flag true)) n whole old.yes new.yes c.yes was.yes column.yes is.yes;
    no = woven-marks g zs ts ms ds to are (has_term fields name (flag false)) (no_term (flag false)) n whole old.no new.no c.no was.no column.no is.no;
  }

  -- documents without values of the field change nothing
  same-places : All (λ d. values_at name d ≡ []) (map g ds) → (test : Values → Bool) → ((d : Values) → values_at name d ≡ [] → test d ≡ false) → places test after ≡ places test before
  same-places empty test none =
      let nothing_later = all-moved g (λ d. values_at name d ≡ []) refl zs ts ms ds to are empty in
      sym (risen-places test (none [] refl) g zs ts ms ds to are)
      ∙ ap (risen (places test before)) (places-none test 0 (masked ms (map g zs)) (λ k d lt. none _ (nothing_later k d lt)))
      ∙ risen-nil (places test before)

  woven-making : (c : Option Column) (old new : Option Making) → IsColumnOr fields (map g ds) name c → IsMakingOr fields before n name old → IsWovenOr n to c old new → IsMakingOr fields after n name new
  woven-making None None new column was is =
      subst (IsMakingOr fields after n name) (sym is)
      (all-either g (λ d. values_at name d ≡ []) refl ts ms (map g zs) was (all-moved g (λ d. values_at name d ≡ []) refl zs ts ms ds to are column))
  woven-making None (Some old) new column was is =
      subst (IsMakingOr fields after n name) (sym is) (same-column fields name [] [] n before after old (same-places column) was)
  woven-making (Some c) None None column was is = absurd is
  woven-making (Some c) None (Some new) column was is = woven-column c is.empty new column (late fields before n name is.empty was is.none) is.woven
  woven-making (Some c) (Some old) None column was is = absurd is
  woven-making (Some c) (Some old) (Some new) column was is = woven-column c old new column was is

-- ---- all columns

-- with the documents that come among the others
pub makings-woven : (fields : Fields) (g : List ℕ → Values) (zs : List (List ℕ)) (ts ms : List Bool) (ds : List (List ℕ)) (to : List (Option ℕ)) (n : ℕ) (columns : BTreeMap (String Global) (Box Column Global)) (old new : Makings)
    → IsPlaced 0 zs ts ms ds to → n ≡ length zs → ((name : List ℕ) → IsColumnOr fields (map g ds) name (column_at columns name)) → AreMakings fields (masked ts (map g zs)) n old → AreWoven n to columns old new
    → AreMakings fields (masked (zip_with (λ x y. x || y) ts ms) (map g zs)) n new
makings-woven fields g zs ts ms ds to n columns old new are whole column was is = λ w.
    woven-making fields g zs ts ms ds to are n whole w (column_at columns w) (making_at old w) (making_at new w) (column w) (was w) (is w)

-- ---- what a column has is where documents stand

module _ (fields : Fields) (docs : List Values) (name : List ℕ) (to : List (Option ℕ)) (all : length docs ≡ length to) where
  below : (test : Values → Bool) (ps : List ℕ) → ps ≡ places test docs → All (λ p. p < length to) ps
  below test ps is = subst (λ (qs : List ℕ). All (λ p. p < length to) qs) (sym is) (subst (λ (n : ℕ). All (λ p. p < n) (places test docs)) all (places-below test docs))

  covered : (c : Option Column) → IsColumnOr fields docs name c → IfSome c (IsCovered to)
  covered None column = tt
  covered (Some c) column = record {
    has = ap length column.has ∙ length-map docs (has_value name) ∙ all;
    texts = λ w. below (has_term fields name (text w)) _ (column.texts w);
    longs = λ z. below (has_term fields name (long z)) _ (column.longs z);
    yes = ap length column.yes ∙ length-map docs (has_term fields name (flag true)) ∙ all;
    no = ap length column.no ∙ length-map docs (has_term fields name (flag false)) ∙ all;
  }

pub columns-covered : (fields : Fields) (docs : List Values) (to : List (Option ℕ)) (columns : BTreeMap (String Global) (Box Column Global)) → length docs ≡ length to → ((name : List ℕ) → IsColumnOr fields docs name (column_at columns name)) → AreCovered to columns
columns-covered fields docs to columns all column name = covered fields docs name to all (column_at columns name) (column name)

-- ---- moved places are places

listed_below : (n : ℕ) (o : Option ℕ) → IfSome o (λ p. p < n) → All (λ p. p < n) (listed_if o)
listed_below n None is = λ k d lt. absurd (omega (arith, lt))
listed_below n (Some p) is = only n p is
  where
    only : (n p : ℕ) → p < n → All (λ q. q < n) (p ∷ [])
    only n p is zero d lt = is
    only n p is (suc k) d lt = absurd (omega (arith, lt))

given_below : (n : ℕ) (to : List (Option ℕ)) (p : ℕ) → AreWithin n to → IfSome (get_or to p None) (λ q. q < n)
given_below n [] p within = tt
given_below n (o ∷ to) zero within = within 0 None (omega arith)
given_below n (o ∷ to) (suc p) within = given_below n to p (λ k d lt. within (suc k) d (omega (arith, lt)))

pub moved-below : (n : ℕ) (to : List (Option ℕ)) (ps : List ℕ) → AreWithin n to → All (λ p. p < n) (moved_by to ps)
moved-below n to [] within = λ k d lt. absurd (omega (arith, lt))
moved-below n to (p ∷ ps) within = All-append (λ q. q < n) (listed_if (get_or to p None)) (moved_by to ps) (listed_below n (get_or to p None) (given_below n to p within)) (moved-below n to ps within)

-- ---- the places of one key

-- those that a key has come among those that it had
abbrev pub IsMerged : List (Option ℕ) → Option Places → List ℕ → List ℕ → Type 0
IsMerged to found old new = new ≡ risen old (moved_by to (option_map_or as_list found []))

pub none-merged : (to : List (Option ℕ)) (old new : List ℕ) → new ≡ old → IsMerged to None old new
none-merged to old new same = same ∙ sym (risen-nil old)

-- the places of a key with what comes
pub merged-here : {K : Type 0} (to : List (Option ℕ)) (ps : Places) (now now' : K → List ℕ) (k v : K) (come : List ℕ) → v ≡ k → come ≡ moved_by to (as_list ps) → now' v ≡ risen (now v) come → (w : K) → w ≡ k → IsMerged to (Some ps) (now w) (now' w)
merged-here to ps now now' k v come is those done w same = subst (λ u. now' u ≡ risen (now u) (moved_by to (as_list ps))) (is ∙ sym same) (done ∙ ap (risen (now v)) those)

-- ---- the column of one field

pub long-woven : (n : ℕ) (to : List (Option ℕ)) (c : Column) (a b : Making) → IsWoven to c a b → IsLong n a → IsLong n b
long-woven n to c a b is marks = record {
  has = ap length is.has ∙ length-marked a.has (moved_by to (places (λ (b : Bool). b) c.has)) ∙ marks.has;
  yes = ap length is.yes ∙ length-marked a.yes (moved_by to (places (λ (b : Bool). b) c.yes)) ∙ marks.yes;
  no = ap length is.no ∙ length-marked a.no (moved_by to (places (λ (b : Bool). b) c.no)) ∙ marks.no;
}

pub woven-here : (n : ℕ) (to : List (Option ℕ)) (c : Column) (o r : Option Making) (a b : Making) → o ≡ Some a → r ≡ Some b → IsWoven to c a b → IsWovenOr n to (Some c) o r
woven-here n to c o r a b was is woven = subst (λ q. IsWovenOr n to (Some c) q r) (sym was) (subst (λ q. IsWovenOr n to (Some c) (Some a) q) (sym is) woven)

pub woven-first : (n : ℕ) (to : List (Option ℕ)) (c : Column) (o r : Option Making) (b : Making) → o ≡ None → r ≡ Some b → IsWovenFirst n to c b → IsWovenOr n to (Some c) o r
woven-first n to c o r b was is woven = subst (λ q. IsWovenOr n to (Some c) q r) (sym was) (subst (λ q. IsWovenOr n to (Some c) None q) (sym is) woven)

-- the same of a column in a box
abbrev pub IsWovenIn : ℕ → List (Option ℕ) → Option (Box Column Global) → Option Making → Option Making → Type 0
IsWovenIn n to found old new = IsWovenOr n to (option_map (λ b. b.value) found) old new

pub field-woven : {K : Type 0} (n : ℕ) (to : List (Option ℕ)) (b : Box Column Global) (c : Column) (old new : K → Option Making) (k v : K) → v ≡ k → c ≡ b.value → IsWovenOr n to (Some c) (old v) (new v) → (w : K) → w ≡ k → IsWovenIn n to (Some b) (old w) (new w)
field-woven n to b c old new k v is same woven w at = subst (λ u. IsWovenOr n to (Some b.value) (old u) (new u)) (is ∙ sym at) (subst (λ (d : Column). IsWovenOr n to (Some d) (old v) (new v)) same woven)

-- ---- all documents

all_unmarked : (P : Values → Type 0) → P [] → (n : ℕ) (xs : List Values) → All P (masked (replicate n false) xs)
all_unmarked P none zero xs = λ k d lt. absurd (omega (arith, lt))
all_unmarked P none (suc n) [] = λ k d lt. absurd (omega (arith, lt))
all_unmarked P none (suc n) (x ∷ xs) = all_cons P [] (masked (replicate n false) xs) none (all_unmarked P none n xs)

-- no columns, of no document yet
pub none-woven : (fields : Fields) (n m : ℕ) (xs : List Values) (bs : List Bool) (ms : Makings) → bs ≡ replicate m false → ((w : List ℕ) → tree.get_by_text ms w ≡ None) → AreMakings fields (masked bs xs) n ms
none-woven fields n m xs bs ms is none w =
    subst (λ (cs : List Bool). IsMakingOr fields (masked cs xs) n w (making_at ms w)) (sym is)
    (subst (λ (o : Option (Box Making Global)). IsMakingOr fields (masked (replicate m false) xs) n w (option_map (λ b. b.value) o)) (sym (none w)) (all_unmarked (λ d. values_at w d ≡ []) refl m xs))

few_marked : (n : ℕ) (bs : List Bool) → length (places_from (λ (b : Bool). b) n bs) ≤ length bs
few_marked n [] = omega arith
few_marked n (true ∷ bs) = omega (arith, few_marked (n + 1) bs)
few_marked n (false ∷ bs) = omega (arith, few_marked (n + 1) bs)

all_from : (n : ℕ) (bs : List Bool) (xs : List Values) → length bs ≡ length xs → length bs ≤ length (places_from (λ (b : Bool). b) n bs) → masked bs xs ≡ xs
all_from n [] [] same all = refl
all_from n [] (x ∷ xs) same all = absurd (omega (arith, same))
all_from n (b ∷ bs) [] same all = absurd (omega (arith, same))
all_from n (true ∷ bs) (x ∷ xs) same all = ap (λ ys. x ∷ ys) (all_from (n + 1) bs xs (omega (arith, same)) (omega (arith, all)))
all_from n (false ∷ bs) (x ∷ xs) same all = absurd (omega (arith, all, few_marked (n + 1) bs))

-- where all documents are marked, they are all there
pub all-masked : (bs : List Bool) (xs : List Values) → length bs ≡ length xs → length bs ≤ length (places (λ (b : Bool). b) bs) → masked bs xs ≡ xs
all-masked bs xs same all = all_from 0 bs xs same all

-- the documents of one strand more
pub strand-more : (m : MappingData) (zs ds : List (List ℕ)) (ts ts' ms : List Bool) (to : List (Option ℕ)) (n : ℕ) (of_segment : MappingData) (columns : BTreeMap (String Global) (Box Column Global)) (old new : Makings)
    → of_segment ≡ m → n ≡ length zs → AreSoFar m zs ts old → IsPlaced 0 zs ts ms ds to → IsIndexed of_segment ds columns → AreWoven n to columns old new → ts' ≡ zip_with (λ x y. x || y) ts ms → AreSoFar m zs ts' new
strand-more m zs ds ts ts' ms to n of_segment columns old new same whole so_far are indexed woven is =
    let each = subst (λ (k : MappingData). (name : List ℕ) → IsColumnOr k.fields (map (all_values k) ds) name (column_at columns name)) same indexed.each in
    let was : AreMakings m.fields (masked ts (map (all_values m) zs)) n old = subst (λ (k : ℕ). AreMakings m.fields (masked ts (map (all_values m) zs)) k old) (sym whole) so_far.columns in
    let now = makings-woven m.fields (all_values m) zs ts ms ds to n columns old new are whole each was woven in
    let long = placed-long 0 zs ts ms ds to are in
    subst (λ (bs : List Bool). AreSoFar m zs bs new) (sym is)
    (record {
      whole = length-either ts ms (long.0 ∙ sym long.1) ∙ long.1;
      columns = subst (λ (k : ℕ). AreMakings m.fields (masked (zip_with (λ x y. x || y) ts ms) (map (all_values m) zs)) k new) whole now;
    })

pub strand-covered : (zs ds : List (List ℕ)) (ts ms : List Bool) (to : List (Option ℕ)) (m : MappingData) (columns : BTreeMap (String Global) (Box Column Global)) → IsPlaced 0 zs ts ms ds to → IsIndexed m ds columns → AreCovered to columns
strand-covered zs ds ts ms to m columns are indexed = columns-covered m.fields (map (all_values m) ds) to columns (length-map ds (all_values m) ∙ placed-all 0 zs ts ms ds to are) indexed.each
