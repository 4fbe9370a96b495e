-- Columns taken from those in the making, one by one.
use Rattle.std.proofs.Common.{◌≡◌, ◌<◌, ◌⊎◌, inl, inr, ℕ, ℤ, All, Bool, true, false, List, refl, sym, ap, ◌∙◌, subst, if◌then◌else◌, Option, Some, None, String, Box, Global, BTreeMap, option_map}
use Rattle.std.specs.Prelude.{IfSome}
use Rattle.std.specs.BTreeMap as tree
use Rattle.std.specs.Map.{update}
use Rattle.std.specs.Str.{bytes_eq}
use Rattle.std.specs.Cmp.Lexicographic.{bytes_decides}
use Rattle.segment.specs.Added.{making_at, AreFinished, HaveFewPlaces, IsFinishedOr}
use Rattle.segment.specs.Indexed.{column_at}
use Rattle.segment.specs.Joined.{ArePut, IsPut, IsPutOr}
use Rattle.segment.specs.Posted.{IsFinished, places_so_far_long}
use Rattle.segment.specs.declared.column.Column.{Column}
use Rattle.segment.specs.declared.making.Making.{Making}
use Rattle.segment.proofs.AddedLaws.{Makings}

abbrev pub Columns : Type 0
Columns = BTreeMap (String Global) (Box Column Global)

-- what a field has in a map
abbrev pub value_at : {X : Type 0} → BTreeMap (String Global) (Box X Global) → List ℕ → Option X
value_at ms name = option_map (λ b. b.value) (tree.get_by_text ms name)

-- a column is made of one in the making
pub record IsTaken {X : Type 0} (R : Making → X → Type 0) (first left : Option Making) (made : Option X) : Type 0 where
  pub making : Making
  pub column : X
  pub was : first ≡ Some making
  pub gone : left ≡ None
  pub there : made ≡ Some column
  pub is : R making column

-- it waits or is made
abbrev pub IsEither : {X : Type 0} → (Making → X → Type 0) → Option Making → Option Making → Option X → Type 0
IsEither R first left made = ((left ≡ first) × (made ≡ None)) ⊎ IsTaken R first left made

abbrev pub AreEither : {X : Type 0} → (Making → X → Type 0) → Makings → Makings → BTreeMap (String Global) (Box X Global) → Type 0
AreEither R first left made = (w : List ℕ) → IsEither R (making_at first w) (making_at left w) (value_at made w)

no_some : {X : Type 0} (x : X) → None ≡ Some x → ⊥
no_some x is = cc

-- one more is made
module _ {X : Type 0} (R : Making → X → Type 0) (first left left' : Makings) (made made' : BTreeMap (String Global) (Box X Global)) (name : List ℕ) (making : Box Making Global) (column : Box X Global)
    (value : tree.get_by_text left name ≡ Some making)
    (taken : (w : List ℕ) → tree.get_by_text left' w ≡ update bytes_eq (tree.get_by_text left) name None w)
    (sets : (w : List ℕ) → tree.get_by_text made' w ≡ update bytes_eq (tree.get_by_text made) name (Some column) w)
    (is : R making.value column.value) where
  here : IsEither R (making_at first name) (making_at left name) (value_at made name) → IsEither R (making_at first name) None (Some column.value)
  here (inl waits) = inr (record { making = making.value; column = column.value; was = sym waits.0 ∙ ap (option_map (λ b. b.value)) value; gone = refl; there = refl; is = is })
  here (inr done) = absurd (no_some making.value (sym done.gone ∙ ap (option_map (λ b. b.value)) value))

  at : (w : List ℕ) (t : Bool) → bytes_eq name w ≡ t → IsEither R (making_at first w) (making_at left w) (value_at made w)
      → IsEither R (making_at first w) (option_map (λ b. b.value) (if t then None else tree.get_by_text left w)) (option_map (λ b. b.value) (if t then Some column else tree.get_by_text made w))
  at w true same before =
      subst (λ v. IsEither R (making_at first v) None (Some column.value)) ((bytes_decides name w).0 same)
      (here (subst (λ v. IsEither R (making_at first v) (making_at left v) (value_at made v)) (sym ((bytes_decides name w).0 same)) before))
  at w false other before = before

  pub one-finished : AreEither R first left made → AreEither R first left' made'
  one-finished before w =
      subst (λ (o : Option (Box Making Global)). IsEither R (making_at first w) (option_map (λ b. b.value) o) (value_at made' w)) (sym (taken w))
      (subst (λ (o : Option (Box X Global)). IsEither R (making_at first w) (option_map (λ b. b.value) (if bytes_eq name w then None else tree.get_by_text left w)) (option_map (λ b. b.value) o)) (sym (sets w))
      (at w (bytes_eq name w) refl (before w)))

-- none is made yet
pub none-finished : {X : Type 0} (R : Making → X → Type 0) (first : Makings) (made : BTreeMap (String Global) (Box X Global)) → ((w : List ℕ) → tree.get_by_text made w ≡ None) → AreEither R first first made
none-finished R first made none w = inl (refl, ap (option_map (λ b. b.value)) (none w))

both_none : (n : ℕ) (o : Option Making) (p : Option Column) → o ≡ None → p ≡ None → IsFinishedOr n o p
both_none n o p is none = subst (λ q. IsFinishedOr n q p) (sym is) (subst (λ q. IsFinishedOr n None q) (sym none) tt)

both_there : (n : ℕ) (o : Option Making) (p : Option Column) (m : Making) (c : Column) → o ≡ Some m → p ≡ Some c → IsFinished n m c → IsFinishedOr n o p
both_there n o p m c is there made = subst (λ q. IsFinishedOr n q p) (sym is) (subst (λ q. IsFinishedOr n (Some m) q) (sym there) made)

-- all are
pub all-finished : (n : ℕ) (first left : Makings) (made : Columns) → ((w : List ℕ) → tree.get_by_text left w ≡ None) → AreEither (IsFinished n) first left made → AreFinished n first made
all-finished n first left made none either w = by_case (either w)
  where
    by_case : IsEither (IsFinished n) (making_at first w) (making_at left w) (column_at made w) → IsFinishedOr n (making_at first w) (column_at made w)
    by_case (inl waits) = both_none n (making_at first w) (column_at made w) (sym waits.0 ∙ ap (option_map (λ b. b.value)) (none w)) waits.1
    by_case (inr done) = both_there n (making_at first w) (column_at made w) done.making done.column done.was done.there done.is

put_none : (o p : Option Making) → o ≡ None → p ≡ None → IsPutOr o p
put_none o p is none = subst (λ q. IsPutOr q p) (sym is) (subst (λ q. IsPutOr None q) (sym none) tt)

put_there : (o p : Option Making) (m k : Making) → o ≡ Some m → p ≡ Some k → IsPut m k → IsPutOr o p
put_there o p m k is there made = subst (λ q. IsPutOr q p) (sym is) (subst (λ q. IsPutOr (Some m) q) (sym there) made)

-- all are listed
pub all-put : (first left made : Makings) → ((w : List ℕ) → tree.get_by_text left w ≡ None) → AreEither IsPut first left made → ArePut first made
all-put first left made none either w = by_case (either w)
  where
    by_case : IsEither IsPut (making_at first w) (making_at left w) (making_at made w) → IsPutOr (making_at first w) (making_at made w)
    by_case (inl waits) = put_none (making_at first w) (making_at made w) (sym waits.0 ∙ ap (option_map (λ b. b.value)) (none w)) waits.1
    by_case (inr done) = put_there (making_at first w) (making_at made w) done.making done.column done.was done.there done.is

-- ---- the places of numbers

few_at : (n : ℕ) (name : List ℕ) (left : Makings) (w : List ℕ) (t : Bool) → IfSome (making_at left w) (λ m. (z : ℤ) → All (λ p. p < n) (places_so_far_long m.longs z))
    → IfSome (option_map (λ b. b.value) (if t then None else tree.get_by_text left w)) (λ m. (z : ℤ) → All (λ p. p < n) (places_so_far_long m.longs z))
few_at n name left w true few = tt
few_at n name left w false few = few

pub few-left : (n : ℕ) (left left' : Makings) (name : List ℕ) → ((w : List ℕ) → tree.get_by_text left' w ≡ update bytes_eq (tree.get_by_text left) name None w) → HaveFewPlaces n left → HaveFewPlaces n left'
few-left n left left' name taken few w =
    subst (λ (o : Option (Box Making Global)). IfSome (option_map (λ b. b.value) o) (λ m. (z : ℤ) → All (λ p. p < n) (places_so_far_long m.longs z))) (sym (taken w)) (few_at n name left w (bytes_eq name w) (few w))

pub few-there : (n : ℕ) (left : Makings) (name : List ℕ) (making : Box Making Global) → tree.get_by_text left name ≡ Some making → HaveFewPlaces n left → (z : ℤ) → All (λ p. p < n) (places_so_far_long making.value.longs z)
few-there n left name making there few = subst (λ (o : Option (Box Making Global)). IfSome (option_map (λ b. b.value) o) (λ m. (z : ℤ) → All (λ p. p < n) (places_so_far_long m.longs z))) there (few name)
