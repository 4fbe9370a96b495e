-- Columns in the making of documents in pieces.
use Rattle.std.proofs.Common.{◌≡◌, ◌<◌, ◌+◌, ◌*◌, ◌⊎◌, inl, inr, ℕ, zero, suc, option_map, String, Box, Global, Bool, true, false, ◌||◌, List, [], ◌∷◌, ◌++◌, All, length, map, replicate, slice_set, refl, sym, ap, ◌∙◌, subst, arith, Option, Some, None, nat_lt, if◌then◌else◌}
use Rattle.std.specs.Prelude.{IfSome}
use Rattle.std.specs.BTreeMap as tree
use Rattle.std.specs.Map.{update}
use Rattle.std.specs.Str.{bytes_eq}
use Rattle.std.specs.Cmp.Lexicographic.{bytes_decides, nat_list_eq_equiv}
use Rattle.std.proofs.lemmas.List.{length-replicate}
use Rattle.std.proofs.lemmas.List.Elements.{All-append}
use Rattle.doc.specs.Fields.{Fields}
use Rattle.doc.specs.Scalar.{Scalar, text, long, flag}
use Rattle.doc.specs.Document.{Values, values_at}
use Rattle.marks.specs.Lists.{marked, places, places_from, zip_with}
use Rattle.segment.specs.Added.{making_at, IsLong, AreLong}
use Rattle.segment.specs.Indexed.{has_term, has_value}
use Rattle.segment.specs.Joined.{behind, AreJoined, AreMakings, ArePut, IsColumnOf, IsJoined, IsJoinedOr, IsMakingOr, IsPutOr}
use Rattle.segment.specs.Posted.{places_so_far, places_so_far_long}
use Rattle.segment.specs.declared.making.Making.{Making}
use Rattle.segment.proofs.AddedLaws.{Makings}
use Rattle.segment.proofs.Blocked.{marked-append, length-marked}
use Rattle.segment.proofs.Columns.{none_text, none_value, places-none}

-- ---- places and marks of documents behind others

places_from-append : {A : Type 0} (p : A → Bool) (n : ℕ) (xs ys : List A) → places_from p n (xs ++ ys) ≡ places_from p n xs ++ places_from p (n + length xs) ys
places_from-append p n [] ys = ap (λ m. places_from p m ys) (omega arith)
places_from-append p n (x ∷ xs) ys = front (p x) n (places_from p (n + 1) (xs ++ ys)) (places_from p (n + 1) xs) (places_from p (n + length (x ∷ xs)) ys)
    (places_from-append p (n + 1) xs ys ∙ ap (λ m. places_from p (n + 1) xs ++ places_from p m ys) (omega arith))
  where
    front : (b : Bool) (n : ℕ) (all first last : List ℕ) → all ≡ first ++ last → (if b then n ∷ all else all) ≡ (if b then n ∷ first else first) ++ last
    front true n all first last is = ap (λ ps. n ∷ ps) is
    front false n all first last is = is

all_replicate : {A : Type 0} (P : A → Type 0) (n : ℕ) (x : A) → P x → All P (replicate n x)
all_replicate P zero x holds k d lt = absurd (omega (arith, lt))
all_replicate P (suc n) x holds zero d lt = holds
all_replicate P (suc n) x holds (suc k) d lt = all_replicate P n x holds k d (omega (arith, lt))

module _ (test : Values → Bool) (none : test [] ≡ false) where
  abbrev none_at_all : Values
  none_at_all = []

  abbrev nothing : ℕ → List Values
  nothing n = replicate n none_at_all

  places-behind : (n : ℕ) (ys : List Values) → places test (behind n ys) ≡ places_from test n ys
  places-behind n ys =
      places_from-append test 0 (nothing n) ys
      ∙ ap (λ ps. ps ++ places_from test (0 + length (nothing n)) ys) (places-none test 0 (nothing n) (all_replicate (λ d. test d ≡ false) n [] none))
      ∙ ap (λ m. places_from test m ys) (ap (λ m. 0 + m) (length-replicate n none_at_all) ∙ omega arith)

  -- the places in two pieces
  places-joined : (xs ys : List Values) → places test (xs ++ ys) ≡ places test xs ++ places test (behind (length xs) ys)
  places-joined xs ys = places_from-append test 0 xs ys ∙ ap (λ ps. places test xs ++ ps) (ap (λ m. places_from test m ys) (omega arith) ∙ sym (places-behind (length xs) ys))

or_true : (a : Bool) → (a || true) ≡ true
or_true true = refl
or_true false = refl

zip-set : (ms ns : List Bool) (p : ℕ) → length ms ≡ length ns → zip_with (λ a b. a || b) ms (slice_set ns p true) ≡ slice_set (zip_with (λ a b. a || b) ms ns) p true
zip-set [] [] p same = refl
zip-set [] (n ∷ ns) p same = absurd (omega (arith, same))
zip-set (m ∷ ms) [] p same = absurd (omega (arith, same))
zip-set (m ∷ ms) (n ∷ ns) zero same = ap (λ b. b ∷ zip_with (λ a b. a || b) ms ns) (or_true m)
zip-set (m ∷ ms) (n ∷ ns) (suc p) same = ap (λ bs. (m || n) ∷ bs) (zip-set ms ns p (omega (arith, same)))

length-set : (ms : List Bool) (p : ℕ) (b : Bool) → length (slice_set ms p b) ≡ length ms
length-set [] p b = refl
length-set (m ∷ ms) zero b = refl
length-set (m ∷ ms) (suc p) b = ap suc (length-set ms p b)

zip-marked : (ms ns : List Bool) (ps : List ℕ) → length ms ≡ length ns → zip_with (λ a b. a || b) ms (marked ns ps) ≡ marked (zip_with (λ a b. a || b) ms ns) ps
zip-marked ms ns [] same = refl
zip-marked ms ns (p ∷ ps) same = zip-marked ms (slice_set ns p true) ps (same ∙ sym (length-set ns p true)) ∙ ap (λ bs. marked bs ps) (zip-set ms ns p same)

zip-none : (ms : List Bool) (n : ℕ) → length ms ≡ n → zip_with (λ a b. a || b) ms (replicate n false) ≡ ms
zip-none [] n same = refl
zip-none (m ∷ ms) zero same = absurd (omega (arith, same))
zip-none (m ∷ ms) (suc n) same = ap (λ b. b ∷ zip_with (λ a b. a || b) ms (replicate n false)) (or_none m) ∙ ap (λ bs. m ∷ bs) (zip-none ms n (omega (arith, same)))
  where
    or_none : (a : Bool) → (a || false) ≡ a
    or_none true = refl
    or_none false = refl

-- the marks of two lists of places
marks-joined : (n : ℕ) (ps qs : List ℕ) → zip_with (λ a b. a || b) (marked (replicate n false) ps) (marked (replicate n false) qs) ≡ marked (replicate n false) (ps ++ qs)
marks-joined n ps qs =
    let long = length-marked (replicate n false) ps in
    zip-marked (marked (replicate n false) ps) (replicate n false) qs long
    ∙ ap (λ bs. marked bs qs) (zip-none (marked (replicate n false) ps) n (long ∙ length-replicate n false))
    ∙ sym (marked-append (replicate n false) ps qs)

all_behind : {A : Type 0} (P : A → Type 0) (n : ℕ) (x : A) (ys : List A) → All P (replicate n x ++ ys) → All P ys
all_behind P zero x ys all = all
all_behind P (suc n) x ys all = all_behind P n x ys (λ k d lt. all (suc k) d (omega (arith, lt)))

-- ---- a column of two pieces

module _ (fields : Fields) (name : List ℕ) (xs ys : List Values) (n : ℕ) where
  no_long : (t : Scalar) → has_term fields name t [] ≡ false
  no_long t = none_text fields name t [] refl

  no_one : has_value name [] ≡ false
  no_one = none_value name [] refl

  first-only : (test : Values → Bool) → ((d : Values) → values_at name d ≡ [] → test d ≡ false) → All (λ d. values_at name d ≡ []) (behind (length xs) ys) → places test (xs ++ ys) ≡ places test xs
  first-only test none all =
      places-joined test (none [] refl) xs ys ∙ ap (λ ps. places test xs ++ ps) (places-none test 0 (behind (length xs) ys) (λ k d lt. none _ (all k d lt))) ∙ nil (places test xs)
    where
      nil : (ps : List ℕ) → ps ++ [] ≡ ps
      nil [] = refl
      nil (p ∷ ps) = ap (λ qs. p ∷ qs) (nil ps)

  later-only : (test : Values → Bool) → ((d : Values) → values_at name d ≡ [] → test d ≡ false) → All (λ d. values_at name d ≡ []) xs → places test (xs ++ ys) ≡ places test (behind (length xs) ys)
  later-only test none all = places-joined test (none [] refl) xs ys ∙ ap (λ ps. ps ++ places test (behind (length xs) ys)) (places-none test 0 xs (λ k d lt. none _ (all k d lt)))

  -- the same column of more documents
  pub same-column : (docs all : List Values) (m : Making) → ((test : Values → Bool) → ((d : Values) → values_at name d ≡ [] → test d ≡ false) → places test all ≡ places test docs) → IsColumnOf fields docs name n m → IsColumnOf fields all name n m
  same-column docs all m same is =
      let value = same (has_value name) (none_value name) in
      let term = λ (t : Scalar). same (has_term fields name t) (none_text fields name t) in
      record {
        has = is.has ∙ ap (marked (replicate n false)) (sym value);
        texts = λ w. is.texts w ∙ sym (term (text w));
        longs = λ z. is.longs z ∙ sym (term (long z));
        yes = is.yes ∙ ap (marked (replicate n false)) (sym (term (flag true)));
        no = is.no ∙ ap (marked (replicate n false)) (sym (term (flag false)));
      }

  marks-of : (test : Values → Bool) → test [] ≡ false → (ms ns os : List Bool) → ms ≡ marked (replicate n false) (places test xs) → ns ≡ marked (replicate n false) (places test (behind (length xs) ys))
      → os ≡ zip_with (λ a b. a || b) ms ns → os ≡ marked (replicate n false) (places test (xs ++ ys))
  marks-of test none ms ns os first later is =
      is ∙ ap (λ bs. zip_with (λ a b. a || b) bs ns) first ∙ ap (zip_with (λ a b. a || b) (marked (replicate n false) (places test xs))) later
      ∙ marks-joined n (places test xs) (places test (behind (length xs) ys))
      ∙ ap (marked (replicate n false)) (sym (places-joined test none xs ys))

  both-columns : (a b c : Making) → IsColumnOf fields xs name n a → IsColumnOf fields (behind (length xs) ys) name n b → IsJoined a b c → IsColumnOf fields (xs ++ ys) name n c
  both-columns a b c first later is = record {
    has = marks-of (has_value name) no_one a.has b.has c.has first.has later.has is.has;
    texts = λ w. is.texts w ∙ ap (λ ps. ps ++ places_so_far b.texts w) (first.texts w) ∙ ap (λ ps. places (has_term fields name (text w)) xs ++ ps) (later.texts w) ∙ sym (places-joined (has_term fields name (text w)) (no_long (text w)) xs ys);
    longs = λ z. is.longs z ∙ ap (λ ps. ps ++ places_so_far_long b.longs z) (first.longs z) ∙ ap (λ ps. places (has_term fields name (long z)) xs ++ ps) (later.longs z) ∙ sym (places-joined (has_term fields name (long z)) (no_long (long z)) xs ys);
    yes = marks-of (has_term fields name (flag true)) (no_long (flag true)) a.yes b.yes c.yes first.yes later.yes is.yes;
    no = marks-of (has_term fields name (flag false)) (no_long (flag false)) a.no b.no c.no first.no later.no is.no;
  }

  making-joined : (o l r : Option Making) → IsMakingOr fields xs n name o → IsMakingOr fields (behind (length xs) ys) n name l → IsJoinedOr o l r → IsMakingOr fields (xs ++ ys) n name r
  making-joined None None r first later is =
      subst (IsMakingOr fields (xs ++ ys) n name) (sym is) (All-append (λ d. values_at name d ≡ []) xs ys first (all_behind (λ d. values_at name d ≡ []) (length xs) [] ys later))
  making-joined (Some a) None r first later is =
      subst (IsMakingOr fields (xs ++ ys) n name) (sym is) (same-column xs (xs ++ ys) a (λ test none. first-only test none later) first)
  making-joined None (Some b) r first later is =
      subst (IsMakingOr fields (xs ++ ys) n name) (sym is) (same-column (behind (length xs) ys) (xs ++ ys) b (λ test none. later-only test none first) later)
  making-joined (Some a) (Some b) None first later is = absurd is
  making-joined (Some a) (Some b) (Some c) first later is = both-columns a b c first later is

-- the columns of two pieces
pub makings-joined : (fields : Fields) (xs ys : List Values) (n begin : ℕ) (old later new : Makings) → begin ≡ length xs → AreMakings fields xs n old → AreMakings fields (behind begin ys) n later → AreJoined old later new → AreMakings fields (xs ++ ys) n new
makings-joined fields xs ys n begin old later new at first more is = λ w.
    making-joined fields w xs ys n (making_at old w) (making_at later w) (making_at new w) (first w)
    (subst (λ (b : ℕ). IsMakingOr fields (behind b ys) n w (making_at later w)) at (more w)) (is w)

put_or : (fields : Fields) (docs : List Values) (n : ℕ) (name : List ℕ) (o r : Option Making) → IsPutOr o r → IsMakingOr fields docs n name o → IsMakingOr fields docs n name r
put_or fields docs n name None None same is = is
put_or fields docs n name None (Some b) same is = absurd same
put_or fields docs n name (Some a) None same is = absurd same
put_or fields docs n name (Some a) (Some b) same is = record {
  has = same.has ∙ is.has;
  texts = λ w. same.texts w ∙ is.texts w;
  longs = λ z. same.longs z ∙ is.longs z;
  yes = same.yes ∙ is.yes;
  no = same.no ∙ is.no;
}

-- the same columns, however their texts and numbers are put
pub makings-put : (fields : Fields) (docs : List Values) (n : ℕ) (old new : Makings) → ArePut old new → AreMakings fields docs n old → AreMakings fields docs n new
makings-put fields docs n old new same is = λ w. put_or fields docs n w (making_at old w) (making_at new w) (same w) (is w)

pub length-behind : (n : ℕ) (ys : List Values) → length (behind n ys) ≡ n + length ys
length-behind zero ys = omega arith
length-behind (suc n) ys = ap suc (length-behind n ys) ∙ omega arith

pub behind-more : (n : ℕ) (ys zs : List Values) → behind n (ys ++ zs) ≡ behind n ys ++ zs
behind-more zero ys zs = refl
behind-more (suc n) ys zs = ap (λ ds. [] ∷ ds) (behind-more n ys zs)

-- no columns, of documents without values
pub nothing-yet : (fields : Fields) (begin n : ℕ) (ms : Makings) → ((w : List ℕ) → tree.get_by_text ms w ≡ None) → AreMakings fields (behind begin []) n ms
nothing-yet fields begin n ms none w =
    subst (λ (o : Option (Box Making Global)). IsMakingOr fields (behind begin []) n w (option_map (λ b. b.value) o)) (sym (none w))
    (All-append (λ d. values_at w d ≡ []) (replicate begin []) [] (all_replicate (λ d. values_at w d ≡ []) begin [] refl) (λ k d lt. absurd (omega (arith, lt))))

-- ---- one field more of two maps

length-zip : (as_ bs : List Bool) → length as_ ≡ length bs → length (zip_with (λ a b. a || b) as_ bs) ≡ length as_
length-zip [] bs same = refl
length-zip (a ∷ ms) [] same = absurd (omega (arith, same))
length-zip (a ∷ ms) (b ∷ bs) same = ap suc (length-zip ms bs (omega (arith, same)))

pub long-joined : (n : ℕ) (a b c : Making) → IsLong n a → IsLong n b → IsJoined a b c → IsLong n c
long-joined n a b c first later is = record {
  has = ap length is.has ∙ length-zip a.has b.has (first.has ∙ sym later.has) ∙ first.has;
  yes = ap length is.yes ∙ length-zip a.yes b.yes (first.yes ∙ sym later.yes) ∙ first.yes;
  no = ap length is.no ∙ length-zip a.no b.no (first.no ∙ sym later.no) ∙ first.no;
}

module _ (old new : Makings) (name : List ℕ) (m : Box Making Global) (sets : (w : List ℕ) → tree.get_by_text new w ≡ update bytes_eq (tree.get_by_text old) name (Some m) w) where
  pub there : making_at new name ≡ Some m.value
  there = ap (option_map (λ b. b.value)) (sets name ∙ ap (λ b. if b then Some m else tree.get_by_text old name) (nat_list_eq_equiv.refl name))

  pub elsewhere : (w : List ℕ) → bytes_eq name w ≡ false → making_at new w ≡ making_at old w
  elsewhere w apart = ap (option_map (λ b. b.value)) (sets w ∙ ap (λ b. if b then Some m else tree.get_by_text old w) apart)

  long_at : (n : ℕ) (w : List ℕ) (b : Bool) → IfSome (making_at old w) (IsLong n) → IsLong n m.value → IfSome (option_map (λ b. b.value) (if b then Some m else tree.get_by_text old w)) (IsLong n)
  long_at n w true before is = is
  long_at n w false before is = before

  pub long-with : (n : ℕ) → AreLong n old → IsLong n m.value → AreLong n new
  long-with n before is w = subst (λ (o : Option (Box Making Global)). IfSome (option_map (λ b. b.value) o) (IsLong n)) (sym (sets w)) (long_at n w (bytes_eq name w) (before w) is)

-- a field of the later columns waits or is joined
abbrev pub WaitsOrIsJoined : Option Making → Option Making → Option Making → Option Making → Type 0
WaitsOrIsJoined old later left now = ((left ≡ later) × (now ≡ old)) ⊎ ((left ≡ None) × IsJoinedOr old later now)

abbrev pub AllWaitOrAreJoined : Makings → Makings → Makings → Makings → Type 0
AllWaitOrAreJoined old later left now = (w : List ℕ) → WaitsOrIsJoined (making_at old w) (making_at later w) (making_at left w) (making_at now w)

module _ (old later left left' now now' : Makings) (name : List ℕ) (m : Box Making Global)
    (value : tree.get_by_text left name ≡ Some m)
    (taken : (w : List ℕ) → tree.get_by_text left' w ≡ update bytes_eq (tree.get_by_text left) name None w)
    (is : IsJoinedOr (making_at now name) (Some m.value) (making_at now' name))
    (others : (w : List ℕ) → bytes_eq name w ≡ false → making_at now' w ≡ making_at now w) where
  gone : making_at left' name ≡ None
  gone = ap (option_map (λ b. b.value)) (taken name ∙ ap (λ b. if b then None else tree.get_by_text left name) (nat_list_eq_equiv.refl name))

  joined_here : WaitsOrIsJoined (making_at old name) (making_at later name) (making_at left name) (making_at now name) → WaitsOrIsJoined (making_at old name) (making_at later name) (making_at left' name) (making_at now' name)
  joined_here (inl waits) =
      inr (
        gone,
        subst (λ o. IsJoinedOr o (making_at later name) (making_at now' name)) waits.1
            (subst (λ l. IsJoinedOr (making_at now name) l (making_at now' name)) (sym (ap (option_map (λ b. b.value)) value) ∙ waits.0) is),
      )
  joined_here (inr done) = absurd (let wrong : None ≡ Some m.value = sym done.0 ∙ ap (option_map (λ b. b.value)) value in cc)

  joined_at : (w : List ℕ) (b : Bool) → bytes_eq name w ≡ b → WaitsOrIsJoined (making_at old w) (making_at later w) (making_at left w) (making_at now w) → WaitsOrIsJoined (making_at old w) (making_at later w) (making_at left' w) (making_at now' w)
  joined_at w true same before =
      let at : name ≡ w = (bytes_decides name w).0 same in
      subst (λ v. WaitsOrIsJoined (making_at old v) (making_at later v) (making_at left' v) (making_at now' v)) at
      (joined_here (subst (λ v. WaitsOrIsJoined (making_at old v) (making_at later v) (making_at left v) (making_at now v)) (sym at) before))
  joined_at w false apart before =
      let stays : making_at left' w ≡ making_at left w = ap (option_map (λ b. b.value)) (taken w ∙ ap (λ b. if b then None else tree.get_by_text left w) apart) in
      subst (λ l. WaitsOrIsJoined (making_at old w) (making_at later w) l (making_at now' w)) (sym stays)
      (subst (λ o. WaitsOrIsJoined (making_at old w) (making_at later w) (making_at left w) o) (sym (others w apart)) before)

  pub one-field-joined : AllWaitOrAreJoined old later left now → AllWaitOrAreJoined old later left' now'
  one-field-joined before w = joined_at w (bytes_eq name w) refl (before w)

  left_long : (n : ℕ) (w : List ℕ) (b : Bool) → IfSome (making_at left w) (IsLong n) → IfSome (option_map (λ b. b.value) (if b then None else tree.get_by_text left w)) (IsLong n)
  left_long n w true is_long = tt
  left_long n w false is_long = is_long

  pub long-left : (n : ℕ) → AreLong n left → AreLong n left'
  long-left n are_long w = subst (λ (o : Option (Box Making Global)). IfSome (option_map (λ b. b.value) o) (IsLong n)) (sym (taken w)) (left_long n w (bytes_eq name w) (are_long w))

-- nothing is joined yet
pub none-joined : (old later : Makings) → AllWaitOrAreJoined old later later old
none-joined old later w = inl (refl, refl)

joined_or-none : (old later now : Option Making) → later ≡ None → now ≡ old → IsJoinedOr old later now
joined_or-none old later now none same = subst (λ l. IsJoinedOr old l now) (sym none) same

-- all are
pub all-joined : (old later left now : Makings) → ((w : List ℕ) → tree.get_by_text left w ≡ None) → AllWaitOrAreJoined old later left now → AreJoined old later now
all-joined old later left now none either w = by_case (either w)
  where
    by_case : WaitsOrIsJoined (making_at old w) (making_at later w) (making_at left w) (making_at now w) → IsJoinedOr (making_at old w) (making_at later w) (making_at now w)
    by_case (inl waits) = joined_or-none (making_at old w) (making_at later w) (making_at now w) (sym waits.0 ∙ ap (option_map (λ b. b.value)) (none w)) waits.1
    by_case (inr done) = done.1
